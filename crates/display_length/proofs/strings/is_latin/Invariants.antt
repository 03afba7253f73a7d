use mathlib.Core.Path.{◌≡◌}
use lib.ListN.{drop}
use Rattle.display_length.proofs.LatinLaws.{greatest}
use Rattle.display_length.proofs.strings.is_latin.Given as goal

-- The loop keeps the greatest byte of all, as seen from the greatest so far and the bytes that are left.
abbrev pub invariant-loop-c : goal.invariant-loop-c
invariant-loop-c l = greatest 0 l.s ≡ greatest l.top (drop l.c-index l.s)
