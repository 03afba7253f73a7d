use mathlib.Core.Path.{◌≡◌}
use lib.ListN.{drop}
use Rattle.display_length.proofs.LatinLaws.{heaviest}
use Rattle.display_length.proofs.strings.is_clean.Given as goal

-- The loop keeps the greatest weight of all, as seen from the greatest so far and the bytes that are left.
abbrev pub invariant-loop-c : goal.invariant-loop-c
invariant-loop-c l = heaviest 0 l.s ≡ heaviest l.top (drop l.c-index l.s)
