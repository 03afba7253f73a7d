use mathlib.Core.Path.{◌≡◌}
use Prim.Native.Nat.{◌+◌}
use lib.ListN.{length, drop}
use Rattle.display_length.specs.Display.{escaped_from, quoted}
use Rattle.display_length.proofs.strings.paired_length.Given as goal

-- what is counted and what is left are the whole
abbrev pub invariant-loop-c : goal.invariant-loop-c
invariant-loop-c l = l.total + length (escaped_from l.lead (drop l.c-index l.s)) ≡ length (quoted l.s)
