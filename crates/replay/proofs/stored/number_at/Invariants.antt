use mathlib.Core.Path.{◌≡◌}
use Prim.Native.Nat.{◌≤◌, max}
use lib.ListN.{length, drop}
use Rattle.replay.specs.Sample.{number_from, number_at}
use Rattle.replay.proofs.stored.number_at.Given as goal

abbrev pub invariant-loop-i : goal.invariant-loop-i
invariant-loop-i l = (number_from l.value l.i (drop l.i l.sample) ≡ number_at l.sample l.at) × (l.i ≤ max l.at (length l.sample))
