-- What stands before the place is written.
use Prim.Native.Nat.{◌-◌}
use lib.ListN.{length}
use Rattle.input_lines.proofs.Moving.{Written}
use Rattle.input_lines.proofs.streams.write_out.Given as goal

abbrev pub invariant-loop-at : goal.invariant-loop-at
invariant-loop-at g l = Written (g.O.Write.contents l.initial.stdout) (g.O.Write.contents l.stdout) l.bytes l.at

abbrev pub decreases-loop-at : goal.decreases-loop-at
decreases-loop-at g l = length l.bytes - l.at
