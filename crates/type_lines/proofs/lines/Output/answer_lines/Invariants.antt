use Rattle.type_lines.proofs.Going.{Reached}
use Prim.Native.Nat.{◌-◌}
use lib.ListN.{length}
use Rattle.type_lines.proofs.lines.Output.answer_lines.Given as goal

abbrev pub invariant-loop-wrote : goal.invariant-loop-wrote
invariant-loop-wrote l = Reached l.input l.fn.p l.place l.wrote l.initial.self.bytes l.self.bytes

abbrev pub decreases-loop-wrote : goal.decreases-loop-wrote
decreases-loop-wrote l = length l.input - l.place.from
