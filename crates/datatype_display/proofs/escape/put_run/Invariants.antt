use Rattle.datatype_display.specs.Internal.Steps.{Ran}
use Rattle.datatype_display.proofs.escape.put_run.Given as goal

abbrev pub invariant-loop-i : goal.invariant-loop-i
invariant-loop-i l = Ran l.initial.out l.at l.s l.i l.out
