-- The law takes the bytes that the loop has passed, which the goal does not show.
use native.Mathlib.Omega.{arith}
use Rattle.datatype_display.proofs.Escapes.{ran-more}
use Rattle.datatype_display.proofs.escape.put_run.Goals as goal

pub loop-i-preserved : goal.loop-i-preserved
loop-i-preserved c = ran-more _ _ _ _ _ c.loop-i.invariant (omega arith) _ c.is_itself.ensures c.if-not-is_itself.false
