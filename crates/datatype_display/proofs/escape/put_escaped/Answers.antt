-- The law takes what was left before a byte, which the goal does not show.
use Rattle.datatype_display.proofs.Escapes.{next_step}
use Rattle.datatype_display.proofs.escape.put_escaped.Goals as goal

pub loop-c-preserved : goal.loop-c-preserved
loop-c-preserved c = next_step _ _ _ c.loop-c.invariant c.loop-c-test.true c.put_next-next.ensures
