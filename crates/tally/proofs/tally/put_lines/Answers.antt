-- The law takes what was written before, which the goal does not name.
use Rattle.tally.proofs.Reports.{reached-next}
use Rattle.tally.proofs.tally.put_lines.Goals as goal

pub loop-n-preserved : goal.loop-n-preserved
loop-n-preserved c = reached-next _ _ _ _ _ _ _ c.loop-n.invariant _ c.loop-n-test.true c.put_numbered.ensures
