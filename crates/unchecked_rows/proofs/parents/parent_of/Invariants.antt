use Rattle.unchecked_rows.proofs.ParentClimb.{ClimbSo}
use Rattle.unchecked_rows.proofs.parents.parent_of.Given as goal

abbrev pub invariant-loop-p : goal.invariant-loop-p
invariant-loop-p g l = ClimbSo (g.T.KeptRows.words l.row.rows) l.row.at l.p

abbrev pub decreases-loop-p : goal.decreases-loop-p
decreases-loop-p g l = l.p
