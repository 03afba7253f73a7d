-- The law takes what was written before, which the goal does not name.
use Rattle.input_lines.proofs.Moving.{written-more}
use Rattle.input_lines.proofs.streams.write_out.Goals as goal

pub loop-at-preserved : goal.loop-at-preserved
loop-at-preserved g c = written-more _ _ _ _ c.loop-at.invariant _ _ c.in_ok-at.ensures
