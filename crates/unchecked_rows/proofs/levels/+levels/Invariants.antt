use Prim.Native.Nat.{◌-◌}
use Rattle.unchecked_rows.proofs.LevelLaws.{LevelsSo}
use Rattle.unchecked_rows.proofs.levels.+levels.Given as goal

abbrev pub invariant-loop-at : goal.invariant-loop-at
invariant-loop-at l = LevelsSo l.rows l.most l.start l.end l.deepest l.at

abbrev pub decreases-loop-at : goal.decreases-loop-at
decreases-loop-at l = l.end - l.at

-- Each call has one level less.
abbrev pub decreases-levels : goal.decreases-levels
decreases-levels l = l.most
