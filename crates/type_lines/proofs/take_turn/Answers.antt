-- The goal is a pair, which grind opens, and the law's conclusion does not show what lies between.
use Rattle.type_lines.proofs.Turns.{turn-wrote}
use native.Mathlib.Omega.{arith}
use Rattle.type_lines.proofs.take_turn.Goals as goal

pub returns : goal.returns
returns g c = turn-wrote _ _ _ c.requires _ _ c.answer_lines-q.ensures.0 _ _ _ c.in_ok-flush.ensures (omega (arith, c.if-q.false))
