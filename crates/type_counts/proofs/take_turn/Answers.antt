-- The laws take what was read, which the goals do not name.
use mathlib.Core.Path.{refl}
use native.Mathlib.Omega.{arith}
use Rattle.type_counts.proofs.Turns.{turn-ended, turn-over-last, turn-over, turn-read}
use Rattle.type_counts.proofs.take_turn.Goals as goal

pub returns-in-Ok : goal.returns-in-Ok
returns-in-Ok g c = turn-ended _ _ _ c.requires _ _ _ _ c.in_ok-n.ensures c.if-n-eq0.true _ c.in-Ok.ensures

pub returns-in-Err : goal.returns-in-Err
returns-in-Err g c = turn-over-last _ _ _ c.requires _ _ _ _ c.in_ok-n.ensures c.if-n-eq0.true c.in-Err.field-0 c.count_last.new.self.tally c.in-Err.ensures

pub returns-in_default : goal.returns-in_default
returns-in_default g c = turn-over _ _ _ c.requires _ _ _ _ c.in_ok-n.ensures _ refl c.count_lines.new.self.tally c.in_default.ensures

pub returns : goal.returns
returns g c = turn-read _ _ _ c.requires _ _ _ _ c.in_ok-n.ensures _ refl _ _ c.in-Ok-count_lines.ensures _ c.move_to_front-size.ensures.size _ c.move_to_front-size.ensures.bytes c.if-n-eq0.false (omega arith)
