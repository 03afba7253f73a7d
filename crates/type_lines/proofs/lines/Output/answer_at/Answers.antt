-- Each is two laws of what `copy_within` and `answer_line` leave, which the goals do not name.
use Rattle.type_lines.proofs.Going.{wrote-within, wrote_at}
use mathlib.Core.Path.{refl}
use Prim.Native.Nat.{◌-◌}
use borrow.Rule.Slice.PartMut.{same_len_mid}
use native.Mathlib.Omega.{arith}
use Rattle.type_lines.proofs.lines.Output.answer_at.Goals as goal

pub overflow_add-result : goal.overflow_add-result
overflow_add-result c = record { fits = omega (arith, c.unwrap_or.ensures, wrote-within _ _ c.args.self.now.bytes _ _ c.args.wrote 65536 (omega arith) (omega arith) c.requires refl _ c.answer_line.ensures.answer c.answer_line.ensures.bytes c.answer_line.auto.out) }

pub returns : goal.returns
returns c = (rw c.unwrap_or.ensures (wrote_at _ _ c.args.self.now.bytes _ _ c.args.wrote 65536 (omega arith) (omega arith) c.requires refl _ c.answer_line.ensures.answer c.answer_line.ensures.bytes c.answer_line.auto.out _ refl), same_len_mid c.args.wrote (65536 - c.args.wrote) c.args.self.now.bytes _ c.answer_line.auto.out)
