-- The laws of what was written take the writer before it, which a search for their parts does not.
use mathlib.Core.Path.{refl, sym, ◌∙◌}
use native.Mathlib.Omega.{arith}
use borrow.Author.Rules.{rules}
use Rattle.writer.proofs.Written.{same_output}
use Rattle.answer_line.proofs.Writing.{head_place, head_framed}
use Rattle.answer_line.proofs.write.Head.frame.Goals as goal

pub overflow_add-writer : goal.overflow_add-writer
overflow_add-writer c = let h = head_place _ _ _ _ c.put.ensures refl c.args.self.now.few c.args.self.now.low in search (rules, arith)

pub shape_of-out : goal.shape_of-out
shape_of-out c = sym (same_output _ _ _ c.put_byte.ensures ∙ same_output _ _ _ c.put.ensures)

pub returns : goal.returns
returns c = head_framed _ _ _ _ c.put.ensures refl c.args.self.now.few c.args.self.now.low _ _ c.requires (omega arith) (omega arith) c.put_byte.ensures
