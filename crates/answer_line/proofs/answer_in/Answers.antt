-- The law takes what reading has left, which the goal does not show.
use Rattle.answer_line.proofs.Whole.{answer-read}
use Rattle.answer_line.proofs.answer_in.Goals as goal

pub returns-in-Ok-clause-answer : goal.returns-in-Ok-clause-answer
returns-in-Ok-clause-answer c = answer-read _ _ c.requires _ c.in-Ok.ensures.answer _ c.in-Ok.ensures.contents _ _ _ c.answer_tree.ensures
