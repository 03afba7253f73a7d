-- The goal is a record or a pair, which grind opens, and the law's conclusion does not show what lies between.
use Rattle.type_lines.proofs.Going.{then_whole, then_long, then_left}
use mathlib.Core.Path.{sym, ◌∙◌}
use Rattle.type_lines.proofs.lines.Output.answer_lines.Goals as goal

pub loop-wrote-preserved-in-Whole : goal.loop-wrote-preserved-in-Whole
loop-wrote-preserved-in-Whole c = then_whole _ _ _ _ _ _ c.loop-wrote.invariant _ _ _ _ (sym c.in-Whole.is ∙ c.next_line.ensures) c.answer_at-wrote.ensures

pub loop-wrote-preserved : goal.loop-wrote-preserved
loop-wrote-preserved c = then_long _ _ _ _ _ _ c.loop-wrote.invariant _ _ _ (sym c.in-Long.is ∙ c.next_line.ensures) c.answer_at-wrote-in-Long.ensures

pub returns-in-Unfinished : goal.returns-in-Unfinished
returns-in-Unfinished c = then_left _ _ _ _ _ _ c.loop-wrote.invariant c.in-Unfinished.left (sym c.in-Unfinished.is ∙ c.next_line.ensures)
