-- What comes next is known by the law of `input_lines`, which the goals do not name.
use mathlib.Core.Path.{sym, ◌∙◌}
use Rattle.type_counts.proofs.Lines.{reached-whole, reached-long, over-whole, over-long, over-left, left-counted, lines-over, is-full, not-full}
use native.Mathlib.Omega.{arith}
use Rattle.type_counts.proofs.counter.Counter.count_lines.Goals as goal
use Rattle.type_counts.proofs.counter.Counter.count_lines.Goals.{then-left-input+else-is_full, else-left-input}

pub loop-from-preserved-in-Whole : goal.loop-from-preserved-in-Whole
loop-from-preserved-in-Whole c = reached-whole _ _ _ _ _ c.loop-from.invariant _ c.add.ensures.answer _ c.in_ok-add-in-Whole.was _ _ _ (sym c.in-Whole.is ∙ c.next_line.ensures) c.add.ensures.counts

pub loop-from-preserved : goal.loop-from-preserved
loop-from-preserved c = reached-long _ _ _ _ _ c.loop-from.invariant _ c.add-in-Long.ensures.answer _ c.in_ok-add-in-Long.was _ _ (sym c.in-Long.is ∙ c.next_line.ensures) c.add-in-Long.ensures.counts

pub returns-in_err-add-in-Whole : goal.returns-in_err-add-in-Whole
returns-in_err-add-in-Whole c =
    lines-over _ _ _ _ _ c.from_residual.ensures.0
    (over-whole _ _ _ _ _ c.loop-from.invariant _ c.add.ensures.answer _ c.in_err-add-in-Whole.was _ _ (sym c.in-Whole.is ∙ c.next_line.ensures))

pub returns-in_err-add-in-Long : goal.returns-in_err-add-in-Long
returns-in_err-add-in-Long c =
    lines-over _ _ _ _ _ c.from_residual-in_err-add-in-Long.ensures.0
    (over-long _ _ _ _ _ c.loop-from.invariant _ c.add-in-Long.ensures.answer _ c.in_err-add-in-Long.was _ (sym c.in-Long.is ∙ c.next_line.ensures))

pub returns-in-Unfinished : goal.returns-in-Unfinished
returns-in-Unfinished c =
    over-left _ _ _ _ _ c.loop-from.invariant _ (sym c.in-Unfinished.is ∙ c.next_line.ensures) c.if-left-input.true
    (is-full c.loop-from.self.tally _ c.is_full.ensures c.if-is_full.true)

pub returns-in-Unfinished-2 : goal.returns-in-Unfinished-2
returns-in-Unfinished-2 c =
    left-counted _ _ _ _ _ c.loop-from.invariant _ (sym c.in-Unfinished.is ∙ c.next_line.ensures) (λ begun full.
    elim c.if-left-input.branch [
      | then-left-input+else-is_full w ↦ let n = not-full c.loop-from.self.tally _ w.is_full.ensures w.if-is_full.false in omega arith
      | else-left-input w ↦ let f = w.if-left-input.false in omega arith
    ])
