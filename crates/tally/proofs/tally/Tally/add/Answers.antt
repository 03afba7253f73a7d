-- What is known of the counts stands in the model's invariant, which the search does not open.
use mathlib.Core.Path.{◌≡◌, sym, ap, ◌∙◌, subst}
use native.Mathlib.Omega.{arith}
use Rattle.tally.specs.Tally.{Counts, tally_after}
use Rattle.tally.specs.Laws.{IsTally}
use Rattle.tally.proofs.OneMore.{seen, line_counted, rows-few-enough, rows-countable, levels-fit, ok-fits, counted-accepted, number-in, refused-fits, counted-refused, still-tally, one-more, full-answer, full-counts, full-rows, more-answer, more-rows}
use Rattle.tally.proofs.tally.Tally.add.Goals as goal
use Rattle.tally.proofs.tally.Tally.add.Goals.{in-Ok, in-Err}

pub returns-then-self-ge-LINES-clause-answer : goal.returns-then-self-ge-LINES-clause-answer
returns-then-self-ge-LINES-clause-answer c = full-answer c.args.self.now c.args.line.now c.args.rows.now (omega (arith, ap (λ (t : Counts). t.lines) c.self.view_is))

pub returns-then-self-ge-LINES-clause-counts : goal.returns-then-self-ge-LINES-clause-counts
returns-then-self-ge-LINES-clause-counts c = full-counts c.args.self.now c.args.line.now c.args.rows.now (omega (arith, ap (λ (t : Counts). t.lines) c.self.view_is))

pub returns-then-self-ge-LINES-clause-contents : goal.returns-then-self-ge-LINES-clause-contents
returns-then-self-ge-LINES-clause-contents c = full-rows c.args.self.now c.args.line.now c.args.rows.now (omega (arith, ap (λ (t : Counts). t.lines) c.self.view_is))

pub returns-then-self-ge-LINES-clause-one_more : goal.returns-then-self-ge-LINES-clause-one_more
returns-then-self-ge-LINES-clause-one_more c ls e h = returns-then-self-ge-LINES-clause-counts c ∙ one-more c.args.self.now c.args.line.now ls e h

pub returns-clause-answer : goal.returns-clause-answer
returns-clause-answer c = more-answer c.args.self.now c.args.line.now c.args.rows.now (omega (arith, ap (λ (t : Counts). t.lines) c.self.view_is))

pub returns-clause-contents : goal.returns-clause-contents
returns-clause-contents c = c.parse_data_type.ensures.contents ∙ more-rows c.args.self.now c.args.line.now c.args.rows.now (omega (arith, ap (λ (t : Counts). t.lines) c.self.view_is))

pub overflow_mul-tree : goal.overflow_mul-tree
overflow_mul-tree c =
    record { fits = omega (arith, rows-few-enough c.self.inside c.self.invariant c.if-self-ge-LINES.false c.args.line.now c.args.rows.now (omega arith) c.in-Ok.n c.in-Ok.ensures.answer c.parse_data_type.new.rows c.parse_data_type.ensures.contents) }

pub shared_ref_as_front-tree : goal.shared_ref_as_front-tree
shared_ref_as_front-tree c =
    omega (arith, rows-few-enough c.self.inside c.self.invariant c.if-self-ge-LINES.false c.args.line.now c.args.rows.now (omega arith) c.in-Ok.n c.in-Ok.ensures.answer c.parse_data_type.new.rows c.parse_data_type.ensures.contents)

pub count_kinds-requires : goal.count_kinds-requires
count_kinds-requires c =
    rows-countable c.self.inside c.self.invariant c.if-self-ge-LINES.false c.args.line.now c.args.rows.now (omega arith) c.in-Ok.n c.in-Ok.ensures.answer c.parse_data_type.new.rows c.parse_data_type.ensures.contents

pub overflow_cast-levels_of : goal.overflow_cast-levels_of
overflow_cast-levels_of c =
    record { fits = omega (arith, c.levels_of.ensures, levels-fit c.self.inside c.self.invariant c.if-self-ge-LINES.false c.args.line.now c.args.rows.now (omega arith) c.in-Ok.n c.in-Ok.ensures.answer c.parse_data_type.new.rows c.parse_data_type.ensures.contents) }

pub overflow_add-self : goal.overflow_add-self
overflow_add-self c =
    record { fits = omega (arith, ok-fits c.self.inside c.self.invariant c.if-self-ge-LINES.false c.args.line.now c.args.rows.now (omega arith) c.in-Ok.n c.in-Ok.ensures.answer c.parse_data_type.new.rows c.parse_data_type.ensures.contents) }

pub bounds-self-inside-number : goal.bounds-self-inside-number
bounds-self-inside-number c =
    let n = number-in c.self.inside c.self.invariant c.if-self-ge-LINES.false c.args.line.now c.args.rows.now (omega arith) c.in-Err.error c.in-Err.ensures.answer c.number.result c.number.ensures in
    omega (arith, n.0, n.1)

pub bounds-self-inside-number-in-Err : goal.bounds-self-inside-number-in-Err
bounds-self-inside-number-in-Err c =
    let n = number-in c.self.inside c.self.invariant c.if-self-ge-LINES.false c.args.line.now c.args.rows.now (omega arith) c.in-Err.error c.in-Err.ensures.answer c.number.result c.number.ensures in
    omega (arith, n.0, n.1)

pub overflow_add-self-in-Err : goal.overflow_add-self-in-Err
overflow_add-self-in-Err c =
    record { fits = omega (arith, refused-fits c.self.inside c.self.invariant c.if-self-ge-LINES.false c.args.line.now c.args.rows.now (omega arith) c.in-Err.error c.in-Err.ensures.answer c.number.result c.number.ensures) }

counts : (c : goal.After-self-2-1) → line_counted c.match-parse_data_type.self-inside ≡ tally_after (seen c.self.inside) c.args.line.now
counts c = elim c.match-parse_data_type.branch [
  | in-Ok w ↦
      counted-accepted c.self.inside c.self.invariant c.if-self-ge-LINES.false c.args.line.now c.args.rows.now (omega arith) w.in-Ok.n w.in-Ok.ensures.answer c.parse_data_type.new.rows c.parse_data_type.ensures.contents
      _ w.count_kinds.ensures _ _ w.levels_of.ensures w.max-self-inside.ensures c.match-parse_data_type.self-inside w.self-inside-is
  | in-Err w ↦
      counted-refused c.self.inside c.self.invariant c.if-self-ge-LINES.false c.args.line.now c.args.rows.now (omega arith) w.in-Err.error w.in-Err.ensures.answer w.number.result w.number.ensures
      c.match-parse_data_type.self-inside w.self-inside-is
]

pub invariant_of-self : goal.invariant_of-self
invariant_of-self c = subst IsTally (sym (counts c)) (still-tally (seen c.self.inside) c.args.line.now c.self.invariant c.if-self-ge-LINES.false)

pub returns-clause-counts : goal.returns-clause-counts
returns-clause-counts c = counts c ∙ ap (λ (t : Counts). tally_after t c.args.line.now) c.self.view_is

pub returns-clause-one_more : goal.returns-clause-one_more
returns-clause-one_more c ls e h = returns-clause-counts c ∙ one-more c.args.self.now c.args.line.now ls e h
