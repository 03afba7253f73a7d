-- The laws take the node that the iterator gave, which the goals do not show.
use mathlib.Core.Path.{sym, ap, ◌∙◌}
use native.Mathlib.Omega.{arith}
use Rattle.column_out.proofs.FieldLaws.{none-there, here, behind}
use Rattle.column_out.proofs.fields.nth.Goals as goal

pub returns-then-left-eq0 : goal.returns-then-left-eq0
returns-then-left-eq0 c =
    let f = c.in-Some.ensures.steps in
    let v = c.loop-field.invariant in
    (f.of ∙ v.of, sym v.found ∙ here _ _ _ _ f (ap (λ w. w.now.tree.rows.now) v.of) _ c.if-left-eq0.true)

pub loop-field-preserved : goal.loop-field-preserved
loop-field-preserved c =
    let f = c.in-Some.ensures.steps in
    let v = c.loop-field.invariant in
    record {
      of = f.of_left ∙ v.of;
      found = behind _ _ _ _ f (ap (λ w. w.now.tree.rows.now) v.of) _ _ (omega arith) ∙ v.found;
    }

pub returns : goal.returns
returns c = sym c.loop-field.invariant.found ∙ none-there _ _ _ _ c.in-None.ensures.steps.0
