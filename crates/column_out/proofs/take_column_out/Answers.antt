-- The laws take what stays, which the goals do not show.
use mathlib.Core.Path.{refl}
use native.Mathlib.Omega.{arith}
use Rattle.std.proofs.lemmas.Grind.{common_steps}
use Rattle.column_out.proofs.TakenLaws.{refused-answer, refused-rows, refused-bytes, full-answer, full-rows, full-bytes, taken-answer, taken-rows, taken-bytes, same-lent-rows, same-lent-text}
use Rattle.column_out.proofs.take_column_out.Goals as goal

pub returns-in_err-kept-clause-answer : goal.returns-in_err-kept-clause-answer
returns-in_err-kept-clause-answer c = refused-answer _ _ _ _ _ _ _ c.in_err-kept.ensures _ c.from_residual.ensures.1

pub returns-in_err-kept-clause-contents : goal.returns-in_err-kept-clause-contents
returns-in_err-kept-clause-contents c = refused-rows _ _ _ _ _ _ _ c.in_err-kept.ensures

pub returns-in_err-kept-clause-bytes : goal.returns-in_err-kept-clause-bytes
returns-in_err-kept-clause-bytes c = refused-bytes _ _ _ _ _ _ _ c.in_err-kept.ensures

pub returns-then-not-fits-clause-answer : goal.returns-then-not-fits-clause-answer
returns-then-not-fits-clause-answer c = full-answer _ _ _ _ _ _ _ c.in_ok-kept.ensures (grind (arith, common_steps))

pub returns-then-not-fits-clause-contents : goal.returns-then-not-fits-clause-contents
returns-then-not-fits-clause-contents c = full-rows _ _ _ _ _ _ _ c.in_ok-kept.ensures (grind (arith, common_steps))

pub returns-then-not-fits-clause-bytes : goal.returns-then-not-fits-clause-bytes
returns-then-not-fits-clause-bytes c = full-bytes _ _ _ _ _ _ _ c.in_ok-kept.ensures (grind (arith, common_steps))

pub returns-clause-answer : goal.returns-clause-answer
returns-clause-answer c =
    taken-answer _ _ _ _ c.args.rows.now c.args.text.now _ c.in_ok-kept.ensures (grind (arith, common_steps)) _ refl refl refl refl
    _ c.label.ensures _ _ _ _ c.put_row.ensures.packed c.put_rows.ensures c.put_rows-2.ensures c.set_parents.ensures

pub returns-clause-contents : goal.returns-clause-contents
returns-clause-contents c =
    let same = same-lent-rows _ _ _ _ c.args.rows.now c.args.text.now _ c.in_ok-kept.ensures (grind (arith, common_steps)) _ refl refl refl refl _ c.label.ensures _ _ _ _ c.put_row.ensures.packed c.put_rows.ensures c.put_rows-2.ensures c.set_parents.ensures in
    taken-rows _ _ _ _ c.args.rows.now c.args.text.now _ c.in_ok-kept.ensures (grind (arith, common_steps)) _ refl refl refl refl
    _ c.label.ensures _ _ _ _ c.put_row.ensures.packed c.put_rows.ensures c.put_rows-2.ensures c.set_parents.ensures _ (grind (arith, same))

pub returns-clause-bytes : goal.returns-clause-bytes
returns-clause-bytes c =
    let same = same-lent-text _ _ _ _ c.args.rows.now c.args.text.now _ c.in_ok-kept.ensures (grind (arith, common_steps)) _ refl refl refl refl _ c.label.ensures _ _ _ _ c.put_row.ensures.packed c.put_rows.ensures c.put_rows-2.ensures c.set_parents.ensures in
    taken-bytes _ _ _ _ c.args.rows.now c.args.text.now _ c.in_ok-kept.ensures (grind (arith, common_steps)) _ refl refl refl refl
    _ c.label.ensures _ _ _ _ c.put_row.ensures.packed c.put_rows.ensures c.put_rows-2.ensures c.set_parents.ensures _ (grind (arith, same))
