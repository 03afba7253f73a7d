use Rattle.std.proofs.Common.{List, ℕ, ◌∙◌, sym, ap, refl, arith}
use Rattle.std.proofs.lemmas.List.Edits.{sets}
use Rattle.half_rows.specs.HalfRows.{unhalved}
use Rattle.half_rows.proofs.Keeping.{taken-more, taken-long, one_more}
use Rattle.half_rows.proofs.keep.put_words.Goals as goal

pub loop-i-preserved : goal.loop-i-preserved
loop-i-preserved c =
    let i = c.loop-i.i in
    let table = unhalved c.args.halves.halves.now in
    one_more 12 i c.args.rows.now c.loop-i.rows _ _ _ c.loop-i.invariant (taken-long c.args.halves.halves.now i (omega arith)) (c.copy_from_slice.ensures.after ∙ c.wide_row-row.ensures) refl (omega arith)
    ∙ ap (λ (s : List ℕ). sets c.args.rows.now 0 s) (sym (taken-more table i (omega arith)))
