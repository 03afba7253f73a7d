use Rattle.std.proofs.Common.{List, ℕ, ◌∙◌, sym, ap, refl, arith}
use Rattle.std.proofs.lemmas.List.Edits.{sets}
use Rattle.half_rows.proofs.Keeping.{halved-more, halved-long, one_more}
use Rattle.half_rows.proofs.keep.put_halves.Goals as goal

pub loop-i-preserved : goal.loop-i-preserved
loop-i-preserved c =
    let i = c.loop-i.i in
    let rows = c.args.rows.now in
    one_more 13 i c.args.halves.now c.loop-i.halves _ _ _ c.loop-i.invariant (halved-long i rows (omega arith)) (c.copy_from_slice.ensures.after ∙ c.half_row-row.ensures) refl (omega arith)
    ∙ ap (λ (s : List ℕ). sets c.args.halves.now 0 s) (sym (halved-more i rows (omega arith)))
