use mathlib.Core.Path.{refl}
use native.Mathlib.Omega.{arith}
use lib.ListN.{length}
use Rattle.archive.proofs.Filling.{handed-on}
use Rattle.archive.proofs.Packing.{few-lent, pack-lost, pack-deep, same-lent-rows, same-lent-text, packs}
use Rattle.archive.proofs.fill.pack.Goals as goal

pub fill_tree-requires : goal.fill_tree-requires
fill_tree-requires c = record { few = omega (arith, few-lent (length c.args.rows.now), c.rows_lent.ensures) }

pub returns-in_err-deep : goal.returns-in_err-deep
returns-in_err-deep c =
    pack-lost _ _ _ _ _ _ (record { of-rows = refl; of-text = refl; no-rows = refl; no-bytes = refl; room = λ j. record { rows = c.rows_lent.ensures j; bytes = c.min.ensures j } })
    _ _ _ _ _ c.fill_tree.ensures c.in_err-deep.was (handed-on _ _ c.from_residual.ensures.1)

pub returns-then-deep : goal.returns-then-deep
returns-then-deep c =
    pack-deep _ _ _ _ _ _ (record { of-rows = refl; of-text = refl; no-rows = refl; no-bytes = refl; room = λ j. record { rows = c.rows_lent.ensures j; bytes = c.min.ensures j } })
    _ _ _ _ c.fill_tree.ensures c.in_ok-deep.was c.if-deep.true

pub returns : goal.returns
returns c =
    packs _ _ _ _ _ _ (record { of-rows = refl; of-text = refl; no-rows = refl; no-bytes = refl; room = λ j. record { rows = c.rows_lent.ensures j; bytes = c.min.ensures j } })
    _ _ c.fill_tree.ensures c.in_ok-deep.was c.if-deep.false _ c.set_parents.ensures _ _
    (grind (arith, same-lent-rows _ _ _ _ _ _ (record { of-rows = refl; of-text = refl; no-rows = refl; no-bytes = refl; room = λ j. record { rows = c.rows_lent.ensures j; bytes = c.min.ensures j } }) _ _ c.fill_tree.ensures c.in_ok-deep.was c.if-deep.false _ c.set_parents.ensures))
    (grind (arith, same-lent-text _ _ _ _ _ _ (record { of-rows = refl; of-text = refl; no-rows = refl; no-bytes = refl; room = λ j. record { rows = c.rows_lent.ensures j; bytes = c.min.ensures j } }) _ _ c.fill_tree.ensures c.in_ok-deep.was c.if-deep.false _ c.set_parents.ensures))
