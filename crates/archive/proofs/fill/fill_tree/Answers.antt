use mathlib.Core.Path.{sym, ◌∙◌}
use Rattle.archive.proofs.Filling.{handed-on, tree-lost, tree-few, tree-kids-lost, tree-behind, tree-filled}
use Rattle.archive.proofs.fill.fill_tree.Goals as goal

pub returns-in_err-head : goal.returns-in_err-head
returns-in_err-head c = tree-lost _ _ _ _ _ _ (sym c.in_err-head.ensures) (handed-on _ _ c.from_residual.ensures.1)

pub fill-requires : goal.fill-requires
fill-requires c = record { few = tree-few _ _ c.args.packer.now c.in_ok-head.head (sym c.in_ok-head.ensures) c.requires.few }

pub returns-in_err-below : goal.returns-in_err-below
returns-in_err-below c =
    tree-kids-lost _ _ _ c.in_ok-head.head (sym c.in_ok-head.ensures) _ c.put_row.ensures.packed _ _ c.fill.ensures
    _ _ _ c.in_err-below.was (handed-on _ _ c.from_residual-in_err-below.ensures.1)

pub returns-then-not-is_empty : goal.returns-then-not-is_empty
returns-then-not-is_empty c =
    tree-behind _ _ _ c.in_ok-head.head (sym c.in_ok-head.ensures) _ c.put_row.ensures.packed _ _ c.fill.ensures
    _ c.in_ok-below.was _ (sym c.is_empty.ensures ∙ c.if-not-is_empty.true)

pub returns : goal.returns
returns c =
    tree-filled _ _ _ c.in_ok-head.head (sym c.in_ok-head.ensures) _ c.put_row.ensures.packed _ _ c.fill.ensures
    _ c.in_ok-below.was _ (sym c.is_empty.ensures ∙ c.if-not-is_empty.false) c.set_subtree.ensures
