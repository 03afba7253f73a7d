-- Parents and soundness.
--   parented-sound   a tree that is sound but for its parents is sound with them: what a builder's proof ends with
--   set-sound        the same of a table that `set_parents` was given
--   equal-parents    equal sound trees have equal parents: why equality need not look at them
use mathlib.Core.Path.{◌≡◌, refl, sym, ap, ◌∙◌}
use mathlib.Core.Bool.{◌&&◌}
use mathlib.Core.List.{List}
use mathlib.Core.Option.{some}
use Prim.Native.Nat.{ℕ, suc, ◌+◌, ◌≤◌, max}
use native.Mathlib.Omega.{arith}
use lib.ListN.{length}
use lib.Dec.{T}
use Rattle.tokenizer.specs.Utf8.{is_utf8}
use Rattle.tokenizer.proofs.Basics.{of_true}
use Rattle.datatype.specs.Tree.{Forest, ∅, node, count, depth, Row, name_list, labels}
use Rattle.datatype.specs.Table.{view_of}
use Rattle.datatype.proofs.Table.{view_table, table_view}
use Rattle.row_table.specs.Sound.{bare, rows_fit, name_placed, zone_placed, placed, is_sound}
use Rattle.unchecked_rows.specs.Equal.{equal_trees}
use Rattle.unchecked_rows.specs.Parents.{parent_column, with_parent, parented_from, parented, table_with, with_parents}
use Rattle.row_table.proofs.SoundTree.{SoundTree, tree_sound}
use Rattle.unchecked_rows.proofs.ParentTree.{count_parented, view_with_parents}
use Rattle.unchecked_rows.proofs.ParentFit.{parented_right}
use Rattle.unchecked_rows.proofs.ParentFixed.{labels_fix, labels-parented}
use Rattle.unchecked_rows.proofs.Equivalence.{equal-labels}

pub depth_parented : (p i : ℕ) (f : Forest Row) → depth (parented_from p i f) ≡ depth f
unfolding parented_from
depth_parented p i ∅ = refl
depth_parented p i (node r kids next) = λ j. max (suc (depth_parented i (suc i) kids j)) (depth_parented p (i + suc (count kids)) next j)

module _ (text : List ℕ) where
  name-parent : (p : ℕ) (r : Row) → name_placed text (with_parent p r) ≡ name_placed text r
  unfolding name_placed with_parent
  name-parent p r = refl

  zone-parent : (p : ℕ) (r : Row) → zone_placed text (with_parent p r) ≡ zone_placed text r
  unfolding zone_placed with_parent
  zone-parent p r = refl

  pub placed-parented : (p i : ℕ) (f : Forest Row) → placed text (parented_from p i f) ≡ placed text f
  unfolding parented_from placed
  placed-parented p i ∅ = refl
  placed-parented p i (node r kids next) =
      λ j. name-parent p r j && zone-parent p r j && placed-parented i (suc i) kids j && placed-parented p (i + suc (count kids)) next j

  pub parented-tree : (r : Row) (k : Forest Row) → length text ≤ 16384 → T (is_utf8 text) → suc (count k) ≤ 1024 → suc (depth k) ≤ 64
      → T (placed text (node r k ∅)) → T (rows_fit bare (labels text name_list (node r k ∅))) → SoundTree text name_list (table_with (node r k ∅))
  parented-tree r k short good few flat places fits =
      record {
        root = with_parent 0 r;
        kids = parented_from 0 1 k;
        view = view_table (parented (node r k ∅)) ∙ ap some opened;
        short = short;
        utf8 = good;
        listed = refl;
        rows = omega (arith, count_parented 0 1 k);
        levels = omega (arith, depth_parented 0 1 k);
        places = rw (sym opened, placed-parented 0 0 (node r k ∅)) places;
        fits = rw (sym opened, labels-parented text name_list (node r k ∅)) fits;
        parents = rw (sym opened) (of_true _ (parented_right 0 0 (node r k ∅)));
      }
    where
      opened : parented (node r k ∅) ≡ node (with_parent 0 r) (parented_from 0 1 k) ∅
      opened = unfold parented_from in refl

  pub parented-sound : (r : Row) (k : Forest Row) → length text ≤ 16384 → T (is_utf8 text) → suc (count k) ≤ 1024 → suc (depth k) ≤ 64
      → T (placed text (node r k ∅)) → T (rows_fit bare (labels text name_list (node r k ∅))) → T (is_sound text name_list (table_with (node r k ∅)))
  parented-sound r k short good few flat places fits = tree_sound text name_list (table_with (node r k ∅)) (parented-tree r k short good few flat places fits)

  pub set-sound : (t : List ℕ) (r : Row) (k : Forest Row) → view_of t ≡ some (node r k ∅) → length text ≤ 16384 → T (is_utf8 text) → suc (count k) ≤ 1024 → suc (depth k) ≤ 64
      → T (placed text (node r k ∅)) → T (rows_fit bare (labels text name_list (node r k ∅))) → T (is_sound text name_list (with_parents t))
  set-sound t r k view short good few flat places fits =
      rw (view_with_parents t (node r k ∅) view (omega arith)) (parented-sound r k short good few flat places fits)

module _ (text names table text' names' table' : List ℕ) where
  pub equal-parents : (s : SoundTree text names table) (s' : SoundTree text' names' table') → T (equal_trees text names text' names' table table')
      → parent_column (node s.root s.kids ∅) ≡ parent_column (node s'.root s'.kids ∅)
  equal-parents s s' t =
      labels_fix text names text' names' f f' s.parents s'.parents
      (equal-labels text names text' names' f f' (rw (table_view table f s.view, table_view table' f' s'.view) t))
    where
      f : Forest Row
      f = node s.root s.kids ∅

      f' : Forest Row
      f' = node s'.root s'.kids ∅
