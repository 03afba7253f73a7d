-- The other words fix the parents: why equality of trees does not look at them.
--   words-fix     in two tables whose parents fit, equal words 1 make equal words 11
--   labels_fix    two trees that say the same, with their parents right, have the same parents row by row
--   labels-parented   setting parents changes nothing that a tree says
use mathlib.Core.Path.{◌≡◌, refl, sym, ap, ◌∙◌}
use mathlib.Core.Bool.{Bool}
use mathlib.Core.List.{List, ◌∷◌, ◌++◌}
use Prim.Native.Nat.{ℕ, zero, suc, ◌+◌, ◌/◌, ◌≤◌, ◌<◌}
use native.Mathlib.Omega.{arith}
use native.Mathlib.Decide.{dec_lt}
use lib.ListN.{length}
use lib.Dec.{T, eqb, eqb→eq}
use Rattle.tokenizer.proofs.Basics.{and_l, and_r}
use Rattle.datatype.specs.Tree.{Forest, ∅, node, count, map_forest, Row, Label, label_of, labels}
use Rattle.datatype.specs.Table.{row_words, rows_at, parent_word_at}
use Rattle.unchecked_rows.specs.Parents.{parent_column, parents_from, parents_of, parented_from, parented, with_parent, parents_right, parent_at, fit_from, parents_fit}
use Rattle.unchecked_rows.proofs.ParentClimb.{holder_same}
use Rattle.unchecked_rows.proofs.ParentFit.{right_node}
use Rattle.unchecked_rows.proofs.RowList.{count_map}

-- ---- any two tables

fit_at : (table : List ℕ) (n i k : ℕ) → T (fit_from table i n) → i ≤ k → k < i + n → parent_word_at table k ≡ parent_at table k
fit_at table zero i k h l u = absurd (omega arith)
fit_at table (suc n) i k h l u =
    elim (dec_lt i k) [
      | yes m ↦ fit_at table n (suc i) k (and_r here (fit_from table (suc i) n) (unfold fit_from in h)) (omega arith) (omega arith)
      | no m ↦
          let e : k ≡ i = omega arith in
          rw e (eqb→eq (parent_word_at table i) (parent_at table i) (and_l here (fit_from table (suc i) n) (unfold fit_from in h)))
    ]
  where
    here : Bool
    here = eqb (parent_word_at table i) (parent_at table i)

module _ (table table' : List ℕ) (fit : T (parents_fit table)) (fit' : T (parents_fit table')) where
  pub words-fix : length table ≡ length table' → ((k : ℕ) → k < length table / row_words → rows_at table k ≡ rows_at table' k)
      → (k : ℕ) → k < length table / row_words → parent_word_at table k ≡ parent_word_at table' k
  words-fix e same k h =
      fit_at table (length table / row_words) 0 k (unfold parents_fit in fit) (omega arith) (omega arith)
      ∙ holder_same table table' k k (λ q l. same q (omega arith))
      ∙ sym (fit_at table' (length table' / row_words) 0 k (unfold parents_fit in fit') (omega arith) (rw (← e) (omega arith)))

-- ---- two trees

-- a run's parents are fixed by its shape
pub parents_map : {A B : Type 0} (g : A → B) (f : Forest A) (p i : ℕ) → parents_from p i (map_forest g f) ≡ parents_from p i f
unfolding parents_from
parents_map g ∅ p i = refl
parents_map g (node a kids next) p i = rw (count_map g kids, parents_map g kids i (suc i), parents_map g next p (i + suc (count kids)))

pub right_column : (p i : ℕ) (f : Forest Row) → T (parents_right p i f) → parent_column f ≡ parents_from p i f
unfolding parents_from
right_column p i ∅ h = refl
right_column p i (node r kids next) h =
    let q = right_node p i r kids next h in
    let k = right_column i (suc i) kids q.1 in
    let n = right_column p (i + suc (count kids)) next q.2 in
    λ j. q.0 j ∷ (k j ++ n j)

pub labels_parents : (text names : List ℕ) (f : Forest Row) → parents_of (labels text names f) ≡ parents_of f
unfolding labels
labels_parents text names f = parents_map (label_of text names) f 0 0

pub labels_fix : (text names text' names' : List ℕ) (f f' : Forest Row) → T (parents_right 0 0 f) → T (parents_right 0 0 f')
    → labels text names f ≡ labels text' names' f' → parent_column f ≡ parent_column f'
labels_fix text names text' names' f f' h h' e =
    right_column 0 0 f h
    ∙ sym (labels_parents text names f)
    ∙ ap (λ (l : Forest Label). parents_of l) e
    ∙ labels_parents text' names' f'
    ∙ sym (right_column 0 0 f' h')

-- ---- parents are no part of what a tree says

module _ (text names : List ℕ) where
  label-parent : (p : ℕ) (r : Row) → label_of text names (with_parent p r) ≡ label_of text names r
  unfolding label_of with_parent
  label-parent p r = refl

  labels_from : (p i : ℕ) (f : Forest Row) → map_forest (label_of text names) (parented_from p i f) ≡ map_forest (label_of text names) f
  unfolding parented_from
  labels_from p i ∅ = refl
  labels_from p i (node r kids next) =
      λ j. node (label-parent p r j) (labels_from i (suc i) kids j) (labels_from p (i + suc (count kids)) next j)

  pub labels-parented : (f : Forest Row) → labels text names (parented f) ≡ labels text names f
  unfolding labels
  labels-parented f = labels_from 0 0 f
