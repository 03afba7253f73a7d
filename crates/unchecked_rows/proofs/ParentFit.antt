-- What `parents_fit` finds in a tree's table is what soundness asks of the tree; what `set_parents` leaves fits.
--   view_fits                  of a table that nests: `parents_fit` of the table is `parents_right` of its tree
--   right_is, parented_right   parents are right exactly where setting them changes nothing
--   set_fits, fits_set         a tree's table with the parents set fits, and one that fits is that table
use mathlib.Core.Path.{◌≡◌, refl, sym, ap, ◌∙◌}
use mathlib.Core.Bool.{Bool, true, ◌&&◌, and_assoc}
use mathlib.Core.List.{List, [], ◌++◌, append-nil}
use mathlib.Core.Option.{some}
use Prim.Native.Nat.{ℕ, zero, suc, ◌+◌, ◌/◌, ◌≤◌}
use native.Mathlib.Omega.{arith}
use lib.ListN.{length}
use lib.Dec.{T, eqb, eqb→eq}
use borrow.Author.Tests.{eq-eqb}
use Rattle.tokenizer.proofs.Basics.{and_l, and_r}
use Rattle.datatype.specs.Tree.{Forest, ∅, node, count, Row}
use Rattle.datatype.specs.Table.{row_words, table_of, view_of, parent_word_at}
use Rattle.unchecked_rows.specs.Parents.{parented_from, parented, with_parent, table_with, parents_right, parent_at, with_parents, fit_from, parents_fit}
use Rattle.datatype.proofs.Table.{length_table, table_view}
use Rattle.unchecked_rows.proofs.ParentTree.{Stands, Inside, row-parent, row-kids, row_next, inside-here, inside-kids, inside-next, stands-first, inside-first, count_parented, view_with_parents}

module _ (table : List ℕ) where
  pub fit_append : (m n i : ℕ) → fit_from table i (m + n) ≡ (fit_from table i m && fit_from table (i + m) n)
  unfolding fit_from
  fit_append zero n i =
      let a : 0 + n ≡ n = omega arith in
      let b : i + 0 ≡ i = omega arith in
      rw (a, b)
  fit_append (suc m) n i =
      let a : suc m + n ≡ suc (m + n) = omega arith in
      let b : i + suc m ≡ suc i + m = omega arith in
      rw (a, b, fit_append m n (suc i)) (sym (and_assoc (eqb (parent_word_at table i) (parent_at table i)) (fit_from table (suc i) m) (fit_from table (suc i + m) n)))

  fit_row : (i n : ℕ) → fit_from table i (suc n) ≡ (eqb (parent_word_at table i) (parent_at table i) && fit_from table (suc i) n)
  unfolding fit_from
  fit_row i n = refl

  pub fit-run : (f : Forest Row) (p i : ℕ) (rest : List ℕ) → Stands table i f rest → Inside table p i (count f) → fit_from table i (count f) ≡ parents_right p i f
  fit-run ∅ p i rest s c = unfold fit_from parents_right in refl
  fit-run (node r kids next) p i rest s c =
      fit_append (suc (count kids)) (count next) i
      ∙ ap (λ (b : Bool). b && fit_from table (i + suc (count kids)) (count next)) (fit_row i (count kids))
      ∙ whole (row-parent table i r kids next rest s) (inside-here table p i r kids next rest s c)
      (fit-run kids i (suc i) (table_of next ++ rest) (row-kids table i r kids next rest s) (inside-kids table p i r kids next rest s c))
      (fit-run next p (i + suc (count kids)) rest (row_next table i r kids next rest s) (inside-next table p i r kids next rest s c))
    where
      whole : parent_word_at table i ≡ r.parent → parent_at table i ≡ p → fit_from table (suc i) (count kids) ≡ parents_right i (suc i) kids
          → fit_from table (i + suc (count kids)) (count next) ≡ parents_right p (i + suc (count kids)) next
          → (eqb (parent_word_at table i) (parent_at table i) && fit_from table (suc i) (count kids) && fit_from table (i + suc (count kids)) (count next)) ≡ parents_right p i (node r kids next)
      whole w q k n = rw (w, q, k, n) (unfold parents_right in refl)

pub table_fits : (f : Forest Row) → parents_fit (table_of f) ≡ parents_right 0 0 f
unfolding parents_fit
table_fits f =
    let n : length (table_of f) / row_words ≡ count f = omega (arith, length_table f) in
    ap (λ (k : ℕ). fit_from (table_of f) 0 k) n
    ∙ ap (λ (t : List ℕ). fit_from t 0 (count f)) (sym (append-nil (table_of f)))
    ∙ fit-run (table_of f ++ []) f 0 0 [] (stands-first f []) (inside-first f [])

pub view_fits : (t : List ℕ) (f : Forest Row) → view_of t ≡ some f → parents_fit t ≡ parents_right 0 0 f
view_fits t f e = ap parents_fit (sym (table_view t f e)) ∙ table_fits f

-- ---- right parents, and parents that are set

own_parent : (r : Row) → with_parent r.parent r ≡ r
unfolding with_parent
own_parent r = refl

pub right_node : (p i : ℕ) (r : Row) (kids next : Forest Row) → T (parents_right p i (node r kids next))
    → (r.parent ≡ p) × T (parents_right i (suc i) kids) × T (parents_right p (i + suc (count kids)) next)
right_node p i r kids next h = apart (unfold parents_right in h)
  where
    apart : T (eqb r.parent p && parents_right i (suc i) kids && parents_right p (i + suc (count kids)) next)
        → (r.parent ≡ p) × T (parents_right i (suc i) kids) × T (parents_right p (i + suc (count kids)) next)
    apart q =
        let a = eqb r.parent p in
        let b = parents_right i (suc i) kids in
        let c = parents_right p (i + suc (count kids)) next in
        (eqb→eq r.parent p (and_l a b (and_l (a && b) c q)), and_r a b (and_l (a && b) c q), and_r (a && b) c q)

pub right_is : (p i : ℕ) (f : Forest Row) → T (parents_right p i f) → parented_from p i f ≡ f
unfolding parented_from
right_is p i ∅ h = refl
right_is p i (node r kids next) h =
    let q = right_node p i r kids next h in
    let own : with_parent p r ≡ r = ap (λ (n : ℕ). with_parent n r) (sym q.0) ∙ own_parent r in
    let k = right_is i (suc i) kids q.1 in
    let n = right_is p (i + suc (count kids)) next q.2 in
    λ j. node (own j) (k j) (n j)

pub parented_right : (p i : ℕ) (f : Forest Row) → parents_right p i (parented_from p i f) ≡ true
unfolding parented_from parents_right with_parent
parented_right p i ∅ = refl
parented_right p i (node r kids next) =
    rw (eq-eqb p p refl, count_parented i (suc i) kids, parented_right i (suc i) kids, parented_right p (i + suc (count kids)) next)

-- a tree's table with the parents set fits
pub set_fits : (t : List ℕ) (f : Forest Row) → view_of t ≡ some f → count f ≤ 1024 → parents_fit (with_parents t) ≡ true
set_fits t f e h = ap parents_fit (view_with_parents t f e h) ∙ table_fits (parented f) ∙ parented_right 0 0 f

-- a tree's table that fits is the table with the parents set
pub fits_set : (t : List ℕ) (f : Forest Row) → view_of t ≡ some f → T (parents_fit t) → table_with f ≡ t
fits_set t f e h = ap table_of (right_is 0 0 f (rw (view_fits t f e) at h)) ∙ table_view t f e
