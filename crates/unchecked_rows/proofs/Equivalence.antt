-- Equality of trees is an equivalence, and on tables that nest it says exactly that the trees say the same.
--   equal_refl, equal_sym, equal_trans   on all texts, name lists and words
--   equal-labels, labels-equal           equal tables are tables of equal labels, and the other way round
use mathlib.Core.Path.{◌≡◌, refl, sym, ap, ◌∙◌}
use mathlib.Core.Bool.{Bool}
use mathlib.Core.List.{List, [], ◌∷◌, ◌++◌}
use Prim.Native.Nat.{ℕ, suc}
use native.Mathlib.Omega.{arith}
use lib.ListN.{length, take, get_or, length-append}
use lib.Dec.{T}
use Rattle.std.proofs.lemmas.Bool.Decides.{nat_tests}
use Rattle.tokenizer.proofs.Listed.{same_path}
use Rattle.datatype.specs.Tree.{Forest, ∅, node, count, Row, Label, label_of, labels}
use Rattle.datatype.specs.Table.{words_of, row_of, table_of}
use Rattle.unchecked_rows.specs.Equal.{whole_rows, equal_row, equal_rows, equal_trees}
use Rattle.datatype.proofs.Same.{eq_same}
use Rattle.unchecked_rows.proofs.RowList.{rows_of, whole_rows_lem, count_labels}

-- ---- one row

-- what two rows that are equal share
pub record SameRow (text names text' names' ws ws' : List ℕ) : Type 0 where
  pub words : take 6 ws ≡ take 6 ws'
  pub name : (label_of text names (row_of ws)).name ≡ (label_of text' names' (row_of ws')).name
  pub zone : (label_of text names (row_of ws)).zone ≡ (label_of text' names' (row_of ws')).zone

module _ (text names text' names' ws ws' : List ℕ) where
  abbrev a : Label
  a = label_of text names (row_of ws)

  abbrev b : Label
  b = label_of text' names' (row_of ws')

  pub same_row : T (equal_row text names text' names' ws ws') → SameRow text names text' names' ws ws'
  unfolding equal_row
  same_row t = record { words = same_path (take 6 ws) (take 6 ws') (grind (arith, nat_tests)); name = same_path a.name b.name (grind (arith, nat_tests)); zone = same_path a.zone b.zone (grind (arith, nat_tests)) }

  pub row_same : SameRow text names text' names' ws ws' → T (equal_row text names text' names' ws ws')
  unfolding equal_row
  row_same s =
      let w = eq_same (take 6 ws) (take 6 ws') s.words in
      let n = eq_same a.name b.name s.name in
      let z = eq_same a.zone b.zone s.zone in
      grind (arith, nat_tests)

-- ---- an equivalence

rows_refl : (text names : List ℕ) (rs : List (List ℕ)) → T (equal_rows text names text names rs rs)
unfolding equal_rows
rows_refl text names [] = tt
rows_refl text names (r ∷ rs) =
    let h = row_same text names text names r r (record { words = refl; name = refl; zone = refl }) in
    let t = rows_refl text names rs in
    grind (arith, nat_tests)

module _ (text names text' names' : List ℕ) where
  rows-sym : (rs rs' : List (List ℕ)) → T (equal_rows text names text' names' rs rs') → T (equal_rows text' names' text names rs' rs)
  unfolding equal_rows
  rows-sym [] [] t = tt
  rows-sym [] (r ∷ rs) t = absurd t
  rows-sym (r ∷ rs) [] t = absurd t
  rows-sym (r ∷ rs) (r' ∷ rs') t =
      let s = same_row text names text' names' r r' (grind (arith, nat_tests)) in
      let h = row_same text' names' text names r' r (record { words = sym s.words; name = sym s.name; zone = sym s.zone }) in
      let u = rows-sym rs rs' (grind (arith, nat_tests)) in
      grind (arith, nat_tests)

  module _ (text'' names'' : List ℕ) where
    rows-trans : (rs rs' rs'' : List (List ℕ)) → T (equal_rows text names text' names' rs rs') → T (equal_rows text' names' text'' names'' rs' rs'') → T (equal_rows text names text'' names'' rs rs'')
    unfolding equal_rows
    rows-trans [] [] [] t u = tt
    rows-trans [] [] (r ∷ rs) t u = absurd u
    rows-trans [] (r ∷ rs) rs'' t u = absurd t
    rows-trans (r ∷ rs) [] rs'' t u = absurd t
    rows-trans (r ∷ rs) (r' ∷ rs') [] t u = absurd u
    rows-trans (r ∷ rs) (r' ∷ rs') (r'' ∷ rs'') t u =
        let s = same_row text names text' names' r r' (grind (arith, nat_tests)) in
        let w = same_row text' names' text'' names'' r' r'' (grind (arith, nat_tests)) in
        let h = row_same text names text'' names'' r r'' (record { words = s.words ∙ w.words; name = s.name ∙ w.name; zone = s.zone ∙ w.zone }) in
        let v = rows-trans rs rs' rs'' (grind (arith, nat_tests)) (grind (arith, nat_tests)) in
        grind (arith, nat_tests)

pub equal_refl : (text names table : List ℕ) → T (equal_trees text names text names table table)
unfolding equal_trees
equal_refl text names table = rows_refl text names (whole_rows table)

pub equal_sym : (text names text' names' table table' : List ℕ) → T (equal_trees text names text' names' table table') → T (equal_trees text' names' text names table' table)
unfolding equal_trees
equal_sym text names text' names' table table' = rows-sym text names text' names' (whole_rows table) (whole_rows table')

pub equal_trans : (text names text' names' text'' names'' table table' table'' : List ℕ) → T (equal_trees text names text' names' table table')
    → T (equal_trees text' names' text'' names'' table' table'') → T (equal_trees text names text'' names'' table table'')
unfolding equal_trees
equal_trans text names text' names' text'' names'' table table' table'' = rows-trans text names text' names' text'' names'' (whole_rows table) (whole_rows table') (whole_rows table'')

-- ---- equal tables say the same

row_of_lem : (r : Row) (c : ℕ) → row_of (words_of r c) ≡ r
unfolding row_of words_of
row_of_lem r c = refl

-- two rows with their subtrees' sizes
module _ (text names text' names' : List ℕ) (r r' : Row) (c c' : ℕ) where
  words_same : SameRow text names text' names' (words_of r c) (words_of r' c') → (c ≡ c') × (label_of text names r ≡ label_of text' names' r')
  unfolding words_of row_of label_of
  words_same s =
      let e = s.words in
      let kind : r.kind ≡ r'.kind = ap (λ (l : List ℕ). get_or l 0 0) e in
      let role : r.role ≡ r'.role = ap (λ (l : List ℕ). get_or l 2 0) e in
      let id : r.union_id ≡ r'.union_id = ap (λ (l : List ℕ). get_or l 3 0) e in
      let param : r.number ≡ r'.number = ap (λ (l : List ℕ). get_or l 4 0) e in
      let scale : r.scale ≡ r'.scale = ap (λ (l : List ℕ). get_or l 5 0) e in
      let name = s.name in
      let zone = s.zone in (
        ap (λ (l : List ℕ). get_or l 1 0) e,
        λ j. record { kind = kind j; role = role j; union_id = id j; number = param j; scale = scale j; name = name j; zone = zone j },
      )

  same-words : c ≡ c' → label_of text names r ≡ label_of text' names' r' → SameRow text names text' names' (words_of r c) (words_of r' c')
  unfolding words_of row_of label_of
  same-words e l =
      record {
        words = λ j. (l j).kind ∷ e j ∷ (l j).role ∷ (l j).union_id ∷ (l j).number ∷ (l j).scale ∷ [];
        name = λ j. (l j).name;
        zone = λ j. (l j).zone;
      }

pub length_rows : (f : Forest Row) → length (rows_of f) ≡ count f
length_rows ∅ = refl
length_rows (node r k n) =
    let a = length_rows k in
    let b = length_rows n in
    let c = length-append (rows_of k) (rows_of n) in
    omega arith

module _ (text names text' names' : List ℕ) where
  abbrev eq_rows : List (List ℕ) → List (List ℕ) → Bool
  eq_rows = equal_rows text names text' names'

  rows_split : (xs ys us vs : List (List ℕ)) → length xs ≡ length us → T (eq_rows (xs ++ ys) (us ++ vs)) → T (eq_rows xs us) × T (eq_rows ys vs)
  unfolding equal_rows
  rows_split [] ys [] vs e t = (tt, t)
  rows_split [] ys (c ∷ us) vs e t = absurd (omega arith)
  rows_split (a ∷ xs) ys [] vs e t = absurd (omega arith)
  rows_split (a ∷ xs) ys (c ∷ us) vs e t = let w = rows_split xs ys us vs (omega arith) (grind (arith, nat_tests)) in (grind (arith, nat_tests), w.1)

  rows_join : (xs ys us vs : List (List ℕ)) → T (eq_rows xs us) → T (eq_rows ys vs) → T (eq_rows (xs ++ ys) (us ++ vs))
  unfolding equal_rows
  rows_join [] ys [] vs t u = u
  rows_join [] ys (c ∷ us) vs t u = absurd t
  rows_join (a ∷ xs) ys [] vs t u = absurd t
  rows_join (a ∷ xs) ys (c ∷ us) vs t u = let w = rows_join xs ys us vs (grind (arith, nat_tests)) u in grind (arith, nat_tests)

  rows-labels : (f g : Forest Row) → T (eq_rows (rows_of f) (rows_of g)) → labels text names f ≡ labels text' names' g
  unfolding equal_rows labels
  rows-labels ∅ ∅ t = refl
  rows-labels ∅ (node r k n) t = absurd t
  rows-labels (node r k n) ∅ t = absurd t
  rows-labels (node r k n) (node r' k' n') t =
      let w = words_same text names text' names' r r' (suc (count k)) (suc (count k')) (same_row text names text' names' (words_of r (suc (count k))) (words_of r' (suc (count k'))) (grind (arith, nat_tests))) in
      let c = w.0 in
      let s = rows_split (rows_of k) (rows_of n) (rows_of k') (rows_of n') (omega (arith, length_rows k, length_rows k')) (grind (arith, nat_tests)) in
      let a = rows-labels k k' s.0 in
      let b = rows-labels n n' s.1 in
      let l = w.1 in
      λ j. node (l j) (a j) (b j)

  labels-count : (f g : Forest Row) → labels text names f ≡ labels text' names' g → count f ≡ count g
  labels-count f g e = sym (count_labels text names f) ∙ ap count e ∙ count_labels text' names' g

  labels-rows : (f g : Forest Row) → labels text names f ≡ labels text' names' g → T (eq_rows (rows_of f) (rows_of g))
  unfolding equal_rows labels
  labels-rows ∅ ∅ e = tt
  labels-rows ∅ (node r k n) e = absurd (let c = labels-count ∅ (node r k n) e in omega arith)
  labels-rows (node r k n) ∅ e = absurd (let c = labels-count (node r k n) ∅ e in omega arith)
  labels-rows (node r k n) (node r' k' n') e =
      let l : label_of text names r ≡ label_of text' names' r' = cc in
      let a : labels text names k ≡ labels text' names' k' = cc in
      let b : labels text names n ≡ labels text' names' n' = cc in
      let h = row_same text names text' names' (words_of r (suc (count k))) (words_of r' (suc (count k'))) (same-words text names text' names' r r' (suc (count k)) (suc (count k')) (ap suc (labels-count k k' a)) l) in
      let t = rows_join (rows_of k) (rows_of n) (rows_of k') (rows_of n') (labels-rows k k' a) (labels-rows n n' b) in
      grind (arith, nat_tests)

  -- equal tables are the tables of trees that say the same
  pub equal-labels : (f g : Forest Row) → T (equal_trees text names text' names' (table_of f) (table_of g)) → labels text names f ≡ labels text' names' g
  unfolding equal_trees
  equal-labels f g t = rows-labels f g (rw (whole_rows_lem f, whole_rows_lem g) at t)

  -- trees that say the same have equal tables
  pub labels-equal : (f g : Forest Row) → labels text names f ≡ labels text' names' g → T (equal_trees text names text' names' (table_of f) (table_of g))
  unfolding equal_trees
  labels-equal f g e = rw (whole_rows_lem f, whole_rows_lem g) (labels-rows f g e)
