-- The whole rows of the table of a run of trees, and the run one after the other.
use mathlib.Core.Path.{◌≡◌, refl, sym, ap, ◌∙◌}
use mathlib.Core.List.{List, [], ◌∷◌, ◌++◌, append_assoc, append-nil}
use Prim.Native.Nat.{ℕ, suc, ◌+◌, ◌/◌}
use native.Mathlib.Omega.{arith}
use lib.ListN.{length}
use Rattle.datatype.specs.Tree.{Forest, ∅, node, count, map_forest, Row, label_of, labels}
use Rattle.datatype.specs.Table.{row_words, words_of, table_of}
use Rattle.unchecked_rows.specs.Equal.{first_rows, whole_rows}
use Rattle.datatype.proofs.Table.{length_table}

-- the rows of a run of trees, each as its words
abbrev pub rows_of : Forest Row → List (List ℕ)
rows_of ∅ = []
rows_of (node r kids next) = words_of r (suc (count kids)) ∷ (rows_of kids ++ rows_of next)

first_row : (r : Row) (c n : ℕ) (ws : List ℕ) → first_rows (suc n) (words_of r c ++ ws) ≡ words_of r c ∷ first_rows n ws
unfolding words_of
first_row r c n ws = refl

first_rows_lem : (f : Forest Row) (m : ℕ) (rest : List ℕ) → first_rows (count f + m) (table_of f ++ rest) ≡ rows_of f ++ first_rows m rest
unfolding table_of
first_rows_lem ∅ m rest = let e : 0 + m ≡ m = omega arith in rw e
first_rows_lem (node r kids next) m rest =
    let e : suc (count kids) + count next + m ≡ suc (count kids + (count next + m)) = omega arith in
    let a : (words_of r (suc (count kids)) ++ (table_of kids ++ table_of next)) ++ rest ≡ words_of r (suc (count kids)) ++ (table_of kids ++ (table_of next ++ rest)) =
    append_assoc (words_of r (suc (count kids))) (table_of kids ++ table_of next) rest ∙ ap (λ (l : List ℕ). words_of r (suc (count kids)) ++ l) (append_assoc (table_of kids) (table_of next) rest) in
    ap (λ (k : ℕ). first_rows k ((words_of r (suc (count kids)) ++ (table_of kids ++ table_of next)) ++ rest)) e
    ∙ ap (λ (l : List ℕ). first_rows (suc (count kids + (count next + m))) l) a
    ∙ first_row r (suc (count kids)) (count kids + (count next + m)) (table_of kids ++ (table_of next ++ rest))
    ∙ ap (λ (l : List (List ℕ)). words_of r (suc (count kids)) ∷ l) (first_rows_lem kids (count next + m) (table_of next ++ rest) ∙ ap (λ (l : List (List ℕ)). rows_of kids ++ l) (first_rows_lem next m rest) ∙ sym (append_assoc (rows_of kids) (rows_of next) (first_rows m rest)))

-- the whole rows of a tree's table are its rows
pub whole_rows_lem : (f : Forest Row) → whole_rows (table_of f) ≡ rows_of f
unfolding whole_rows
whole_rows_lem f =
    let e : length (table_of f) / row_words ≡ count f + 0 = omega (arith, length_table f) in
    ap (λ (n : ℕ). first_rows n (table_of f)) e
    ∙ ap (λ (l : List ℕ). first_rows (count f + 0) l) (sym (append-nil (table_of f)))
    ∙ first_rows_lem f 0 []
    ∙ append-nil (rows_of f)

-- what a run says has as many rows
pub count_map : {A B : Type 0} (g : A → B) (f : Forest A) → count (map_forest g f) ≡ count f
count_map g ∅ = refl
count_map g (node a kids next) = λ j. suc (count_map g kids j) + count_map g next j

pub count_labels : (text names : List ℕ) (f : Forest Row) → count (labels text names f) ≡ count f
unfolding labels
count_labels text names f = count_map (label_of text names) f
