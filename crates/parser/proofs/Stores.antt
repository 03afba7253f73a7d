-- Runs of trees as they are stored: a row in front of its children's, one run behind another, and a row made a field's.
use mathlib.Core.Path.{◌≡◌, refl, sym, ap, ◌∙◌}
use Prim.Native.Nat.{ℕ, suc, ◌+◌, ◌*◌, ◌-◌}
use native.Mathlib.Omega.{arith}
use mathlib.Core.List.{List, [], ◌∷◌, ◌++◌, append-nil, append_assoc}
use lib.ListN.{length, take, drop, set, get_or}
use lib.Seq.{sets, sets-eq}
use borrow.Rule.Slice.PartMut.{mid_of, put_mid}
use Rattle.std.proofs.Common.{length-append}
use Rattle.std.proofs.Math.Seq.{drop-append-add, drop-append_seam, take-append_seam}
use Rattle.std.proofs.lemmas.List.{drop-append-le, drop-drop, drop_all, length-drop, take_all}
use Rattle.datatype.specs.Tree.{Forest, ∅, node, count, Row}
use Rattle.datatype.specs.Table.{row_words, words_of, table_of}
use Rattle.datatype.proofs.Table.{length_table}
use Rattle.parser.specs.Parse.{Name, bare_row, field_row}
use Rattle.parser.specs.Internal.Steps.{Stored, rows_left}

-- ---- runs of trees, one behind the other

abbrev pub append : {A : Type 0} → Forest A → Forest A → Forest A
append ∅ g = g
append (node a kids next) g = node a kids (append next g)

pub count_append : (f g : Forest Row) → count (append f g) ≡ count f + count g
count_append ∅ g = omega arith
count_append (node r kids next) g = omega (arith, count_append next g)

table_append : (f g : Forest Row) → table_of (append f g) ≡ table_of f ++ table_of g
unfolding table_of
table_append ∅ g = refl
table_append (node r kids next) g =
    ap (λ (l : List ℕ). words_of r (suc (count kids)) ++ (table_of kids ++ l)) (table_append next g)
    ∙ ap (λ (l : List ℕ). words_of r (suc (count kids)) ++ l) (sym (append_assoc (table_of kids) (table_of next) (table_of g)))
    ∙ sym (append_assoc (words_of r (suc (count kids))) (table_of kids ++ table_of next) (table_of g))

pub append_none : (f : Forest Row) → append f ∅ ≡ f
append_none ∅ = refl
append_none (node r kids next) = ap (λ (f : Forest Row). node r kids f) (append_none next)

pub append_append : (f g h : Forest Row) → append (append f g) h ≡ append f (append g h)
append_append ∅ g h = refl
append_append (node r kids next) g h = ap (λ (f : Forest Row). node r kids f) (append_append next g h)

-- ---- a run that was stored

module _ (f : Forest Row) (before after : List ℕ) (s : Stored f before after) where
  -- its table stands first, and behind it what stood there
  pub first_words : take (row_words * count f) after ≡ table_of f
  first_words = rw (s.rows, ← length_table f) (take-append_seam (table_of f) (drop (length (table_of f)) before))

  words_behind : drop (row_words * count f) after ≡ drop (row_words * count f) before
  words_behind = rw (s.rows, ← length_table f) (drop-append_seam (table_of f) (drop (length (table_of f)) before))

  pub same_length : length after ≡ length before
  same_length =
      let r = s.room in
      ap length s.rows ∙ omega (arith, length-append (table_of f) (drop (row_words * count f) before), length_table f, length-drop (row_words * count f) before)

  -- more words behind stay as they were
  pub further : (rest : List ℕ) → Stored f (before ++ rest) (after ++ rest)
  further rest = record {
    room = let r = s.room in omega (arith, length-append before rest);
    rows =
        ap (λ (l : List ℕ). l ++ rest) s.rows
        ∙ append_assoc (table_of f) (drop (row_words * count f) before) rest
        ∙ ap (λ (l : List ℕ). table_of f ++ l) (sym (drop-append-le (row_words * count f) before rest s.room));
  }

-- the words from a row on, and the same words with others in their place
abbrev pub rows_from : ℕ → List ℕ → List ℕ
rows_from k xs = mid_of (row_words * k) (length xs - row_words * k) xs

abbrev pub with_rows : ℕ → List ℕ → List ℕ → List ℕ
with_rows k xs ys = put_mid (row_words * k) (length xs - row_words * k) xs ys

from_is : (k : ℕ) (xs : List ℕ) → rows_from k xs ≡ drop (row_words * k) xs
from_is k xs = take_all (length xs - row_words * k) (drop (row_words * k) xs) (omega (arith, length-drop (row_words * k) xs))

with_is : (k : ℕ) (xs ys : List ℕ) → with_rows k xs ys ≡ take (row_words * k) xs ++ ys
with_is k xs ys =
    ap (λ (l : List ℕ). take (row_words * k) xs ++ (ys ++ l)) (drop_all (length xs - row_words * k) (drop (row_words * k) xs) (omega (arith, length-drop (row_words * k) xs)))
    ∙ ap (λ (l : List ℕ). take (row_words * k) xs ++ l) (append-nil ys)

pub from_length : (k : ℕ) (xs : List ℕ) → length (rows_from k xs) ≡ length xs - row_words * k
from_length k xs = ap length (from_is k xs) ∙ length-drop (row_words * k) xs

-- a run behind a run of so many rows
module _ (f : Forest Row) (before mid : List ℕ) (used : ℕ) (e : used ≡ count f) (s : Stored f before mid) where
  pub left_behind : rows_left (rows_from used mid) ≡ rows_left before - used
  left_behind =
      let l = same_length f before mid s in
      ap rows_left (from_is used mid) ∙ omega (arith, length-drop (row_words * used) mid)

  module _ (g : Forest Row) (sub : List ℕ) (t : Stored g (rows_from used mid) sub) where
    rest : drop (row_words * count g) (rows_from used mid) ≡ drop (row_words * count (append f g)) before
    rest =
        ap (λ (l : List ℕ). drop (row_words * count g) l) (from_is used mid ∙ ap (λ (i : ℕ). drop (row_words * i) mid) e ∙ words_behind f before mid s)
        ∙ drop-drop (row_words * count g) (row_words * count f) before
        ∙ ap (λ (i : ℕ). drop i before) (omega (arith, count_append f g))

    pub follows : Stored (append f g) before (with_rows used mid sub)
    follows =
        let a = s.room in
        let b = t.room in
        let l = same_length f before mid s in
        let n = from_length used mid in
        record {
          room = omega (arith, count_append f g);
          rows =
              with_is used mid sub
              ∙ ap (λ (i : ℕ). take (row_words * i) mid ++ sub) e
              ∙ ap (λ (l : List ℕ). l ++ sub) (first_words f before mid s)
              ∙ ap (λ (l : List ℕ). table_of f ++ l) (t.rows ∙ ap (λ (l : List ℕ). table_of g ++ l) rest)
              ∙ sym (append_assoc (table_of f) (table_of g) (drop (row_words * count (append f g)) before))
              ∙ ap (λ (l : List ℕ). l ++ drop (row_words * count (append f g)) before) (sym (table_append f g));
        }

-- ---- rows

-- twelve stores are the words of a row
pub row_set : (xs : List ℕ) (k n p s zs zl : ℕ) → length xs ≡ row_words
    → set (set (set (set (set (set (set (set (set (set (set (set xs 0 k) 1 n) 2 0) 3 0) 4 p) 5 s) 6 0) 7 0) 8 0) 9 zs) 10 zl) 11 0 ≡ words_of (bare_row k p s zs zl) n
unfolding words_of
row_set xs k n p s zs zl e =
    let ws : List ℕ = k ∷ n ∷ 0 ∷ 0 ∷ p ∷ s ∷ 0 ∷ 0 ∷ 0 ∷ zs ∷ zl ∷ 0 ∷ [] in
    sets-eq ws xs 0 (omega arith) ∙ ap (λ (l : List ℕ). ws ++ l) (drop_all row_words xs (omega arith))

-- the table of one tree
table_one : (r : Row) (kids : Forest Row) → table_of (node r kids ∅) ≡ words_of r (suc (count kids)) ++ table_of kids
unfolding table_of
table_one r kids = ap (λ (l : List ℕ). words_of r (suc (count kids)) ++ l) (append-nil (table_of kids))

-- a row in front of its children's
pub in_front : (r : Row) (kids : Forest Row) (row row₂ before after : List ℕ) (n : ℕ) → length row ≡ row_words → Stored kids before after → n ≡ suc (count kids) → row₂ ≡ words_of r n
    → Stored (node r kids ∅) (row ++ before) (row₂ ++ after)
in_front r kids row row₂ before after n e s u w =
    let c = suc (count kids) in
    let d : row_words * count (node r kids ∅) ≡ length row + row_words * count kids = omega arith in
    let m = s.room in
    record {
      room = omega (arith, length-append row before);
      rows =
          ap (λ (l : List ℕ). l ++ after) (w ∙ ap (words_of r) u)
          ∙ ap (λ (l : List ℕ). words_of r c ++ l) s.rows
          ∙ sym (append_assoc (words_of r c) (table_of kids) (drop (row_words * count kids) before))
          ∙ ap (λ (l : List ℕ). l ++ drop (row_words * count kids) before) (sym (table_one r kids))
          ∙ ap (λ (l : List ℕ). table_of (node r kids ∅) ++ l) (sym (ap (λ (i : ℕ). drop i (row ++ before)) d ∙ drop-append-add row before (row_words * count kids)));
    }

-- a row without children
pub alone : (r : Row) (row row₂ : List ℕ) → length row ≡ row_words → row₂ ≡ words_of r 1 → Stored (node r ∅ ∅) row row₂
unfolding table_of words_of
alone r row row₂ e w = record { room = omega arith; rows = w ∙ sym (ap (λ (l : List ℕ). words_of r 1 ++ l) (drop_all row_words row (omega arith))) }

-- a row that is made a field's
module _ (role id : ℕ) (n : Name) (r : Row) (kids : Forest Row) (before mid after : List ℕ) (s : Stored (node r kids ∅) before mid)
    (w : after ≡ sets (sets mid 2 (role ∷ id ∷ [])) 6 (n.home ∷ n.start ∷ n.size ∷ [])) where
  pub as_field : Stored (node (field_row role id n r) kids ∅) before after
  unfolding words_of
  as_field =
      let rest = drop (row_words * count (node r kids ∅)) before in
      record {
        room = s.room;
        rows =
            w
            ∙ ap (λ (l : List ℕ). sets (sets l 2 (role ∷ id ∷ [])) 6 (n.home ∷ n.start ∷ n.size ∷ [])) (s.rows ∙ ap (λ (l : List ℕ). l ++ rest) (table_one r kids))
            ∙ ap (λ (l : List ℕ). l ++ rest) (sym (table_one (field_row role id n r) kids));
      }

-- the words of a tree's first row
module _ (r : Row) (kids : Forest Row) (before after : List ℕ) (s : Stored (node r kids ∅) before after) where
  first_row : after ≡ words_of r (suc (count kids)) ++ (table_of kids ++ drop (row_words * count (node r kids ∅)) before)
  first_row =
      s.rows ∙ ap (λ (l : List ℕ). l ++ drop (row_words * count (node r kids ∅)) before) (table_one r kids)
      ∙ append_assoc (words_of r (suc (count kids))) (table_of kids) (drop (row_words * count (node r kids ∅)) before)

  pub kind_said : get_or after 0 0 ≡ r.kind
  unfolding words_of
  kind_said = ap (λ (l : List ℕ). get_or l 0 0) first_row

  pub role_said : get_or after 2 0 ≡ r.role
  unfolding words_of
  role_said = ap (λ (l : List ℕ). get_or l 2 0) first_row
