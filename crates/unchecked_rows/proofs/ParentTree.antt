-- What joins the two halves: in the table of a tree the last row before a row whose subtree holds it is its parent.
--   row-size, row-kids, row_next   a run of trees that stands in a table from row i on: its first row's word 1, its
--                                  children, the run behind
--   past                           no row of a run holds a row behind the run
--   Inside                         the parent's row holds the rows of a run, and no row between does
use mathlib.Core.Path.{◌≡◌, refl, sym, ap, ◌∙◌}
use mathlib.Core.List.{List, [], ◌++◌, append_assoc, append-nil}
use mathlib.Core.Option.{some}
use Prim.Native.Nat.{ℕ, suc, ◌+◌, ◌-◌, ◌*◌, ◌≤◌, ◌<◌, min}
use native.Mathlib.Omega.{arith}
use lib.ListN.{length, drop, get_or, set, length-append}
use lib.Seq.{get_or-drop}
use Rattle.std.proofs.lemmas.List.{set-append_right}
use Rattle.tokenizer.proofs.Basics.{skip, skip_word}
use Rattle.datatype.specs.Tree.{Forest, ∅, node, count, Row}
use Rattle.datatype.specs.Table.{row_words, words_of, table_of, view_of, rows_lent, rows_at, parent_word_at}
use Rattle.unchecked_rows.specs.Parents.{parented_from, parented, with_parent, table_with, holder, parent_at, parents_set, with_parents}
use Rattle.datatype.proofs.Table.{length_table, view_table, table_view}
use Rattle.unchecked_rows.proofs.ParentClimb.{holder-none, holder-yes, holder-no}

-- from row i on a table holds a run of trees, and then some words
abbrev pub Stands : List ℕ → ℕ → Forest Row → List ℕ → Type 0
Stands table i f rest = drop (row_words * i) table ≡ table_of f ++ rest

module _ (table : List ℕ) where
  module _ (i : ℕ) (r : Row) (kids next : Forest Row) (rest : List ℕ) (s : Stands table i (node r kids next) rest) where
    pub row-size : rows_at table i ≡ suc (count kids)
    unfolding table_of words_of
    row-size = sym (get_or-drop (row_words * i) table 1 0) ∙ ap (λ (l : List ℕ). get_or l 1 0) s

    pub row-parent : parent_word_at table i ≡ r.parent
    unfolding table_of words_of
    row-parent = sym (get_or-drop (row_words * i) table 11 0) ∙ ap (λ (l : List ℕ). get_or l 11 0) s

    pub row-kids : Stands table (suc i) kids (table_of next ++ rest)
    unfolding table_of words_of
    row-kids =
        let e : row_words * suc i ≡ row_words * i + row_words = omega arith in
        ap (λ (n : ℕ). drop n table) e ∙ skip row_words (row_words * i) table _ s ∙ append_assoc (table_of kids) (table_of next) rest

    pub row_next : Stands table (i + suc (count kids)) next rest
    row_next =
        let e : row_words * (i + suc (count kids)) ≡ row_words * suc i + length (table_of kids) = omega (arith, length_table kids) in
        ap (λ (n : ℕ). drop n table) e ∙ skip_word (row_words * suc i) table (table_of kids) (table_of next ++ rest) row-kids

  pub past : (f : Forest Row) (i : ℕ) (rest : List ℕ) → Stands table i f rest → (j : ℕ) → i + count f ≤ j → holder table j (i + count f) ≡ holder table j i
  past ∅ i rest s j h = let e : i + 0 ≡ i = omega arith in rw e
  past (node r kids next) i rest s j h =
      let a : i + (suc (count kids) + count next) ≡ (i + suc (count kids)) + count next = omega arith in
      let b : i + suc (count kids) ≡ suc i + count kids = omega arith in
      ap (λ (n : ℕ). holder table j n) a
      ∙ past next (i + suc (count kids)) rest (row_next i r kids next rest s) j (omega arith)
      ∙ ap (λ (n : ℕ). holder table j n) b
      ∙ past kids (suc i) (table_of next ++ rest) (row-kids i r kids next rest s) j (omega arith)
      ∙ holder-no table j i (omega (arith, row-size i r kids next rest s))

  -- row p holds each of n rows from row i on, and no row between
  pub record Inside (p i n : ℕ) : Type 0 where
    pub held : (j : ℕ) → i ≤ j → j < i + n → holder table j i ≡ p

  module _ (p i : ℕ) (r : Row) (kids next : Forest Row) (rest : List ℕ) (s : Stands table i (node r kids next) rest) (c : Inside p i (suc (count kids) + count next)) where
    pub inside-here : parent_at table i ≡ p
    inside-here = c.held i (omega arith) (omega arith)

    pub inside-kids : Inside i (suc i) (count kids)
    inside-kids = record { held = λ j l h. holder-yes table j i (omega (arith, row-size i r kids next rest s)) }

    pub inside-next : Inside p (i + suc (count kids)) (count next)
    inside-next = record { held = λ j l h. over j l ∙ c.held j (omega arith) (omega arith) }
      where
        over : (j : ℕ) → i + suc (count kids) ≤ j → holder table j (i + suc (count kids)) ≡ holder table j i
        over j l =
            let b : i + suc (count kids) ≡ suc i + count kids = omega arith in
            ap (λ (n : ℕ). holder table j n) b
            ∙ past kids (suc i) (table_of next ++ rest) (row-kids i r kids next rest s) j (omega arith)
            ∙ holder-no table j i (omega (arith, row-size i r kids next rest s))

-- ---- parents that are set

pub count_parented : (p i : ℕ) (f : Forest Row) → count (parented_from p i f) ≡ count f
unfolding parented_from
count_parented p i ∅ = refl
count_parented p i (node r kids next) = λ j. suc (count_parented i (suc i) kids j) + count_parented p (i + suc (count kids)) next j

-- word 11 of a row that stands behind so many words
set_row : (front : List ℕ) (i p : ℕ) (r : Row) (n : ℕ) (rest : List ℕ) → length front ≡ row_words * i
    → set (front ++ (words_of r n ++ rest)) (row_words * i + 11) p ≡ front ++ (words_of (with_parent p r) n ++ rest)
unfolding words_of with_parent
set_row front i p r n rest l =
    let e : row_words * i + 11 - row_words * i ≡ 11 = omega arith in
    set-append_right front (words_of r n ++ rest) (row_words * i) (row_words * i + 11) p l (omega arith) ∙ rw e

length_words : (r : Row) (n : ℕ) → length (words_of r n) ≡ row_words
unfolding words_of
length_words r n = refl

table_node : (r : Row) (kids next : Forest Row) (rest : List ℕ) → table_of (node r kids next) ++ rest ≡ words_of r (suc (count kids)) ++ (table_of kids ++ (table_of next ++ rest))
unfolding table_of
table_node r kids next rest =
    append_assoc (words_of r (suc (count kids))) (table_of kids ++ table_of next) rest
    ∙ ap (λ (l : List ℕ). words_of r (suc (count kids)) ++ l) (append_assoc (table_of kids) (table_of next) rest)

module _ (table : List ℕ) where
  -- the rows before a run have their parents, the run and what is behind it not yet
  record Done (front : List ℕ) (i : ℕ) (f : Forest Row) (rest : List ℕ) : Type 0 where
    long : length front ≡ row_words * i
    is : parents_set table i ≡ front ++ (table_of f ++ rest)

  module _ (p i : ℕ) (r : Row) (kids next : Forest Row) (front rest : List ℕ) where
    abbrev words : List ℕ
    words = words_of (with_parent p r) (suc (count kids))

    abbrev below : Forest Row
    below = parented_from i (suc i) kids

    abbrev beyond : Forest Row
    beyond = parented_from p (i + suc (count kids)) next

    -- the run's first row gets its parent
    set_first : parent_at table i ≡ p → Done front i (node r kids next) rest → Done (front ++ words) (suc i) kids (table_of next ++ rest)
    set_first q d =
        let l = d.long in
        record {
          long = omega (arith, length-append front words, length_words (with_parent p r) (suc (count kids)));
          is = step ∙ ap (λ (a : ℕ). set (parents_set table i) (row_words * i + 11) a) q
              ∙ ap (λ (t : List ℕ). set t (row_words * i + 11) p) (d.is ∙ ap (λ (t : List ℕ). front ++ t) (table_node r kids next rest))
              ∙ set_row front i p r (suc (count kids)) (table_of kids ++ (table_of next ++ rest)) d.long
              ∙ sym (append_assoc front words (table_of kids ++ (table_of next ++ rest)));
        }
      where
        step : parents_set table (suc i) ≡ set (parents_set table i) (row_words * i + 11) (parent_at table i)
        step = unfold parents_set in refl

    -- then its children
    set-kids : length front ≡ row_words * i → parents_set table (suc i + count kids) ≡ (front ++ words) ++ (table_of below ++ (table_of next ++ rest))
        → Done ((front ++ words) ++ table_of below) (i + suc (count kids)) next rest
    set-kids l e =
        let b : i + suc (count kids) ≡ suc i + count kids = omega arith in
        record {
          long = omega (arith, length-append (front ++ words) (table_of below), length-append front words, length_words (with_parent p r) (suc (count kids)), length_table below, count_parented i (suc i) kids);
          is = ap (λ (n : ℕ). parents_set table n) b ∙ e ∙ sym (append_assoc (front ++ words) (table_of below) (table_of next ++ rest));
        }

    set-whole : ((front ++ words) ++ table_of below) ++ (table_of beyond ++ rest) ≡ front ++ (table_of (parented_from p i (node r kids next)) ++ rest)
    set-whole =
        let n : words_of (with_parent p r) (suc (count below)) ≡ words = ap (λ (k : ℕ). words_of (with_parent p r) (suc k)) (count_parented i (suc i) kids) in
        append_assoc (front ++ words) (table_of below) (table_of beyond ++ rest)
        ∙ append_assoc front words (table_of below ++ (table_of beyond ++ rest))
        ∙ ap (λ (w : List ℕ). front ++ (w ++ (table_of below ++ (table_of beyond ++ rest)))) (sym n)
        ∙ ap (λ (t : List ℕ). front ++ t) (sym (table_node (with_parent p r) below beyond rest))
        ∙ ap (λ (f : Forest Row). front ++ (table_of f ++ rest)) (unfold parented_from in refl)

  set-run : (f : Forest Row) (p i : ℕ) (front rest : List ℕ) → Stands table i f rest → Inside table p i (count f) → Done front i f rest
      → parents_set table (i + count f) ≡ front ++ (table_of (parented_from p i f) ++ rest)
  set-run ∅ p i front rest s c d = let e : i + 0 ≡ i = omega arith in rw e (d.is ∙ unfold parented_from in refl)
  set-run (node r kids next) p i front rest s c d =
      let a : i + (suc (count kids) + count next) ≡ (i + suc (count kids)) + count next = omega arith in
      let w = words p i r kids next front rest in
      ap (λ (n : ℕ). parents_set table n) a
      ∙ set-run next p (i + suc (count kids)) ((front ++ w) ++ table_of (parented_from i (suc i) kids)) rest (row_next table i r kids next rest s) (inside-next table p i r kids next rest s c)
      (set-kids p i r kids next front rest d.long
      (set-run kids i (suc i) (front ++ w) (table_of next ++ rest) (row-kids table i r kids next rest s) (inside-kids table p i r kids next rest s c)
      (set_first p i r kids next front rest (inside-here table p i r kids next rest s c) d)))
      ∙ set-whole p i r kids next front rest

-- ---- a tree's table, and what stands behind it in a lent buffer

module _ (f : Forest Row) (rest : List ℕ) where
  pub stands-first : Stands (table_of f ++ rest) 0 f rest
  stands-first = refl

  pub inside-first : Inside (table_of f ++ rest) 0 0 (count f)
  inside-first = record { held = λ j l h. holder-none (table_of f ++ rest) j }

  -- the tree's rows get their parents, and the rest stays
  pub first-parents : parents_set (table_of f ++ rest) (count f) ≡ table_with f ++ rest
  first-parents =
      let e : count f ≡ 0 + count f = omega arith in
      ap (λ (n : ℕ). parents_set (table_of f ++ rest) n) e
      ∙ set-run (table_of f ++ rest) f 0 0 [] rest stands-first inside-first (record { long = refl; is = unfold parents_set in refl })

  -- as `set_first_parents` says it
  pub first-parents-lent : count f ≤ 1024 → parents_set (table_of f ++ rest) (min (count f) (rows_lent (length (table_of f ++ rest)))) ≡ table_with f ++ rest
  first-parents-lent h = ap (λ (n : ℕ). parents_set (table_of f ++ rest) n) lent ∙ first-parents
    where
      lent : min (count f) (rows_lent (length (table_of f ++ rest))) ≡ count f
      lent = unfold rows_lent in omega (arith, length_table f, length-append (table_of f) rest)

-- a tree's table gets its parents
pub with_parents_lem : (f : Forest Row) → count f ≤ 1024 → with_parents (table_of f) ≡ table_with f
with_parents_lem f h =
    opened ∙ ap (λ (n : ℕ). parents_set (table_of f) n) lent
    ∙ ap (λ (t : List ℕ). parents_set t (count f)) (sym (append-nil (table_of f)))
    ∙ first-parents f []
    ∙ append-nil (table_with f)
  where
    opened : with_parents (table_of f) ≡ parents_set (table_of f) (rows_lent (length (table_of f)))
    opened = unfold with_parents in refl

    lent : rows_lent (length (table_of f)) ≡ count f
    lent = unfold rows_lent in omega (arith, length_table f)

-- so does any table that nests
pub view_with_parents : (t : List ℕ) (f : Forest Row) → view_of t ≡ some f → count f ≤ 1024 → with_parents t ≡ table_with f
view_with_parents t f e h = ap with_parents (sym (table_view t f e)) ∙ with_parents_lem f h

-- and it nests as before
pub view_parented : (t : List ℕ) (f : Forest Row) → view_of t ≡ some f → count f ≤ 1024 → view_of (with_parents t) ≡ some (parented f)
view_parented t f e h = ap view_of (view_with_parents t f e h) ∙ view_table (parented f)
