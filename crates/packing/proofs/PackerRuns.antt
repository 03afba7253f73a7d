-- Trees packed row by row, and at once: for whoever reads rows one after another.
--   written_then      rows behind rows, with what they pack
--   node_table        the table of a packed node
--   node-written      a row over the rows below it, these, and those behind them, are the run written at once
--   below_set         a row whose subtree is set once the rows below it stand, is written over them
--   fits_row, fits_kids, fits_next   what a run that fits has room for
--   trees-put         put row by row, a run that fits is the run written at once
--   trees-then        a run behind another
--   first_rows, first_text, first_size   from the start: what lent rows and a lent text then hold, and what is answered
use mathlib.Core.Path.{◌≡◌, refl, sym, ap, ◌∙◌}
use mathlib.Core.Bool.{true, ◌&&◌}
use mathlib.Core.List.{List, [], ◌∷◌, ◌++◌}
use Prim.Native.Nat.{ℕ, suc, ◌+◌, ◌-◌, ◌*◌, ◌≤◌, ◌<◌, min}
use native.Mathlib.Omega.{arith}
use lib.ListN.{length, set, drop, length-append}
use lib.Seq.{sets, length-sets, set_comm, set-set}
use lib.Dec.{leb, ltb}
use Rattle.std.proofs.lemmas.Bool.Decides.{nat_tests}
use Rattle.datatype.specs.Limits.{max_text}
use Rattle.datatype.specs.Tree.{Forest, ∅, node, count, Row, Label}
use Rattle.datatype.specs.Table.{row_words, words_of, table_of, rows_lent}
use Rattle.datatype.proofs.Sets.{sets_append}
use Rattle.datatype.proofs.Table.{length_table}
use Rattle.packing.specs.declared.packer.Packer.{Packer}
use Rattle.packing.specs.Packed.{row_text, packed_text, packed_row, packed_from, packed_size, size_fits, packed_rows, packed_bytes}
use Rattle.packing.specs.Packer.{with_words, with_bytes, written, row_fits, row_written, put_row, set_subtree, set_parents, put_trees, trees_written, trees_fit}
use Rattle.packing.proofs.PackedLaws.{count-packed}
use Rattle.packing.proofs.LentLaws.{parents-last, bytes-first}
use Rattle.packing.proofs.PackerLaws.{bytes_then}

-- ---- rows behind rows

words_then : (p : Packer) (n : ℕ) (ws : List ℕ) (m : ℕ) (vs : List ℕ) → length ws ≡ row_words * n → with_words (with_words p n ws) m vs ≡ with_words p (n + m) (ws ++ vs)
unfolding with_words
words_then p n ws m vs long =
    let e : row_words * (p.packed.rows + n) ≡ row_words * p.packed.rows + length ws = omega arith in
    rw (e, sets_append p.rows.now (row_words * p.packed.rows) ws vs)
    (ap (λ (k : ℕ). record p { rows = record p.rows { now = sets p.rows.now (row_words * p.packed.rows) (ws ++ vs) }; packed = record { rows = k; bytes = p.packed.bytes } }) (omega arith))

apart : (p : Packer) (s : List ℕ) (n : ℕ) (ws : List ℕ) → with_words (with_bytes p s) n ws ≡ with_bytes (with_words p n ws) s
unfolding with_bytes with_words
apart p s n ws = refl

pub written_then : (p : Packer) (n : ℕ) (ws s : List ℕ) (m : ℕ) (vs t : List ℕ) → length ws ≡ row_words * n → written (written p n ws s) m vs t ≡ written p (n + m) (ws ++ vs) (s ++ t)
unfolding written
written_then p n ws s m vs t long =
    ap (λ (q : Packer). with_bytes q t) (apart (with_words p n ws) s m vs ∙ ap (λ (q : Packer). with_bytes q s) (words_then p n ws m vs long))
    ∙ bytes_then (with_words p (n + m) (ws ++ vs)) s t

-- the words of a packed run
pub table_long : (at : ℕ) (f : Forest Label) → length (table_of (packed_from at f)) ≡ row_words * count f
table_long at f = omega (arith, length_table (packed_from at f), count-packed at f)

pub node_table : (at : ℕ) (l : Label) (kids next : Forest Label)
    → table_of (packed_from at (node l kids next)) ≡ words_of (packed_row at l) (suc (count kids)) ++ (table_of (packed_from (at + length (row_text l)) kids) ++ table_of (packed_from (at + length (row_text l) + length (packed_text kids)) next))
unfolding packed_from table_of
node_table at l kids next = rw (count-packed (at + length (row_text l)) kids)

one-row : (r : Row) (n : ℕ) → length (words_of r n) ≡ row_words * 1
unfolding words_of
one-row r n = refl

module _ (p : Packer) (l : Label) (kids next : Forest Label) where
  abbrev below : ℕ
  below = p.packed.bytes + length (row_text l)

  abbrev own : List ℕ
  own = words_of (packed_row p.packed.bytes l) (suc (count kids))

  abbrev kids-words : List ℕ
  kids-words = table_of (packed_from below kids)

  abbrev next-words : List ℕ
  next-words = table_of (packed_from (below + length (packed_text kids)) next)

  pub node-written : trees_written (trees_written (row_written p l (suc (count kids))) kids) next ≡ trees_written p (node l kids next)
  unfolding trees_written row_written written with_bytes with_words packed_text
  node-written =
      let n : 1 + (count kids + count next) ≡ suc (count kids) + count next = omega arith in
      let s = row_text l ++ (packed_text kids ++ packed_text next) in
      written_then (written p 1 own (row_text l)) (count kids) kids-words (packed_text kids) (count next) next-words (packed_text next) (table_long below kids)
      ∙ written_then p 1 own (row_text l) (count kids + count next) (kids-words ++ next-words) (packed_text kids ++ packed_text next) (one-row (packed_row p.packed.bytes l) (suc (count kids)))
      ∙ (λ j. written p (n j) (sym (node_table p.packed.bytes l kids next) j) s)

-- ---- a subtree set behind

below_stores : (xs : List ℕ) (k j c : ℕ) (vs : List ℕ) → k < j → set (sets xs j vs) k c ≡ sets (set xs k c) j vs
below_stores xs k j c [] h = refl
below_stores xs k j c (v ∷ vs) h =
    below_stores (set xs j v) k (suc j) c vs (omega arith) ∙ ap (λ (l : List ℕ). sets l (suc j) vs) (set_comm xs j k v c (omega arith))

second_set : (xs : List ℕ) (i a x c : ℕ) (vs : List ℕ) → set (sets xs i (a ∷ x ∷ vs)) (suc i) c ≡ sets xs i (a ∷ c ∷ vs)
second_set xs i a x c vs =
    below_stores (set (set xs i a) (suc i) x) (suc i) (suc (suc i)) c vs (omega arith)
    ∙ ap (λ (l : List ℕ). sets l (suc (suc i)) vs) (set-set (set xs i a) (suc i) x c)

-- ---- what has room

pub fits_row : (p : Packer) (l : Label) (kids next : Forest Label) → trees_fit p (node l kids next) ≡ true → row_fits p l ≡ true
unfolding trees_fit row_fits size_fits packed_text
fits_row p l kids next h = grind (arith, nat_tests, length-append (row_text l) (packed_text kids ++ packed_text next))

module _ (p : Packer) (l : Label) (rows : ℕ) (kids next : Forest Label) (h : trees_fit p (node l kids next) ≡ true) where
  pub fits_kids : trees_fit (row_written p l rows) kids ≡ true
  unfolding trees_fit row_written written with_bytes with_words size_fits packed_text
  fits_kids =
      let a = length-append (row_text l) (packed_text kids ++ packed_text next) in
      let b = length-append (packed_text kids) (packed_text next) in
      let c = length-sets p.rows.now (row_words * p.packed.rows) (words_of (packed_row p.packed.bytes l) rows) in
      let d = length-sets p.text.now p.packed.bytes (row_text l) in
      rw (c, d) (grind (arith, nat_tests))

  pub fits_next : trees_fit (trees_written (row_written p l rows) kids) next ≡ true
  unfolding trees_fit trees_written row_written written with_bytes with_words size_fits packed_text
  fits_next =
      let a = length-append (row_text l) (packed_text kids ++ packed_text next) in
      let b = length-append (packed_text kids) (packed_text next) in
      let r = sets p.rows.now (row_words * p.packed.rows) (words_of (packed_row p.packed.bytes l) rows) in
      let t = sets p.text.now p.packed.bytes (row_text l) in
      let c = length-sets r (row_words * (p.packed.rows + 1)) (table_of (packed_from (p.packed.bytes + length (row_text l)) kids)) ∙ length-sets p.rows.now (row_words * p.packed.rows) (words_of (packed_row p.packed.bytes l) rows) in
      let d = length-sets t (p.packed.bytes + length (row_text l)) (packed_text kids) ∙ length-sets p.text.now p.packed.bytes (row_text l) in
      rw (c, d) (grind (arith, nat_tests))

-- a row put over no rows, with the rows below it behind it, has them once its subtree is set
module _ (p : Packer) (l : Label) (kids next : Forest Label) (h : trees_fit p (node l kids next) ≡ true) where
  abbrev behind : Packer
  behind = trees_written (row_written p l 0) kids

  same-rows : length behind.rows.now ≡ length p.rows.now
  unfolding trees_written row_written written with_bytes with_words
  same-rows =
      length-sets (sets p.rows.now (row_words * p.packed.rows) (words_of (packed_row p.packed.bytes l) 0)) (row_words * (p.packed.rows + 1)) (table_of (packed_from (p.packed.bytes + length (row_text l)) kids))
      ∙ length-sets p.rows.now (row_words * p.packed.rows) (words_of (packed_row p.packed.bytes l) 0)

  last-row : behind.packed.rows ≡ p.packed.rows + suc (count kids)
  unfolding trees_written row_written written with_bytes with_words
  last-row = let e : p.packed.rows + 1 + count kids ≡ p.packed.rows + suc (count kids) = omega arith in e

  word-set : sets behind.rows.now (row_words * p.packed.rows + 1) ((behind.packed.rows - p.packed.rows) ∷ []) ≡ (trees_written (row_written p l (suc (count kids))) kids).rows.now
  unfolding trees_written row_written written with_bytes with_words words_of
  word-set =
      let r = packed_row p.packed.bytes l in
      let k = table_of (packed_from (p.packed.bytes + length (row_text l)) kids) in
      let i = row_words * p.packed.rows in
      let j = row_words * (p.packed.rows + 1) in
      let e : i + 1 ≡ suc i = omega arith in
      let c : p.packed.rows + 1 + count kids - p.packed.rows ≡ suc (count kids) = omega arith in
      rw (e, c)
      (below_stores (sets p.rows.now i (words_of r 0)) (suc i) j (suc (count kids)) k (omega arith)
      ∙ ap (λ (xs : List ℕ). sets xs j k) (second_set p.rows.now i r.kind 0 (suc (count kids)) (drop 2 (words_of r 0))))

  there : (ltb p.packed.rows behind.packed.rows && leb behind.packed.rows (rows_lent (length behind.rows.now))) ≡ true
  unfolding trees_fit size_fits
  there = rw (same-rows, last-row) (grind (arith, nat_tests))

  pub below_set : set_subtree (trees_written (row_written p l 0) kids) p.packed.rows ≡ trees_written (row_written p l (suc (count kids))) kids
  unfolding set_subtree trees_written row_written written with_bytes with_words
  below_set = rw there (λ j. record behind { rows = record behind.rows { now = word-set j } })

-- ---- row by row

pub none-written : (p : Packer) → trees_written p ∅ ≡ p
unfolding trees_written written with_bytes with_words packed_from table_of packed_text
none-written p =
    let r : p.packed.rows + 0 ≡ p.packed.rows = omega arith in
    let b : p.packed.bytes + 0 ≡ p.packed.bytes = omega arith in
    λ j. record p { packed = record { rows = r j; bytes = b j } }

pub trees-put : (p : Packer) (f : Forest Label) → trees_fit p f ≡ true → put_trees p f ≡ trees_written p f
unfolding put_trees
trees-put p ∅ h = sym (none-written p)
trees-put p (node l kids next) h =
    let row : put_row p l 0 ≡ row_written p l 0 = unfold put_row in rw (fits_row p l kids next h) refl in
    let k = trees-put (row_written p l 0) kids (fits_kids p l 0 kids next h) in
    let n = trees-put (trees_written (row_written p l (suc (count kids))) kids) next (fits_next p l (suc (count kids)) kids next h) in
    ap (λ (q : Packer). put_trees (set_subtree (put_trees q kids) p.packed.rows) next) row
    ∙ ap (λ (q : Packer). put_trees (set_subtree q p.packed.rows) next) k
    ∙ ap (λ (q : Packer). put_trees q next) (below_set p l kids next h)
    ∙ n
    ∙ node-written p l kids next

-- ---- from the start

module _ (f : Forest Label) (p : Packer) (no-rows : p.packed.rows ≡ 0) (no-bytes : p.packed.bytes ≡ 0) where
  no-more-rows : 0 + count f ≡ count f
  no-more-rows = omega arith

  no-more-bytes : 0 + length (packed_text f) ≡ length (packed_text f)
  no-more-bytes = omega arith

  pub first_fits : size_fits (packed_size f) (length p.rows.now) (length p.text.now) ≡ true → trees_fit p f ≡ true
  unfolding trees_fit size_fits
  first_fits h = rw (no-rows, no-bytes, no-more-rows, no-more-bytes) h

  pub first_size : (set_parents (trees_written p f)).packed ≡ packed_size f
  unfolding set_parents trees_written written with_bytes with_words
  first_size = rw (no-rows, no-bytes, no-more-rows, no-more-bytes)

  module _ (h : size_fits (packed_size f) (length p.rows.now) (length p.text.now) ≡ true) where
    few : count f ≤ rows_lent (length p.rows.now)
    unfolding size_fits
    few = grind (arith, nat_tests)

    short : length (packed_text f) ≤ length p.text.now
    unfolding size_fits
    short = let e : length (packed_text f) ≤ min (length p.text.now) max_text = grind (arith, nat_tests) in omega arith

    pub first_rows : (set_parents (trees_written p f)).rows.now ≡ packed_rows f p.rows.now
    unfolding set_parents trees_written written with_bytes with_words
    first_rows = rw (no-rows, no-bytes, no-more-rows) (parents-last f p.rows.now few)

    pub first_text : (set_parents (trees_written p f)).text.now ≡ packed_bytes f p.text.now
    unfolding set_parents trees_written written with_bytes with_words
    first_text = rw no-bytes (bytes-first f p.text.now short)
