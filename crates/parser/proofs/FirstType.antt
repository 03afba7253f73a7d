-- The type that a text begins with: the rows that are lent for it, and each return of the public function as a law.
use mathlib.Core.Path.{◌≡◌, sym, ap, subst, ◌∙◌}
use mathlib.Core.Bool.{true, false}
use mathlib.Core.List.{List, ◌++◌}
use Prim.Native.Nat.{ℕ, ◌*◌, ◌≤◌, ◌<◌}
use native.Mathlib.Omega.{arith}
use lib.ListN.{length, take, drop, replicate}
use lib.Seq.{length-take-le}
use borrow.Author.Tests.{le-leb, lt-leb}
use Rattle.std.proofs.lemmas.List.{take-append-drop}
use Rattle.std.specs.Prelude.{Ok, Err}
use Rattle.tokenizer.specs.Answer.{refused, done}
use Rattle.tokenizer.specs.declared.refusal.Refusal.TheVariants.{TextTooLong, NotUtf8}
use Rattle.parser.specs.Answer.{refusal_in}
use Rattle.parser.specs.declared.error.ReadError.{ReadError}
use Rattle.tokenizer.specs.Utf8.{is_utf8}
use Rattle.datatype.specs.Tree.{Forest, ∅, node, Row}
use Rattle.datatype.specs.Table.{row_words, table_of, rows_lent}
use Rattle.datatype.proofs.Table.{length_table}
use Rattle.parser.specs.Parse.{type_at, first_type, read_of, rows_of}
use Rattle.parser.specs.Internal.Steps.{extent, Room, rows_left, Meets}
use Rattle.parser.specs.declared.Extent.{Extent}
use Rattle.parser.proofs.Matched.{Read, got-tree, lost-tree}
use Rattle.parser.proofs.Readers.{meets-refused, meets-further}

-- ---- the text as a whole

module _ (text : List ℕ) (rows : ℕ) where
  pub too_long : 16384 < length text → first_type text rows ≡ refused (refusal_in (record { place = 16384; refusal = TextTooLong }))
  unfolding first_type refusal_in
  too_long h = rw (lt-leb (length text) 16384 h)

  module _ (short : length text ≤ 16384) where
    pub not-utf8 : is_utf8 text ≡ false → first_type text rows ≡ refused (refusal_in (record { place = 0; refusal = NotUtf8 }))
    unfolding first_type refusal_in
    not-utf8 u = rw (le-leb (length text) 16384 short, u)

    pub first-type : is_utf8 text ≡ true → first_type text rows ≡ type_at text 64 0 rows
    unfolding first_type
    first-type u = rw (le-leb (length text) 16384 short, u)

-- ---- what the text's reader answers

module _ (text before : List ℕ) where
  abbrev rows : ℕ
  rows = rows_lent (length before)

  pub text-refused : (e : ReadError) (after : List ℕ) → first_type text rows ≡ refused (refusal_in e) → Meets (first_type text rows) before (Err e) after
  text-refused e after w = meets-refused before after (first_type text rows) e w

  module _ (lent : ℕ) (l : lent ≡ rows) where
    -- whole rows of the buffer are lent
    pub lent_fits : row_words * lent ≤ length before
    unfolding rows_lent
    lent_fits = omega arith

    pub lent_words : row_words * lent ≡ length (take (row_words * lent) before)
    lent_words = sym (length-take-le (row_words * lent) before lent_fits)

    pub lent_room : Room (take (row_words * lent) before)
    unfolding rows_lent
    lent_room = omega (arith, lent_words)

    lent_rows : rows_left (take (row_words * lent) before) ≡ rows
    lent_rows = omega (arith, lent_words)

    pub text-read : (a : Read) (sub : List ℕ) → length text ≤ 16384 → is_utf8 text ≡ true → Meets (type_at text 64 0 (rows_left (take (row_words * lent) before))) (take (row_words * lent) before) a sub
        → Meets (first_type text rows) before a (sub ++ drop (row_words * lent) before)
    text-read a sub short u h =
        let t = first_type text rows in
        let m : Meets t (take (row_words * lent) before) a sub = rw (first-type text rows short u, ← lent_rows) h in
        subst (λ (b : List ℕ). Meets t b a (sub ++ drop (row_words * lent) before)) (take-append-drop (row_words * lent) before)
        (meets-further (take (row_words * lent) before) sub t a (drop (row_words * lent) before) m)

  module _ (after : List ℕ) where
    -- what the public function leaves
    module _ (e : ReadError) (h : Meets (first_type text rows) before (Err e) after) where
      lost : first_type text rows ≡ refused (refusal_in e)
      lost = lost-tree before after (first_type text rows) e h

      pub refused-answer : refused (refusal_in e) ≡ read_of (first_type text rows)
      unfolding read_of
      refused-answer = rw lost

      pub refused-rows : (cleared : List ℕ) → cleared ≡ replicate (length before) 0 → cleared ≡ rows_of before (first_type text rows)
      unfolding rows_of
      refused-rows cleared w = rw lost w

    pub first_read : (e : Extent) → Meets (first_type text rows) before (Ok e) after
        → (done e ≡ read_of (first_type text rows)) × (after ≡ rows_of before (first_type text rows))
    unfolding read_of rows_of
    first_read e h =
        let g = got-tree before after (first_type text rows) e h in
        let f : Forest Row = node g.row g.kids ∅ in
        (rw g.is (ap (λ (i : ℕ). done (extent e.next i)) g.rows), rw g.is (g.stored.rows ∙ ap (λ (i : ℕ). table_of f ++ drop i before) (sym (length_table f))))
