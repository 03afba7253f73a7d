-- Types with children: each return of their readers as a law.
use mathlib.Core.Path.{◌≡◌, refl, ap, ◌∙◌}
use mathlib.Core.List.{List, ◌++◌}
use Prim.Native.Nat.{ℕ, ◌+◌, ◌-◌, ◌^◌}
use native.Mathlib.Omega.{arith}
use borrow.Author.Tests.{ne_eqb}
use Rattle.tokenizer.specs.Answer.{Refusal, Out, refused, done, number_of, ◌>>=◌}
use Rattle.tokenizer.specs.declared.refusal.Refusal as R
use Rattle.tokenizer.specs.Token.{Standing, value_of, lparen, rparen, comma, map_sorted, x_word}
use Rattle.parser.specs.Answer.{refusal_in}
use Rattle.unchecked_rows.specs.MapEntries.{entries_refusal_at}
use lib.ListN.{length, get_or}
use Rattle.datatype.specs.Tree.{∅, node}
use Rattle.datatype.specs.Table.{row_words}
use Rattle.parser.specs.Parse.{Tree, item, bare_row, field_row, last_token, need, number_in, close_at, field_at, list_field, fixed_list_field, entries_at, run_end_fields, list_at, fixed_size_list_at, dictionary_at, map_at, run_end_encoded_at}
use Rattle.parser.specs.Internal.Steps.{word_of, Meets, Closed, FieldWords, rows_left}
use Rattle.parser.proofs.Stores.{rows_from, with_rows, kind_said, as_field}
use Rattle.parser.proofs.Matched.{Read, behind, GotWord, GotTree, GotFields, got_word}
use Rattle.parser.proofs.Readers.{closes-over, rest_of, pair_stored}
use Rattle.parser.specs.declared.ReadValue.{ReadValue}
use Rattle.parser.proofs.Looks.{needed-stands, refused-stands}
use Rattle.parser.proofs.Entries.{entries-are}
use Rattle.parser.proofs.Values.{number_some}

module _ (text : List ℕ) (type : ℕ → ℕ → Out Tree) (k at left : ℕ) where
  -- the plain lists
  pub list-1 : (x : Refusal) → need text lparen at ≡ refused x → list_at text type k at left ≡ refused x
  unfolding list_at
  list-1 x e = rw e refl

  pub fixed-list-1 : (x : Refusal) → need text lparen at ≡ refused x → fixed_size_list_at text type k at left ≡ refused x
  unfolding fixed_size_list_at
  fixed-list-1 x e = rw e refl

  pub dictionary-1 : (x : Refusal) → need text lparen at ≡ refused x → dictionary_at text type k at left ≡ refused x
  unfolding dictionary_at
  dictionary-1 x e = rw e refl

  pub map-1 : (x : Refusal) → need text lparen at ≡ refused x → map_at text type k at left ≡ refused x
  unfolding map_at
  map-1 x e = rw e refl

  pub run-end-1 : (x : Refusal) → need text lparen at ≡ refused x → run_end_encoded_at text type k at left ≡ refused x
  unfolding run_end_encoded_at
  run-end-1 x e = rw e refl

  module _ (p : Standing) (b : ℕ) (e : need text lparen at ≡ done (behind p b)) where
    pub list-2 : (x : Refusal) → list_field text type b left ≡ refused x → list_at text type k at left ≡ refused x
    unfolding list_at
    list-2 x f = rw (e, f) refl

    pub list-3 : (n used : ℕ) (row row₂ before mid : List ℕ) (a : Read) → length row ≡ row_words → GotTree (list_field text type b left) n used before mid → Closed (need text rparen n) used (bare_row k 0 0 0 0) a row₂
        → Meets (list_at text type k at left) (row ++ before) a (row₂ ++ mid)
    unfolding list_at
    list-3 n used row row₂ before mid a l g h = rw (e, g.is) (closes-over text (bare_row k 0 0 0 0) (node g.row g.kids ∅) n used row row₂ before mid a l g.stored (let u = g.rows in omega arith) h)

    -- FixedSizeList
    pub fixed-list-2 : (x : Refusal) → number_in text 0 (2 ^ 31 - 1) b ≡ refused x → fixed_size_list_at text type k at left ≡ refused x
    unfolding fixed_size_list_at
    fixed-list-2 x f = rw (e, f) refl

    module _ (size : ReadValue ℕ) (r : done size ≡ word_of (number_in text 0 (2 ^ 31 - 1) b)) where
      l : GotWord (number_in text 0 (2 ^ 31 - 1) b) size.value size.next
      l = got_word (number_in text 0 (2 ^ 31 - 1) b) size r

      -- behind `x`: a full list field
      module _ (t : Standing) (d : ℕ) (f : need text x_word size.next ≡ done (behind t d)) where
        pub fixed-list-3 : (x : Refusal) → list_field text type d left ≡ refused x → fixed_size_list_at text type k at left ≡ refused x
        unfolding fixed_size_list_at fixed_list_field
        fixed-list-3 x g = rw (e, l.is, needed-stands text x_word size.next (behind t d) f, f, g) refl

        pub fixed-list-4 : (n used : ℕ) (row row₂ before mid : List ℕ) (a : Read) → length row ≡ row_words → GotTree (list_field text type d left) n used before mid → Closed (need text rparen n) used (bare_row k size.value 0 0 0) a row₂
            → Meets (fixed_size_list_at text type k at left) (row ++ before) a (row₂ ++ mid)
        unfolding fixed_size_list_at fixed_list_field
        fixed-list-4 n used row row₂ before mid a i g h =
            rw (e, l.is, needed-stands text x_word size.next (behind t d) f, f, g.is, l.value)
            (closes-over text (bare_row k size.value 0 0 0) (node g.row g.kids ∅) n used row row₂ before mid a i g.stored (let u = g.rows in omega arith) h)

      -- behind a comma: a type
      module _ (s : Refusal) (z : need text x_word size.next ≡ refused s) where
        pub fixed-list-5 : (x : Refusal) → need text comma size.next ≡ refused x → fixed_size_list_at text type k at left ≡ refused x
        unfolding fixed_size_list_at fixed_list_field
        fixed-list-5 x g = rw (e, l.is, refused-stands text x_word size.next s z, g) refl

        module _ (t : Standing) (d : ℕ) (f : need text comma size.next ≡ done (behind t d)) where
          pub fixed-list-6 : (x : Refusal) → type d left ≡ refused x → fixed_size_list_at text type k at left ≡ refused x
          unfolding fixed_size_list_at fixed_list_field
          fixed-list-6 x g = rw (e, l.is, refused-stands text x_word size.next s z, f, g) refl

          pub fixed-list-7 : (n used : ℕ) (row row₂ before mid after : List ℕ) (a : Read) → length row ≡ row_words → GotTree (type d left) n used before mid → FieldWords mid 1 0 2 0 4 after
              → Closed (need text rparen n) used (bare_row k size.value 0 0 0) a row₂ → Meets (fixed_size_list_at text type k at left) (row ++ before) a (row₂ ++ after)
          unfolding fixed_size_list_at fixed_list_field
          fixed-list-7 n used row row₂ before mid after a i g w h =
              rw (e, l.is, refused-stands text x_word size.next s z, f, g.is, l.value)
              (closes-over text (bare_row k size.value 0 0 0) (node (field_row 1 0 item g.row) g.kids ∅) n used row row₂ before after a i
              (as_field 1 0 item g.row g.kids before mid after g.stored w) (let u = g.rows in omega arith) h)

    -- Dictionary
    pub dictionary-2 : (x : Refusal) → type b left ≡ refused x → dictionary_at text type k at left ≡ refused x
    unfolding dictionary_at
    dictionary-2 x f = rw (e, f) refl

    module _ (n used : ℕ) (before mid : List ℕ) (g : GotTree (type b left) n used before mid) where
      pub dictionary-3 : (x : Refusal) → need text comma n ≡ refused x → dictionary_at text type k at left ≡ refused x
      unfolding dictionary_at
      dictionary-3 x f = rw (e, g.is, f) refl

      module _ (c : Standing) (d : ℕ) (f : need text comma n ≡ done (behind c d)) (i : left ≡ rows_left before) where
        pub dictionary-4 : (x : Refusal) → type d (rows_left (rows_from used mid)) ≡ refused x → dictionary_at text type k at left ≡ refused x
        unfolding dictionary_at
        dictionary-4 x h = rw (e, g.is, f, ← rest_of _ n used left before mid g i, h) refl

        pub dictionary-5 : (m more : ℕ) (row row₂ sub : List ℕ) (a : Read) → length row ≡ row_words → GotTree (type d (rows_left (rows_from used mid))) m more (rows_from used mid) sub
            → Closed (need text rparen m) (used + more) (bare_row k 0 0 0 0) a row₂ → Meets (dictionary_at text type k at left) (row ++ before) a (row₂ ++ with_rows used mid sub)
        unfolding dictionary_at
        dictionary-5 m more row row₂ sub a l h w =
            let u = g.rows in
            let v = h.rows in
            rw (e, g.is, f, ← rest_of _ n used left before mid g i, h.is)
            (closes-over text (bare_row k 0 0 0 0) (node g.row g.kids (node h.row h.kids ∅)) m (used + more) row row₂ before (with_rows used mid sub) a l
            (pair_stored _ _ n m used more before mid sub g h) (omega arith) w)

    -- Map
    pub map-2 : (x : Refusal) → field_at text type 0 b left ≡ refused x → map_at text type k at left ≡ refused x
    unfolding map_at entries_at
    map-2 x f = rw (e, f) refl

    module _ (n used : ℕ) (before mid : List ℕ) (g : GotTree (field_at text type 0 b left) n used before mid) where
      pub map-3 : (x : R.Refusal) → number_of x ≡ entries_refusal_at mid 0 → (kind : ℕ) → kind ≡ get_or mid 0 0 → (place : ℕ) → done place ≡ last_token text b kind n
          → map_at text type k at left ≡ refused (refusal_in (record { place = place; refusal = x }))
      unfolding map_at entries_at refusal_in
      map-3 x q kind w place p =
          let r = p ∙ ap (λ (i : ℕ). last_token text b i n) (w ∙ kind_said g.row g.kids before mid g.stored) in
          rw (e, g.is, ← entries-are _ n used before mid g, ← q, ne_eqb (number_of x) 0 (number_some x), ← r) refl

      pub map-last : (x : R.Refusal) → number_of x ≡ entries_refusal_at mid 0 → (kind : ℕ) → kind ≡ get_or mid 0 0 → (y : Refusal) → refused y ≡ last_token text b kind n → map_at text type k at left ≡ refused y
      unfolding map_at entries_at
      map-last x q kind w y p =
          let r = p ∙ ap (λ (i : ℕ). last_token text b i n) (w ∙ kind_said g.row g.kids before mid g.stored) in
          rw (e, g.is, ← entries-are _ n used before mid g, ← q, ne_eqb (number_of x) 0 (number_some x), ← r) refl

      module _ (q : 0 ≡ entries_refusal_at mid 0) where
        map-entries : map_at text type k at left ≡ (need text comma n >>= (λ c. need text map_sorted c.next >>= (λ s. close_at text (bare_row k (value_of s.kind) 0 0 0) (node g.row g.kids ∅) s.next)))
        unfolding map_at entries_at
        map-entries = rw (e, g.is, ← entries-are _ n used before mid g, ← q) refl

        pub map-4 : (y : Refusal) → need text comma n ≡ refused y → map_at text type k at left ≡ refused y
        map-4 y f = map-entries ∙ rw f refl

        module _ (c : Standing) (d : ℕ) (f : need text comma n ≡ done (behind c d)) where
          pub map-5 : (y : Refusal) → need text map_sorted d ≡ refused y → map_at text type k at left ≡ refused y
          map-5 y h = map-entries ∙ rw (f, h) refl

          pub map-6 : (v : ReadValue ℕ) (row row₂ : List ℕ) (a : Read) → length row ≡ row_words → done v ≡ word_of (need text map_sorted d) → Closed (need text rparen v.next) used (bare_row k v.value 0 0 0) a row₂
              → Meets (map_at text type k at left) (row ++ before) a (row₂ ++ mid)
          map-6 v row row₂ a l r w =
              let h = got_word (need text map_sorted d) v r in
              rw (map-entries, f, h.is, h.value)
              (closes-over text (bare_row k v.value 0 0 0) (node g.row g.kids ∅) v.next used row row₂ before mid a l g.stored (let u = g.rows in omega arith) w)

    -- RunEndEncoded
    pub run-end-2 : (x : Refusal) → run_end_fields text type b left ≡ refused x → run_end_encoded_at text type k at left ≡ refused x
    unfolding run_end_encoded_at
    run-end-2 x f = rw (e, f) refl

    pub run-end-3 : (n used : ℕ) (row row₂ before mid : List ℕ) (a : Read) → length row ≡ row_words → GotFields (run_end_fields text type b left) n used before mid → Closed (need text rparen n) used (bare_row k 0 0 0 0) a row₂
        → Meets (run_end_encoded_at text type k at left) (row ++ before) a (row₂ ++ mid)
    unfolding run_end_encoded_at
    run-end-3 n used row row₂ before mid a l g h = rw (e, g.is) (closes-over text (bare_row k 0 0 0 0) g.trees n used row row₂ before mid a l g.stored g.rows h)
