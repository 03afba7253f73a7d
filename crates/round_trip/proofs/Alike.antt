-- Kinds that share their theorem (document 01, 'The strength of each statement').
--   decimals          over the width: the text of any precision and scale is read as one row of the width's kind, or is
--                     refused with 12. `decimal_fits` says which, and `width_fits` (datatype) says what it is for each width
--   decimals_read     any text behind a decimal's word is read by one reader, given the kind
--   decimal_text_lem  and the text of a precision and a scale is what such a row prints
--   lists-read        over the kind: the four plain lists are read alike, but for the kind in the row
--   list_text         and printed alike, but for the kind's word
use Rattle.std.specs.Prelude.{if◌then◌else◌}
use mathlib.Core.Path.{◌≡◌, refl, sym, ap, ◌∙◌}
use mathlib.Core.Bool.{Bool, true, false}
use mathlib.Core.List.{List, [], ◌∷◌, ◌++◌, append-nil}
use Prim.Native.Nat.{ℕ, zero, suc, ◌+◌, ◌-◌, ◌≤◌, ◌<◌}
use native.Mathlib.Omega.{arith}
use lib.ListN.{length, drop, length-append, length-drop}
use lib.Dec.{T, leb, leb→le}
use Rattle.tokenizer.specs.Text.{bytes}
use Rattle.tokenizer.specs.Answer.{Out, refused, done, refuse_at, ◌>>=◌}
use Rattle.tokenizer.specs.Words.{words}
use Rattle.tokenizer.specs.Utf8.{utf8_step, utf8_state, is_utf8}
use Rattle.tokenizer.specs.Token.{Standing, is_separator, type_word, lparen, rparen}
use Rattle.tokenizer.proofs.Basics.{is_true}
use Rattle.tokenizer.proofs.Utf8Laws.{utf8_append}
use Rattle.datatype.specs.Kind.{list, decimal, kinds, decimal32_kind, shape_of, decimal_fits}
use Rattle.datatype.specs.Tree.{Forest, ∅, node, Row, Label}
use Rattle.datatype.proofs.Tests.{below_at}
use Rattle.unchecked_rows.specs.Parents.{with_parent, parented_from, parented}
use Rattle.parser.specs.Parse.{Tree, bare_row, single, place_at, need, close_at, list_field, list_at, decimal_at, shape_at, type_with, type_at}
use Rattle.parser.proofs.FirstType.{first-type}
use Rattle.datatype_parse.specs.Parse.{text_over, parse}
use Rattle.writer.specs.Digits.{digits_with, digits}
use Rattle.display_length.specs.Display.{Shown, kind_word, scale_text, list_field_text, shape_text, type_text, shown, display}
use Rattle.display_length.specs.declared.words.Spelling.{Spelling}
use Rattle.round_trip.proofs.Tokens.{kind_word_lem}
use Rattle.round_trip.proofs.Pieces.{look-here, Found, found_word, need-found}
use Rattle.round_trip.proofs.Leaves.{DecimalRead, decimal-any}
use Rattle.round_trip.proofs.ReadBack.{over}

-- ---- decimals, over the width: 32, 64, 128 and 256 bits are 0 to 3

-- the text of a precision and a scale, of which 128 more is given
abbrev pub decimal_tail : ℕ → ℕ → List ℕ
decimal_tail p s = bytes "(" ++ (digits p ++ (bytes ", " ++ (scale_text s ++ bytes ")")))

abbrev pub decimal_text : ℕ → ℕ → ℕ → List ℕ
decimal_text w p s = kind_word (decimal32_kind + w) ++ decimal_tail p s

decimal_shape_lem : (w : ℕ) → w < 4 → shape_of (decimal32_kind + w) ≡ decimal
unfolding shape_of
decimal_shape_lem zero h = refl
decimal_shape_lem (suc zero) h = refl
decimal_shape_lem (suc (suc zero)) h = refl
decimal_shape_lem (suc (suc (suc zero))) h = refl
decimal_shape_lem (suc (suc (suc (suc w)))) h = absurd (omega arith)

-- any text behind the word of a decimal is read by one reader, which looks at the kind for its greatest precision alone
pub decimals_read : (text : List ℕ) (type : ℕ → ℕ → Out Tree) (k at rows : ℕ) → shape_of k ≡ decimal → shape_at text type (shape_of k) k at rows ≡ decimal_at text k at
unfolding shape_at
decimals_read text type k at rows e = rw e

-- what it prints
pub decimal_text_lem : (spelling : Spelling) (w : ℕ) (l : Label) → w < 4 → l.kind ≡ decimal32_kind + w → display spelling (node l ∅ ∅) ≡ decimal_text w l.number l.scale
unfolding display shown type_text shape_text
decimal_text_lem spelling w l h e = rw (e, decimal_shape_lem w h)

-- such a text is short, and UTF-8
record Short (s : List ℕ) : Type 0 where
  utf8 : T (is_utf8 s)
  size : length s ≤ 16

abbrev is_short : List ℕ → Bool
is_short s = leb (length s) 16

short_word : (k : ℕ) → k < kinds → Short (kind_word k)
unfolding kind_word words is_utf8 utf8_state utf8_step
short_word k h =
    record {
      utf8 = below_at kinds (λ (n : ℕ). is_utf8 (kind_word n)) tt k h;
      size = leb→le (length (kind_word k)) 16 (below_at kinds (λ (n : ℕ). is_short (kind_word n)) tt k h);
    }

short_digits : (p : ℕ) → p < 256 → Short (digits p)
unfolding digits digits_with is_utf8 utf8_state utf8_step
short_digits p h =
    record {
      utf8 = below_at 256 (λ (n : ℕ). is_utf8 (digits n)) tt p h;
      size = leb→le (length (digits p)) 16 (below_at 256 (λ (n : ℕ). is_short (digits n)) tt p h);
    }

short_scale : (s : ℕ) → s < 256 → Short (scale_text s)
unfolding scale_text digits digits_with is_utf8 utf8_state utf8_step
short_scale s h =
    record {
      utf8 = below_at 256 (λ (n : ℕ). is_utf8 (scale_text n)) tt s h;
      size = leb→le (length (scale_text s)) 16 (below_at 256 (λ (n : ℕ). is_short (scale_text n)) tt s h);
    }

module _ (w p s : ℕ) (h : w < 4) (i : p < 256) (j : s < 256) where
  abbrev k : ℕ
  k = decimal32_kind + w

  abbrev text : List ℕ
  text = decimal_text w p s

  short : length text ≤ 16384
  short =
      let a = (short_word k (omega arith)).size in
      let b = (short_digits p i).size in
      let c = (short_scale s j).size in
      simp length-append (omega arith)

  utf8 : is_utf8 text ≡ true
  unfolding is_utf8 utf8_state utf8_step
  utf8 =
      is_true (is_utf8 text)
      (utf8_append (kind_word k) (decimal_tail p s) (short_word k (omega arith)).utf8
      (utf8_append (bytes "(") (digits p ++ (bytes ", " ++ (scale_text s ++ bytes ")"))) tt
      (utf8_append (digits p) (bytes ", " ++ (scale_text s ++ bytes ")")) (short_digits p i).utf8
      (utf8_append (bytes ", ") (scale_text s ++ bytes ")") tt (utf8_append (scale_text s) (bytes ")") (short_scale s j).utf8 tt)))))

  word : Found text type_word k 0 (decimal_tail p s)
  unfolding is_separator
  word = found_word text type_word k 0 0 (kind_word k) (decimal_tail p s) (kind_word_lem k (omega arith)) tt (look-here text 0 text refl)

  tail-read : DecimalRead text k p s word.token.next []
  tail-read = decimal-any text k p s word.token.next [] i j (word.after ∙ sym (append-nil (decimal_tail p s)))

  -- what is read of the whole text, by where its type ends
  abbrev tree : ℕ → Tree
  tree next = record { row = bare_row k p s 0 0; kids = ∅; next = next }

  type-read : (rows : ℕ) (d : DecimalRead text k p s word.token.next []) → type_at text 64 0 (suc rows) ≡ (if decimal_fits k p s then done (tree d.next) else refuse_at 12 (d.next - 1))
  unfolding type_at type_with
  type-read rows d =
      rw (need-found text type_word k 0 (decimal_tail p s) word, word.value, decimals_read text (λ a r. type_at text 63 a r) k word.token.next rows (decimal_shape_lem w h))
      d.reads

  ends : tail-read.next ≡ length text
  ends = let i = tail-read.inside in let l = length-drop tail-read.next text in let z : length (drop tail-read.next text) ≡ 0 = ap length tail-read.after in omega arith

  pub decimals : (rows : ℕ) → parse (decimal_text w p s) (suc rows) ≡ (if decimal_fits (decimal32_kind + w) p s then done (node (bare_row (decimal32_kind + w) p s 0 0) ∅ ∅) else refuse_at 12 (length (decimal_text w p s) - 1))
  unfolding parse parented_from with_parent
  decimals rows = ap (λ (o : Out Tree). o >>= whole) (first-type text (suc rows) short utf8 ∙ type-read rows tail-read) ∙ go (decimal_fits k p s)
    where
      whole : Tree → Out (Forest Row)
      whole t = if text_over text t.next then done (parented (single t)) else refuse_at 16 (place_at text t.next)

      go : (b : Bool) → ((if b then done (tree tail-read.next) else refuse_at 12 (tail-read.next - 1)) >>= whole) ≡ (if b then done (node (bare_row k p s 0 0) ∅ ∅) else refuse_at 12 (length text - 1))
      go true = rw (over text tail-read.next tail-read.after)
      go false = ap (λ (n : ℕ). refuse_at 12 (n - 1)) ends

-- ---- the four plain lists, over the kind

-- what it prints
pub list_text : (spelling : Spelling) (l : Label) (c : Shown) → shape_of l.kind ≡ list → type_text spelling l (c ∷ []) ≡ kind_word l.kind ++ (bytes "(" ++ (list_field_text c ++ bytes ")"))
unfolding type_text shape_text
list_text spelling l c e = rw e

-- the answer with another kind in its row, whose other words are all unused
abbrev pub as_kind : ℕ → Out Tree → Out Tree
as_kind k o = o >>= (λ t. done (record { row = bare_row k 0 0 0 0; kids = t.kids; next = t.next }))

module _ (text : List ℕ) (type : ℕ → ℕ → Out Tree) (k j at rows : ℕ) where
  behind-field : (o : Out Tree) → (o >>= (λ t. close_at text (bare_row k 0 0 0 0) (single t) t.next)) ≡ as_kind k (o >>= (λ t. close_at text (bare_row j 0 0 0 0) (single t) t.next))
  unfolding close_at
  behind-field (refused r) = refl
  behind-field (done t) = close (need text rparen t.next)
    where
      close : (o : Out Standing) → (o >>= (λ c. done (record { row = bare_row k 0 0 0 0; kids = single t; next = c.next }))) ≡ as_kind k (o >>= (λ c. done (record { row = bare_row j 0 0 0 0; kids = single t; next = c.next })))
      close (refused r) = refl
      close (done c) = refl

  pub lists-read : shape_of k ≡ list → shape_of j ≡ list → shape_at text type (shape_of k) k at rows ≡ as_kind k (shape_at text type (shape_of j) j at rows)
  unfolding shape_at list_at
  lists-read e f = rw (e, f) (go (need text lparen at))
    where
      go : (o : Out Standing)
          → (o >>= (λ p. list_field text type p.next rows >>= (λ t. close_at text (bare_row k 0 0 0 0) (single t) t.next)))
          ≡ as_kind k (o >>= (λ p. list_field text type p.next rows >>= (λ t. close_at text (bare_row j 0 0 0 0) (single t) t.next)))
      go (refused r) = refl
      go (done p) = behind-field (list_field text type p.next rows)
