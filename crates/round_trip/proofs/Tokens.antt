-- The token that stands where a printed piece begins: words, numbers and quoted strings, and what may follow them.
use mathlib.Core.Path.{◌≡◌, refl, ◌∙◌}
use mathlib.Core.Bool.{Bool, true, false, not, ◌&&◌, ◌||◌}
use mathlib.Core.List.{List, [], ◌∷◌, ◌++◌}
use mathlib.Core.Option.{some}
use Prim.Native.Nat.{ℕ, suc, ◌-◌, ◌^◌, ◌≤◌, ◌<◌}
use native.Mathlib.Omega.{arith}
use lib.ListN.{length}
use lib.Dec.{T, leb, eqb}
use borrow.Author.Tests.{le-leb}
use Rattle.std.proofs.lemmas.Bool.Decides.{nat_tests}
use Rattle.tokenizer.specs.Text.{all, same}
use Rattle.tokenizer.specs.Words.{words, find}
use Rattle.tokenizer.specs.Token.{token, sort_of, value_of, type_word, is_separator, word_of, is_digit, word_kind, until_quote, token_from}
use Rattle.tokenizer.specs.Answer.{done}
use Rattle.tokenizer.specs.declared.TokenKind.TheVariants.{Integer}
use Rattle.tokenizer.proofs.Basics.{and_l, and_r, is_true, is_false}
use Rattle.datatype.specs.Kind.{kinds}
use Rattle.datatype.proofs.Tests.{below_at}
use Rattle.tokenizer.proofs.Listed.{same_path}
use Rattle.writer.specs.Digits.{digits}
use Rattle.display_length.specs.Display.{kind_word, escaped}
use Rattle.round_trip.specs.Plain.{is_plain_byte, is_plain_text}
use Rattle.round_trip.proofs.Decimals.{Spelled, digits_spell}

-- ---- words

-- what may follow a word: the end, one of the four marks, or a space
abbrev pub Stop : List ℕ → Type 0
Stop [] = Unit {0}
Stop (c ∷ s) = T (is_separator c)

pub mark_stop : (s : List ℕ) → Stop (41 ∷ s)
mark_stop s = unfold is_separator in tt

pub comma_stop : (s : List ℕ) → Stop (44 ∷ s)
comma_stop s = unfold is_separator in tt

abbrev pub in_word : ℕ → Bool
in_word c = not (is_separator c)

pub word_of_lem : (w s : List ℕ) → T (all in_word w) → Stop s → word_of (w ++ s) ≡ w
unfolding word_of
word_of_lem [] [] h k = refl
word_of_lem [] (c ∷ s) h k = rw (is_true (is_separator c) k)
word_of_lem (c ∷ w) s h k =
    rw (is_false (is_separator c) (and_l (in_word c) (all in_word w) h), word_of_lem w s (and_r (in_word c) (all in_word w) h) k)

-- a byte that begins a word
abbrev pub word_start : ℕ → Bool
word_start c = not (is_separator c || eqb c 34 || eqb c 39)

pub word_token_lem : (at c : ℕ) (w s : List ℕ) → T (word_start c) → T (all in_word w) → Stop s
    → token_from at (c ∷ (w ++ s)) ≡ token (word_kind (c ∷ w)) at (suc (length w))
unfolding token_from is_separator word_of
word_token_lem at c w s h k l = let e = word_of_lem w s k l in grind (arith, nat_tests)

-- a word that is looked for in the list
unfoldable pub is_listed_word : List ℕ → Bool
is_listed_word [] = false
is_listed_word (c ∷ w) = word_start c && all in_word w && not (eqb c 45) && not (is_digit c)

pub listed_token : (at : ℕ) (w s : List ℕ) → T (is_listed_word w) → Stop s → token_from at (w ++ s) ≡ token (find w words) at (length w)
unfolding is_listed_word word_kind
listed_token at [] s h k = absurd h
listed_token at (c ∷ w) s h k =
    word_token_lem at c w s (grind (arith, nat_tests)) (grind (arith, nat_tests)) k
    ∙ rw (is_false (eqb c 45) (grind (arith, nat_tests)), is_false (is_digit c) (grind (arith, nat_tests)))

-- ---- numbers

-- a digit begins a word, and is no minus
digit_starts : (c : ℕ) → T (is_digit c) → T (word_start c) × T (in_word c) × (eqb c 45 ≡ false)
unfolding is_digit is_separator
digit_starts c h = (grind (arith, nat_tests), grind (arith, nat_tests), grind (arith, nat_tests))

digits_in_word : (w : List ℕ) → T (all is_digit w) → T (all in_word w)
digits_in_word [] h = tt
digits_in_word (c ∷ w) h = let d = digit_starts c (grind (arith, nat_tests)) in let ds = digits_in_word w (grind (arith, nat_tests)) in grind (arith, nat_tests)

spelled_token : (at n : ℕ) (w s : List ℕ) → Spelled n w → n < 2 ^ 63 → Stop s → token_from at (w ++ s) ≡ token (done (Integer false n)) at (length w)
unfolding word_kind
spelled_token at n [] s h k l = absurd (omega (arith, h.some))
spelled_token at n (c ∷ w) s h k l =
    let d : T (is_digit c) = grind (arith, nat_tests) in
    let ds : T (all is_digit w) = grind (arith, nat_tests) in
    let q = digit_starts c d in
    word_token_lem at c w s q.0 (digits_in_word w ds) l
    ∙ rw (q.2, is_true (is_digit c) d, is_true (all is_digit w) ds, h.value, le-leb n (2 ^ 63 - 1) (omega arith))

pub number_token_lem : (at n : ℕ) (s : List ℕ) → n < 2 ^ 63 → Stop s → token_from at (digits n ++ s) ≡ token (done (Integer false n)) at (length (digits n))
number_token_lem at n s h k = spelled_token at n (digits n) s (digits_spell n) h k

minus_spelled : (at n : ℕ) (w s : List ℕ) → Spelled n w → n ≤ 2 ^ 63 → Stop s → token_from at (45 ∷ (w ++ s)) ≡ token (done (Integer true n)) at (suc (length w))
unfolding word_kind
minus_spelled at n [] s h k l = absurd (omega (arith, h.some))
minus_spelled at n (c ∷ w) s h k l =
    word_token_lem at 45 (c ∷ w) s (unfold is_separator in tt) (digits_in_word (c ∷ w) h.digits) l
    ∙ rw (is_true (all is_digit (c ∷ w)) h.digits, h.value, le-leb n (2 ^ 63) k)

pub minus_token : (at n : ℕ) (s : List ℕ) → n ≤ 2 ^ 63 → Stop s → token_from at (45 ∷ (digits n ++ s)) ≡ token (done (Integer true n)) at (suc (length (digits n)))
minus_token at n s h k = minus_spelled at n (digits n) s (digits_spell n) h k

-- ---- quoted strings of plain bytes

pub record PlainByte (c : ℕ) : Type 0 where
  pub most : leb c 0xC5 ≡ true
  pub double : eqb c 34 ≡ false
  pub single : eqb c 39 ≡ false
  pub backslash : eqb c 92 ≡ false

pub plain_byte : (c : ℕ) → T (is_plain_byte c) → PlainByte c
unfolding is_plain_byte
plain_byte c h = record { most = grind (arith, nat_tests); double = grind (arith, nat_tests); single = grind (arith, nat_tests); backslash = grind (arith, nat_tests) }

-- the two parts of what is asked
pub plain_bytes : (s : List ℕ) → T (is_plain_text s) → T (all is_plain_byte s)
unfolding is_plain_text
plain_bytes s k = and_l (all is_plain_byte s) (same (escaped s) s) k

-- plain names and zones are printed as they are
pub escaped_plain : (s : List ℕ) → T (is_plain_text s) → escaped s ≡ s
unfolding is_plain_text
escaped_plain s k = same_path (escaped s) s (and_r (all is_plain_byte s) (same (escaped s) s) k)

-- the mark that ends a string of bytes that are no such mark and no backslash
until_quote_lem : (quote : ℕ) (name s : List ℕ) → eqb quote quote ≡ true → ((c : ℕ) → T (is_plain_byte c) → eqb c quote ≡ false) → T (all is_plain_byte name)
    → until_quote quote false (name ++ (quote ∷ s)) ≡ some (length name)
unfolding until_quote
until_quote_lem quote [] s e f k = rw e
until_quote_lem quote (c ∷ name) s e f k =
    let h : T (is_plain_byte c) = and_l (is_plain_byte c) (all is_plain_byte name) k in
    rw (f c h, (plain_byte c h).backslash, until_quote_lem quote name s e f (and_r (is_plain_byte c) (all is_plain_byte name) k))

pub until_double : (name s : List ℕ) → T (is_plain_text name) → until_quote 34 false (name ++ (34 ∷ s)) ≡ some (length name)
until_double name s k = until_quote_lem 34 name s refl (λ c h. (plain_byte c h).double) (plain_bytes name k)

pub until_single : (name s : List ℕ) → T (is_plain_text name) → until_quote 39 false (name ++ (39 ∷ s)) ≡ some (length name)
until_single name s k = until_quote_lem 39 name s refl (λ c h. (plain_byte c h).single) (plain_bytes name k)

-- ---- the words of the kinds

-- a word of the list that is of a sort and has a value
unfoldable pub is_word_of : ℕ → ℕ → List ℕ → Bool
is_word_of sort value w = is_listed_word w && eqb (sort_of (find w words)) sort && eqb (value_of (find w words)) value

pub record WordOf (k v : ℕ) (w : List ℕ) : Type 0 where
  pub listed : T (is_listed_word w)
  pub sort : sort_of (find w words) ≡ k
  pub value : value_of (find w words) ≡ v

pub word_is : (sort value : ℕ) (w : List ℕ) → T (is_word_of sort value w) → WordOf sort value w
unfolding is_word_of
word_is sort value w h = record { listed = grind (arith, nat_tests); sort = grind (arith, nat_tests); value = grind (arith, nat_tests) }

-- the word of each kind is the type word of that kind
pub kind_word_lem : (k : ℕ) → k < kinds → WordOf type_word k (kind_word k)
unfolding is_word_of is_listed_word kind_word words is_separator is_digit
kind_word_lem k h = word_is type_word k (kind_word k) (below_at kinds (λ (n : ℕ). is_word_of type_word n (kind_word n)) tt k h)
