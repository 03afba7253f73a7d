-- Numbers: digit by digit, and by the first byte of a word.
use Rattle.std.specs.Prelude.{nat_abs}
use mathlib.Core.Path.{◌≡◌, refl, sym, ap}
use mathlib.Core.Bool.{Bool, true, false, ◌&&◌}
use mathlib.Core.List.{List, [], ◌∷◌}
use Prim.Native.Nat.{ℕ, suc, ◌+◌, ◌*◌, ◌-◌, ◌≤◌, ◌<◌}
use native.Mathlib.Omega.{arith}
use native.Mathlib.Numerals.{add-one}
use lib.ListN.{length, take, drop, get_or, drop_of_length-le}
use lib.Seq.{drop-cons, take_all}
use lib.Dec.{T, leb, leb→le}
use borrow.Author.Tests.{lt-leb, le-leb}
use Rattle.std.proofs.lemmas.Bool.Decides.{nat_tests}
use Rattle.tokenizer.specs.Answer.{done, refuse}
use Rattle.tokenizer.specs.Text.{all}
use Rattle.tokenizer.specs.Token.{is_digit, number_from, signed, number_kind, word_kind}
use Rattle.tokenizer.specs.Internal.Digits.{begins_number, limit, kind_from}
use Rattle.tokenizer.specs.declared.TokenKind.TheVariants.{Integer}
use Rattle.tokenizer.proofs.Basics.{and_l, and_r, of_true}

pub digit_least : (b : ℕ) → is_digit b ≡ true → 48 ≤ b
unfolding is_digit
digit_least b e = leb→le 48 b (and_l (leb 48 b) (leb b 57) (of_true (leb 48 b && leb b 57) e))

pub digit_most : (b : ℕ) → is_digit b ≡ true → b ≤ 57
unfolding is_digit
digit_most b e = leb→le b 57 (and_r (leb 48 b) (leb b 57) (of_true (leb 48 b && leb b 57) e))

pub limit_most : (negative : Bool) → limit negative ≤ 9223372036854775808
limit_most negative = grind arith

-- a sign changes no magnitude
pub abs_signed : (negative : Bool) (n : ℕ) → nat_abs (signed negative n) ≡ n
abs_signed negative n = grind arith

-- ---- digit by digit

-- more digits make no smaller number
pub grows : (v : ℕ) (ds : List ℕ) → v ≤ number_from v ds
unfolding number_from
grows v [] = omega arith
grows v (d ∷ ds) = omega (arith, grows (v * 10 + (d - 48)) ds)

and_false : (a : Bool) → (a && false) ≡ false
and_false true = refl
and_false false = refl

pub kind_start : (negative : Bool) (digits : List ℕ) → 0 < length digits → number_kind negative digits ≡ kind_from negative 0 digits
unfolding kind_from
kind_start negative [] h = absurd (omega arith)
kind_start negative (d ∷ ds) h = refl

pub kind_none : (negative : Bool) (digits : List ℕ) → length digits ≤ 0 → refuse 8 ≡ number_kind negative digits
kind_none negative [] h = refl
kind_none negative (d ∷ ds) h = absurd (omega arith)

module _ (negative : Bool) (v : ℕ) (digits : List ℕ) (i : ℕ) where
  pub kind-out : length digits ≤ i → kind_from negative v (drop i digits) ≡ kind_from negative v []
  kind-out h = rw (drop_of_length-le digits h)

  pub kind-go : i < length digits → is_digit (get_or digits i 0) ≡ true
      → kind_from negative v (drop i digits) ≡ kind_from negative (v * 10 + (get_or digits i 0 - 48)) (drop (i + 1) digits)
  unfolding kind_from number_from
  kind-go h e = rw (drop-cons digits i 0 h, e, add-one i)

  pub kind-other : i < length digits → is_digit (get_or digits i 0) ≡ false → kind_from negative v (drop i digits) ≡ refuse 8
  unfolding kind_from
  kind-other h e = rw (drop-cons digits i 0 h, e)

  pub kind-large : i < length digits → 922337203685477580 < v → kind_from negative v (drop i digits) ≡ refuse 8
  unfolding kind_from number_from
  kind-large h l =
      let c = get_or digits i 0 in
      let rest = drop (suc i) digits in
      let g = grows (v * 10 + (c - 48)) rest in
      let m = limit_most negative in
      let f : leb (number_from (v * 10 + (c - 48)) rest) (limit negative) ≡ false = lt-leb (number_from (v * 10 + (c - 48)) rest) (limit negative) (omega arith) in
      rw (drop-cons digits i 0 h, f, and_false (all is_digit (c ∷ rest)))

module _ (negative : Bool) (v : ℕ) where
  pub kind-beyond : limit negative < v → refuse 8 ≡ kind_from negative v []
  unfolding kind_from number_from
  kind-beyond h = rw (lt-leb v (limit negative) h)

  pub kind-fits : v ≤ limit negative → done (Integer negative v) ≡ kind_from negative v []
  unfolding kind_from number_from
  kind-fits h = rw (le-leb v (limit negative) h)

-- ---- by the first byte

-- a word that begins as a number does has a first byte
pub first_there : (w : List ℕ) → T (begins_number w) → 0 < length w
first_there [] t = absurd t
first_there (c ∷ w) t = omega arith

-- it is one with a minus sign, or one without
pub word_minus : (w : List ℕ) → T (begins_number w) → get_or w 0 0 ≡ 45 → word_kind w ≡ number_kind true (take (length w - 1) (drop 1 w))
unfolding word_kind
word_minus [] t e = absurd t
word_minus (c ∷ w) t e = rw e (ap (number_kind true) (sym (take_all (length (c ∷ w) - 1) w (omega arith))))

pub word_plain : (w : List ℕ) → T (begins_number w) → (get_or w 0 0 ≡ 45 → ⊥) → word_kind w ≡ number_kind false w
unfolding word_kind
word_plain [] t n = absurd t
word_plain (c ∷ w) t n = grind (arith, nat_tests)
