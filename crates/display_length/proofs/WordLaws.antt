-- The words that numbers stand for: what `kind_word` answers for a number that is no kind, and how long the words of
-- `words.rt` and the marks of `around.rt` can be.
use mathlib.Core.Path.{◌≡◌, refl}
use Rattle.std.specs.Prelude.{if◌then◌else◌}
use mathlib.Core.Bool.{Bool, true, false}
use mathlib.Core.List.{[]}
use Prim.Native.Nat.{ℕ, zero, suc, ◌+◌, ◌-◌, ◌≤◌, ◌<◌}
use native.Mathlib.Decide.{dec_lt}
use native.Mathlib.Omega.{arith}
use lib.ListN.{length}
use lib.Dec.{T, leb, eqb, leb→le}
use borrow.Author.Tests.{lt-ltb, le-ltb}
use Rattle.tokenizer.specs.Words.{words}
use Rattle.datatype.specs.Kind.{kinds}
use Rattle.datatype.proofs.Tests.{all_below, below_at}
use Rattle.writer.specs.Digits.{digits}
use Rattle.writer.proofs.DigitLaws.{digits_few}
use Rattle.display_length.specs.declared.words.Spelling.{Spelling}
use Rattle.display_length.specs.declared.words.Spelling.TheVariants.{Us, Micro}
use Rattle.display_length.specs.Display.{kind_word, kind_text, microsecond_text, unit_text, interval_text, mode_text, sorted_text, scale_text}
use Rattle.display_length.specs.Internal.Steps.{word_length, comma_length, nullity_length}

-- ---- kinds

no_word : (k : ℕ) → kinds ≤ k → word_length k ≡ 0
unfolding word_length kind_text
no_word k h = rw (le-ltb k kinds h)

words_few : T (all_below kinds (λ k. leb (word_length k) 15))
unfolding word_length kind_text kind_word words
words_few = tt

pub word_few : (k : ℕ) → word_length k ≤ 15
word_few k =
    elim (dec_lt k kinds) [
      | yes h ↦ leb→le (word_length k) 15 (below_at kinds (λ i. leb (word_length i) 15) words_few k h)
      | no h ↦ (let e = no_word k (omega arith) in omega arith)
    ]

-- what is no kind has no word
pub none_text : (k : ℕ) → kinds ≤ k → [] ≡ kind_text k
unfolding kind_text
none_text k h = rw (le-ltb k kinds h)

-- a kind has its word
pub kind_text_is : (k : ℕ) → k < kinds → kind_text k ≡ kind_word k
unfolding kind_text
kind_text_is k h = rw (lt-ltb k kinds h)

-- ---- units, modes, sorted

microsecond_few : (spelling : Spelling) → length (microsecond_text spelling) ≤ 3
unfolding microsecond_text
microsecond_few Us = omega arith
microsecond_few Micro = omega arith

pub unit_few : (spelling : Spelling) (k : ℕ) → length (unit_text spelling k) ≤ 3
unfolding unit_text
unit_few spelling zero = omega arith
unit_few spelling (suc zero) = omega arith
unit_few spelling (suc (suc zero)) = microsecond_few spelling
unit_few spelling (suc (suc (suc k))) = omega arith

pub interval_few : (k : ℕ) → length (interval_text k) ≤ 12
unfolding interval_text
interval_few zero = omega arith
interval_few (suc zero) = omega arith
interval_few (suc (suc k)) = omega arith

pub mode_few : (k : ℕ) → length (mode_text k) ≤ 6
unfolding mode_text
mode_few zero = omega arith
mode_few (suc k) = omega arith

pub sorted_few : (k : ℕ) → length (sorted_text k) ≤ 8
unfolding sorted_text
sorted_few zero = omega arith
sorted_few (suc k) = omega arith

-- ---- numbers

module _ (s : ℕ) where
  pub scale-negative : s < 128 → (r : ℕ) → r ≡ length (digits (128 - s)) → 1 + r ≡ length (scale_text s)
  unfolding scale_text
  scale-negative h r e = rw (lt-ltb s 128 h) (omega arith)

  pub scale-positive : 128 ≤ s → (r : ℕ) → r ≡ length (digits (s - 128)) → r ≡ length (scale_text s)
  unfolding scale_text
  scale-positive h r e = rw (le-ltb s 128 h) e

  pub scale_few : s < 4294967296 → length (scale_text s) ≤ 11
  scale_few h =
      elim (dec_lt s 128) [
        | yes l ↦ (let d = digits_few (128 - s) (omega arith) in let e = scale-negative l _ refl in omega arith)
        | no l ↦ (let d = digits_few (s - 128) (omega arith) in let e = scale-positive (omega arith) _ refl in omega arith)
      ]

-- ---- marks around a child's type

pub comma_few : (first : Bool) → comma_length first ≤ 2
comma_few true = omega arith
comma_few false = omega arith

pub nullity_few : (role : ℕ) → nullity_length role ≤ 9
unfolding nullity_length
nullity_few role = go (eqb role 2)
  where
    go : (b : Bool) → (if b then 9 else 0) ≤ 9
    go true = omega arith
    go false = omega arith
