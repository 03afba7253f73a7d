-- Decimal digits as they are printed: they are digits, there is one at least, and they spell the number.
use mathlib.Core.Path.{◌≡◌, refl, ◌∙◌}
use mathlib.Core.Bool.{true}
use mathlib.Core.List.{List, [], ◌∷◌, ◌++◌}
use Prim.Native.Nat.{ℕ, zero, suc, ◌+◌, ◌*◌, ◌-◌, ◌/◌, ◌%◌, ◌≤◌, ◌<◌}
use native.Mathlib.Nat.{mod-lt}
use native.Mathlib.Decide.{dec_lt}
use native.Mathlib.Omega.{arith}
use lib.ListN.{length, length-append}
use lib.Dec.{T}
use borrow.Author.Tests.{lt-ltb, le-ltb}
use Rattle.tokenizer.specs.Text.{all}
use Rattle.tokenizer.specs.Token.{is_digit, number_from}
use Rattle.tokenizer.proofs.Basics.{both}
use Rattle.std.proofs.lemmas.Bool.Decides.{nat_tests}
use Rattle.writer.specs.Digits.{digits_with, digits}

number_snoc : (v : ℕ) (s : List ℕ) (c : ℕ) → number_from v (s ++ (c ∷ [])) ≡ number_from v s * 10 + (c - 48)
unfolding number_from
number_snoc v [] c = refl
number_snoc v (d ∷ s) c = number_snoc (v * 10 + (d - 48)) s c

digits_snoc : (s : List ℕ) (c : ℕ) → T (all is_digit s) → T (is_digit c) → T (all is_digit (s ++ (c ∷ [])))
digits_snoc [] c h k = grind (arith, nat_tests)
digits_snoc (d ∷ s) c h k = let t = digits_snoc s c (grind (arith, nat_tests)) k in grind (arith, nat_tests)

digit : (d : ℕ) → d < 10 → T (is_digit (48 + d))
unfolding is_digit
digit d h = grind (arith, nat_tests)

-- digits that spell a number
pub record Spelled (n : ℕ) (s : List ℕ) : Type 0 where
  pub value : number_from 0 s ≡ n
  pub digits : T (all is_digit s)
  pub some : 0 < length s

one_digit : (f n : ℕ) → n < 10 → Spelled n (digits_with (suc f) n)
unfolding digits_with number_from
one_digit f n h = rw (lt-ltb n 10 h) (record { value = omega arith; digits = both (is_digit (48 + n)) true (digit n h) tt; some = omega arith })

more_digits : (f n : ℕ) → 10 ≤ n → Spelled (n / 10) (digits_with f (n / 10)) → Spelled n (digits_with (suc f) n)
unfolding digits_with
more_digits f n h k =
    let r : n % 10 < 10 = mod-lt n (omega arith) in
    rw (le-ltb n 10 h)
    (record {
      value = number_snoc 0 (digits_with f (n / 10)) (48 + n % 10) ∙ rw k.value (omega arith);
      digits = digits_snoc (digits_with f (n / 10)) (48 + n % 10) k.digits (digit (n % 10) r);
      some = simp length-append (omega arith);
    })

spelled : (f n : ℕ) → n < f → Spelled n (digits_with f n)
spelled zero n h = absurd (omega arith)
spelled (suc f) n h =
    elim (dec_lt n 10) [
      | yes k ↦ one_digit f n k
      | no k ↦ more_digits f n (omega arith) (spelled f (n / 10) (omega arith))
    ]

pub digits_spell : (n : ℕ) → Spelled n (digits n)
unfolding digits
digits_spell n = spelled (suc n) n (omega arith)
