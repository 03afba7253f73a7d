-- Decimal digits: the number that only falls never decides them, the last digit stands behind the others, and how many
-- they are.
use mathlib.Core.Path.{◌≡◌, sym, ap, ◌∙◌}
use mathlib.Core.List.{List, [], ◌∷◌, ◌++◌, append_assoc, append-nil}
use Prim.Native.Nat.{ℕ, zero, suc, ◌+◌, ◌-◌, ◌/◌, ◌%◌, ◌^◌, ◌*◌, ◌≤◌, ◌<◌}
use native.Mathlib.Decide.{dec_lt}
use native.Mathlib.Omega.{arith}
use lib.ListN.{length, take, drop, take-append-drop, length-append}
use lib.Seq.{sets, sets-eq, take_all}
use borrow.Author.Tests.{lt-ltb, le-ltb}
use borrow.Author.Rules.{rules}
use Rattle.std.specs.Fmt.{decimal}
use Rattle.std.proofs.lemmas.Fmt.{decimal_from_appends, length-decimal-le, length-decimal-le_succ}
use Rattle.writer.specs.Digits.{digits_with, digits}

pub digits_enough : (m n k : ℕ) → k < m → k < n → digits_with m k ≡ digits_with n k
unfolding digits_with
digits_enough zero n k p q = absurd (omega arith)
digits_enough (suc m) zero k p q = absurd (omega arith)
digits_enough (suc m) (suc n) k p q =
    elim (dec_lt k 10) [
      | yes h ↦ rw (lt-ltb k 10 h)
      | no h ↦ rw (le-ltb k 10 (omega arith), digits_enough m n (k / 10) (omega arith) (omega arith))
    ]

pub digits_one : (n : ℕ) → n < 10 → digits n ≡ (48 + n) ∷ []
unfolding digits digits_with
digits_one n h = rw (lt-ltb n 10 h)

digits_step : (n : ℕ) → 10 ≤ n → digits_with (suc n) n ≡ digits_with n (n / 10) ++ ((48 + n % 10) ∷ [])
unfolding digits_with
digits_step n h = rw (le-ltb n 10 h)

pub digits_more : (n : ℕ) → 10 ≤ n → digits n ≡ digits (n / 10) ++ ((48 + n % 10) ∷ [])
unfolding digits
digits_more n h = digits_step n h ∙ ap (λ (s : List ℕ). s ++ ((48 + n % 10) ∷ [])) (digits_enough n (suc (n / 10)) (n / 10) (omega arith) (omega arith))

-- ---- how many

pub one_digit : (n : ℕ) → n < 10 → 1 ≡ length (digits n)
one_digit n h = sym (ap length (digits_one n h))

pub digits_length_lem : (n : ℕ) → 10 ≤ n → length (digits n) ≡ suc (length (digits (n / 10)))
digits_length_lem n h = ap length (digits_more n h) ∙ length-append (digits (n / 10)) ((48 + n % 10) ∷ []) ∙ (let e : length (digits (n / 10)) + 1 ≡ suc (length (digits (n / 10))) = omega arith in e)

-- From a power of ten on and below the next there is one digit more than the power says.
pub digits_between : (k n : ℕ) → 10 ^ suc k ≤ n → n < 10 ^ suc (suc k) → suc (suc k) ≡ length (digits n)
digits_between zero n h l = let e = digits_length_lem n (omega arith) in let f = one_digit (n / 10) (omega arith) in omega arith
digits_between (suc k) n h l =
    let e = digits_length_lem n (omega arith) in
    let f = digits_between k (n / 10) (omega arith) (omega arith) in
    omega arith

-- The logarithm to base 10, and one, is how many digits there are.
pub log_digits : (k n : ℕ) → 10 ^ k ≤ n → n < 10 * 10 ^ k → k + 1 ≡ length (digits n)
log_digits zero n h l = one_digit n (omega arith)
log_digits (suc k) n h l = let e = digits_between k n h (omega arith) in omega arith

pub ruleset how_many = (one_digit, log_digits)

-- A number below a power of ten has no more digits than the power says.
pub digits_at_most : (k n : ℕ) → n < 10 ^ suc k → length (digits n) ≤ suc k
digits_at_most zero n h = let e = one_digit n (omega arith) in omega arith
digits_at_most (suc k) n h =
    elim (dec_lt n 10) [
      | yes l ↦ let e = one_digit n l in omega arith
      | no l ↦ let e = digits_length_lem n (omega arith) in let f = digits_at_most k (n / 10) (omega arith) in omega arith
    ]

pub digits_few : (n : ℕ) → n < 4294967296 → length (digits n) ≤ 10
digits_few n h = digits_at_most 9 n (omega arith)

-- ---- writing them

-- The library's word is the same, of a number of 64 bits.
pub digits_decimal : (n : ℕ) → n < 18446744073709551616 → digits n ≡ decimal n
unfolding digits digits_with
digits_decimal n h = decimal_from_appends digits_with (search rules) (suc n) n h (let e = length-decimal-le_succ n h in omega arith)

-- Ten bytes hold the digits of a number of 32 bits.
pub decimal_few : (n : ℕ) → n < 4294967296 → length (decimal n) ≤ 10
decimal_few n h = length-decimal-le 10 n (omega arith) (omega arith) (omega arith)

-- They stand at the end of the ten.
pub digits_part : (n start : ℕ) (number : List ℕ) → n < 4294967296 → start + length (decimal n) ≡ 10 → drop start number ≡ decimal n ++ [] → take (10 - start) (drop start number) ≡ digits n
digits_part n start number h k e =
    ap (take (10 - start)) (e ∙ append-nil (decimal n)) ∙ take_all (10 - start) (decimal n) (omega arith) ∙ sym (digits_decimal n (omega arith))

pub ruleset ten_digits = (digits_part, decimal_few)

-- Written to their end in the output itself, they stand at their place.
pub digits_stored : (before after : List ℕ) (n start at : ℕ) → n < 4294967296 → at + length (digits n) ≤ length before → start + length (decimal n) ≡ at + length (digits n)
    → drop start after ≡ decimal n ++ drop (at + length (digits n)) before → take start after ≡ take start before → after ≡ sets before at (digits n)
digits_stored before after n start at h room e w b =
    let same = digits_decimal n (omega arith) in
    let size = ap length same in
    let place : start ≡ at = omega arith in
    sym (take-append-drop start after)
    ∙ ap (λ (l : List ℕ). l ++ drop start after) b
    ∙ ap (λ (l : List ℕ). take start before ++ l) (w ∙ ap (λ (l : List ℕ). l ++ drop (at + length (digits n)) before) (sym same))
    ∙ ap (λ (k : ℕ). take k before ++ (digits n ++ drop (at + length (digits n)) before)) place
    ∙ sym (append_assoc (take at before) (digits n) (drop (at + length (digits n)) before))
    ∙ sym (sets-eq (digits n) before at room)
