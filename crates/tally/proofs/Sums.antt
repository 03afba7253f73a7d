-- Counts that are added, one for each number of a range.
use Rattle.std.specs.Prelude.{if◌then◌else◌, sum}
use mathlib.Core.Path.{◌≡◌, refl, ap, ◌∙◌}
use mathlib.Core.List.{List, [], ◌∷◌}
use Prim.Native.Nat.{ℕ, zero, suc, ◌+◌, ◌≤◌, ◌<◌}
use native.Mathlib.Omega.{arith}
use native.Mathlib.Decide.{dec_lt}
use lib.ListN.{length, get_or, set}
use lib.Dec.{eqb}
use Rattle.std.proofs.lemmas.Bool.Decides.{nat_tests}
use Rattle.std.proofs.lemmas.List.Sums.{sum_by-cons}
use Rattle.tally.specs.Tally.{each_from, added}

-- ---- a value for each number

each-suc : (a n : ℕ) (f : ℕ → ℕ) → each_from a (suc n) f ≡ f a ∷ each_from (a + 1) n f
unfolding each_from
each-suc a n f = refl

pub length-each : (n a : ℕ) (f : ℕ → ℕ) → length (each_from a n f) ≡ n
unfolding each_from
length-each zero a f = refl
length-each (suc n) a f = ap suc (length-each n (a + 1) f)

-- values that are equal from the first number on
pub each-same : (n a : ℕ) (f g : ℕ → ℕ) → ((k : ℕ) → a ≤ k → f k ≡ g k) → each_from a n f ≡ each_from a n g
unfolding each_from
each-same zero a f g h = refl
each-same (suc n) a f g h = λ j. h a (omega arith) j ∷ each-same n (a + 1) f g (λ k l. h k (omega arith)) j

pub each-all : (n a : ℕ) (f g : ℕ → ℕ) → ((k : ℕ) → f k ≡ g k) → each_from a n f ≡ each_from a n g
each-all n a f g h = each-same n a f g (λ k l. h k)

-- ---- added

pub added-each : (n a : ℕ) (f g : ℕ → ℕ) → added (each_from a n f) (each_from a n g) ≡ each_from a n (λ k. f k + g k)
unfolding each_from
added-each zero a f g = refl
added-each (suc n) a f g = ap (λ (l : List ℕ). (f a + g a) ∷ l) (added-each n (a + 1) f g)

pub length-added : (xs ys : List ℕ) → length xs ≡ length ys → length (added xs ys) ≡ length xs
length-added [] ys h = refl
length-added (x ∷ xs) [] h = absurd (omega arith)
length-added (x ∷ xs) (y ∷ ys) h = ap suc (length-added xs ys (omega arith))

-- nothing is added
pub added-none : (xs : List ℕ) (a n : ℕ) → length xs ≡ n → added xs (each_from a n (λ k. 0)) ≡ xs
unfolding each_from
added-none [] a n h = refl
added-none (x ∷ xs) a zero h = absurd (omega arith)
added-none (x ∷ xs) a (suc n) h = let e : x + 0 ≡ x = omega arith in λ j. e j ∷ added-none xs (a + 1) n (omega arith) j

-- a value of the sum
pub get-added : (xs : List ℕ) (n a k : ℕ) (g : ℕ → ℕ) → length xs ≡ n → k < n → get_or (added xs (each_from a n g)) k 0 ≡ get_or xs k 0 + g (a + k)
unfolding each_from
get-added [] n a k g h l = absurd (omega arith)
get-added (x ∷ xs) zero a k g h l = absurd (omega arith)
get-added (x ∷ xs) (suc n) a zero g h l = let e : a ≡ a + 0 = omega arith in ap (λ (i : ℕ). x + g i) e
get-added (x ∷ xs) (suc n) a (suc k) g h l =
    let e : a + 1 + k ≡ a + suc k = omega arith in get-added xs n (a + 1) k g (omega arith) (omega arith) ∙ ap (λ (i : ℕ). get_or xs k 0 + g i) e

-- one, where the number is the one counted
abbrev pub one_at : ℕ → ℕ → ℕ
one_at i k = if eqb i k then 1 else 0

one-other : (i k : ℕ) → i < k → one_at i k ≡ 0
one-other i k h = grind (arith, nat_tests)

one-self : (i : ℕ) → one_at i i ≡ 1
one-self i = grind (arith, nat_tests)

-- the count of one number is one more
pub added-one : (xs : List ℕ) (n a k : ℕ) (g : ℕ → ℕ) → length xs ≡ n → k < n
    → set (added xs (each_from a n g)) k (get_or (added xs (each_from a n g)) k 0 + 1) ≡ added xs (each_from a n (λ i. g i + one_at (a + k) i))
unfolding each_from
added-one [] n a k g h l = absurd (omega arith)
added-one (x ∷ xs) zero a k g h l = absurd (omega arith)
added-one (x ∷ xs) (suc n) a zero g h l =
    let e : a + 0 ≡ a = omega arith in
    let o = ap (λ (i : ℕ). one_at i a) e ∙ one-self a in
    let f : x + g a + 1 ≡ x + (g a + one_at (a + 0) a) = omega arith in
    λ j. f j ∷ added xs (each-same n (a + 1) g (λ i. g i + one_at (a + 0) i) (λ i l. let z = one-other (a + 0) i (omega arith) in omega arith) j)
added-one (x ∷ xs) (suc n) a (suc k) g h l =
    let o = one-later a (a + suc k) (omega arith) in
    let f : x + g a ≡ x + (g a + one_at (a + suc k) a) = omega arith in
    let e : a + 1 + k ≡ a + suc k = omega arith in
    λ j. f j ∷ (added-one xs n (a + 1) k g (omega arith) (omega arith) ∙ ap (λ (c : ℕ). added xs (each_from (a + 1) n (λ i. g i + one_at c i))) e) j
  where
    one-later : (k i : ℕ) → k < i → one_at i k ≡ 0
    one-later k i h = grind (arith, nat_tests)

-- ---- what the values sum to

pub sum-each-zero : (n a : ℕ) → sum (each_from a n (λ k. 0)) ≡ 0
unfolding each_from
sum-each-zero zero a = refl
sum-each-zero (suc n) a =
    let p = sum_by-cons (λ (x : ℕ). x) 0 (each_from (a + 1) n (λ k. 0)) in
    let q = sum-each-zero n (a + 1) in
    omega arith

pub sum-each-add : (n a : ℕ) (f g : ℕ → ℕ) → sum (each_from a n (λ k. f k + g k)) ≡ sum (each_from a n f) + sum (each_from a n g)
unfolding each_from
sum-each-add zero a f g = refl
sum-each-add (suc n) a f g =
    let p = sum_by-cons (λ (x : ℕ). x) (f a + g a) (each_from (a + 1) n (λ k. f k + g k)) in
    let q = sum_by-cons (λ (x : ℕ). x) (f a) (each_from (a + 1) n f) in
    let r = sum_by-cons (λ (x : ℕ). x) (g a) (each_from (a + 1) n g) in
    let s = sum-each-add n (a + 1) f g in
    omega arith

-- one number of the range is counted once
pub sum-each-one : (n a i : ℕ) → a ≤ i → i < a + n → sum (each_from a n (one_at i)) ≡ 1
unfolding each_from
sum-each-one zero a i h l = absurd (omega arith)
sum-each-one (suc n) a i h l =
    elim (dec_lt a i) [
      | yes m ↦
          let p = sum_by-cons (λ (x : ℕ). x) (one_at i a) (each_from (a + 1) n (one_at i)) in
          let q = sum-each-one n (a + 1) i (omega arith) (omega arith) in
          let z = one-later a i m in
          omega arith
      | no m ↦
          let e : i ≡ a = omega arith in
          let p = sum_by-cons (λ (x : ℕ). x) (one_at i a) (each_from (a + 1) n (one_at i)) in
          let q = ap sum (each-same n (a + 1) (one_at i) (λ k. 0) (λ k l. one-other i k (omega arith))) ∙ sum-each-zero n (a + 1) in
          let z = ap (λ (k : ℕ). one_at k a) e ∙ one-self a in
          omega arith
    ]
  where
    one-later : (k i : ℕ) → k < i → one_at i k ≡ 0
    one-later k i h = grind (arith, nat_tests)
