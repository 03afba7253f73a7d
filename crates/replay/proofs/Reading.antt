-- Numbers read digit by digit, and buffers filled with them from the front.
use mathlib.Core.Path.{◌≡◌, sym, ap, ◌∙◌}
use mathlib.Core.List.{List, [], ◌∷◌, ◌++◌, append-nil, append_assoc}
use Prim.Native.Nat.{ℕ, suc, ◌+◌, ◌-◌, ◌≤◌, ◌<◌}
use native.Mathlib.Omega.{arith}
use lib.ListN.{length, get_or, take, drop, set, drop_of_length-le}
use lib.Seq.{drop-cons, take-suc-set, take_all}
use borrow.Author.Tests.{lt-ltb, le-ltb}
use Rattle.replay.specs.Sample.{shift, number_from, number_at, numbers_at, after_numbers}
use Rattle.replay.specs.HalfCase.{half_of, halves_at}

-- ---- a number

module _ (sample : List ℕ) (at value i : ℕ) (inv : number_from value i (drop i sample) ≡ number_at sample at) where
  pub number-end : length sample ≤ i → record { value = value; next = i } ≡ number_at sample at
  unfolding number_from
  number-end h = ap (number_from value i) (sym (drop_of_length-le sample {i = i} h)) ∙ inv

  module _ (h : i < length sample) where
    met : number_from value i (get_or sample i 0 ∷ drop (suc i) sample) ≡ number_at sample at
    met = ap (number_from value i) (sym (drop-cons sample i 0 h)) ∙ inv

    pub number-stop : get_or sample i 0 < 48 → record { value = value; next = i + 1 } ≡ number_at sample at
    unfolding number_from
    number-stop l =
        let e : i + 1 ≡ suc i = omega arith in
        let m = met in
        rw e (rw (lt-ltb (get_or sample i 0) 48 l) at m)

    pub number-go : (v : ℕ) → 48 ≤ get_or sample i 0 → v ≡ shift value (get_or sample i 0 - 48) → number_from v (i + 1) (drop (i + 1) sample) ≡ number_at sample at
    unfolding number_from
    number-go v l s =
        let e : i + 1 ≡ suc i = omega arith in
        let m = met in
        rw (e, s) (rw (le-ltb (get_or sample i 0) 48 l) at m)

-- ---- numbers, one behind the other: those in the buffer, and those still to come

module _ (sample : List ℕ) (n i next : ℕ) where
  pub after-more : i < n → after_numbers sample (n - i) next ≡ after_numbers sample (n - (i + 1)) (number_at sample next).next
  unfolding after_numbers
  after-more h = let e : n - i ≡ suc (n - (i + 1)) = omega arith in rw e

  pub after-all : n ≤ i → after_numbers sample (n - i) next ≡ next
  unfolding after_numbers
  after-all h = let e : n - i ≡ 0 = omega arith in rw e

  module _ (out : List ℕ) where
    pub numbers-more : i < n → i < length out
        → take i out ++ numbers_at sample (n - i) next ≡ take (i + 1) (set out i (number_at sample next).value) ++ numbers_at sample (n - (i + 1)) (number_at sample next).next
    unfolding numbers_at
    numbers-more h l =
        let v : ℕ = (number_at sample next).value in
        let e : n - i ≡ suc (n - (i + 1)) = omega arith in
        let f : i + 1 ≡ suc i = omega arith in
        rw (e, ap (λ (k : ℕ). take k (set out i v)) f, take-suc-set out i v l) (sym (append_assoc (take i out) (v ∷ []) _))

    pub numbers-all : n ≤ i → length out ≤ i → take i out ++ numbers_at sample (n - i) next ≡ out
    unfolding numbers_at
    numbers-all h l = let e : n - i ≡ 0 = omega arith in rw (e, take_all i out l) (append-nil out)

    -- the same of half words
    pub halves-more : i < n → i < length out
        → take i out ++ halves_at sample (n - i) next ≡ take (i + 1) (set out i (half_of (number_at sample next).value)) ++ halves_at sample (n - (i + 1)) (number_at sample next).next
    unfolding halves_at
    halves-more h l =
        let v : ℕ = half_of (number_at sample next).value in
        let e : n - i ≡ suc (n - (i + 1)) = omega arith in
        let f : i + 1 ≡ suc i = omega arith in
        rw (e, ap (λ (k : ℕ). take k (set out i v)) f, take-suc-set out i v l) (sym (append_assoc (take i out) (v ∷ []) _))

    pub halves-all : n ≤ i → length out ≤ i → take i out ++ halves_at sample (n - i) next ≡ out
    unfolding halves_at
    halves-all h l = let e : n - i ≡ 0 = omega arith in rw (e, take_all i out l) (append-nil out)

-- what the loops that read numbers use
pub ruleset number_steps = (number-end, number-stop, number-go)

pub ruleset numbers_steps = (after-more, after-all, numbers-more, numbers-all)

pub ruleset halves_steps = (after-more, after-all, halves-more, halves-all)
