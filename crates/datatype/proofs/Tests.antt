-- Tests: when two are equal, a test over all numbers below a bound, and a list as a function.
use mathlib.Core.Path.{◌≡◌, refl, sym, ap, ◌∙◌, subst}
use mathlib.Core.Bool.{Bool, true, false, ◌&&◌}
use mathlib.Core.List.{List, map}
use Prim.Native.Nat.{ℕ, zero, suc, ◌<◌, ◌≤◌}
use native.Mathlib.Decide.{dec_lt}
use native.Mathlib.Omega.{arith}
use lib.ListN.{length, get_or, get_or-eq_default}
use Rattle.std.specs.List.{range_with_len}
use Rattle.std.proofs.lemmas.List.FromFn.{get_or-map-range_with_len}
use lib.Dec.{T, leb}
use borrow.Author.Tests.{leb-true, leb-false}
use Rattle.tokenizer.proofs.Basics.{and_l, and_r}

pub iff_eq : (a b : Bool) → (T a → T b) → (T b → T a) → a ≡ b
iff_eq true true f g = refl
iff_eq true false f g = absurd (f tt)
iff_eq false true f g = absurd (g tt)
iff_eq false false f g = refl

pub false_of : (b : Bool) → (T b → ⊥) → false ≡ b
false_of true f = absurd (f tt)
false_of false f = refl

-- the test passes below n
abbrev pub all_below : ℕ → (ℕ → Bool) → Bool
all_below zero f = true
all_below (suc n) f = f n && all_below n f

pub below_at : (n : ℕ) (f : ℕ → Bool) → T (all_below n f) → (k : ℕ) → k < n → T (f k)
below_at zero f t k h = absurd (omega arith)
below_at (suc n) f t k h = go (leb n k) refl (λ l. below_at n f (and_r (f n) (all_below n f) t) k l)
  where
    go : (b : Bool) → leb n k ≡ b → (k < n → T (f k)) → T (f k)
    go true e more = let le = leb-true n k e in let z : n ≡ k = omega arith in subst (λ (i : ℕ). T (f i)) z (and_l (f n) (all_below n f) t)
    go false e more = more (leb-false n k e)

-- a list that gives what a function does, by the list computed, and past its end too
pub get_or_by : {A : Type 0} (f : ℕ → A) (xs : List A) (d : A) → map f (range_with_len 0 (length xs)) ≡ xs → ((k : ℕ) → length xs ≤ k → d ≡ f k) → (k : ℕ) → get_or xs k d ≡ f k
get_or_by f xs d e past k =
    elim (dec_lt k (length xs)) [
      | yes h ↦ ap (λ ys. get_or ys k d) (sym e) ∙ get_or-map-range_with_len f 0 (length xs) k k d h (omega arith)
      | no h ↦ get_or-eq_default xs d {n = k} (omega arith) ∙ past k (omega arith)
    ]
