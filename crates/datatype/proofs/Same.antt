-- Equal lists are the same, and `==` on slices finds it out.
use mathlib.Core.Path.{◌≡◌, refl, subst, ap}
use mathlib.Core.Bool.{◌&&◌}
use mathlib.Core.List.{List, [], ◌∷◌}
use Prim.Native.Nat.{ℕ}
use lib.Dec.{T, eqb, eqb_refl}
use lib.Pointwise.{pointwise}
use Rattle.tokenizer.specs.Text.{same}
use Rattle.tokenizer.proofs.Basics.{both}

pub same_refl : (a : List ℕ) → T (same a a)
same_refl [] = tt
same_refl (x ∷ a) = both (eqb x x) (same a a) (eqb_refl x) (same_refl a)

pub eq_same : (a b : List ℕ) → a ≡ b → T (same a b)
eq_same a b e = subst (λ (x : List ℕ). T (same a x)) e (same_refl a)

-- what `==` on slices answers
pub pointwise_same : (a b : List ℕ) → pointwise eqb a b ≡ same a b
pointwise_same [] [] = refl
pointwise_same [] (y ∷ b) = refl
pointwise_same (x ∷ a) [] = refl
pointwise_same (x ∷ a) (y ∷ b) = ap (λ t. eqb x y && t) (pointwise_same a b)
