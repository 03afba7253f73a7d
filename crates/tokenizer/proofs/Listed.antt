-- Two words compared.
use mathlib.Core.Path.{◌≡◌, refl}
use mathlib.Core.List.{List, [], ◌∷◌}
use Prim.Native.Nat.{ℕ}
use lib.Dec.{T, eqb, eqb→eq}
use Rattle.tokenizer.specs.Text.{same}
use Rattle.tokenizer.proofs.Basics.{and_l, and_r}

pub same_path : (a b : List ℕ) → T (same a b) → a ≡ b
same_path [] [] t = refl
same_path [] (y ∷ ys) t = absurd t
same_path (x ∷ xs) [] t = absurd t
same_path (x ∷ xs) (y ∷ ys) t =
    let p = eqb→eq x y (and_l (eqb x y) (same xs ys) t) in
    let q = same_path xs ys (and_r (eqb x y) (same xs ys) t) in
    λ j. p j ∷ q j
