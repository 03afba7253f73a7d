-- Bytes written over others at their place: the length of a record, once it is known.
use mathlib.Core.Path.{◌≡◌, refl, ap, ◌∙◌}
use mathlib.Core.List.{List, [], ◌∷◌, ◌++◌}
use Prim.Native.Nat.{ℕ, suc, ◌<◌}
use native.Mathlib.Omega.{arith}
use lib.ListN.{length, set}
use lib.Seq.{sets}
use Rattle.std.proofs.lemmas.List.{set-set, set_comm}

-- a store at a place before others
set-before : (xs : List ℕ) (i j a : ℕ) (s : List ℕ) → i < j → set (sets xs j s) i a ≡ sets (set xs i a) j s
set-before xs i j a [] h = refl
set-before xs i j a (b ∷ s) h = set-before (set xs j b) i (suc j) a s (omega arith) ∙ ap (λ (l : List ℕ). sets l (suc j) s) (set_comm xs j i b a (λ e. omega (arith, e)))

pub over : (xs : List ℕ) (i : ℕ) (zs vs rest : List ℕ) → length zs ≡ length vs → sets (sets xs i (zs ++ rest)) i vs ≡ sets xs i (vs ++ rest)
over xs i [] [] rest e = refl
over xs i [] (v ∷ vs) rest e = absurd (omega arith)
over xs i (z ∷ zs) [] rest e = absurd (omega arith)
over xs i (z ∷ zs) (v ∷ vs) rest e =
    ap (λ (l : List ℕ). sets l (suc i) vs) (set-before (set xs i z) i (suc i) v (zs ++ rest) (omega arith) ∙ ap (λ (l : List ℕ). sets l (suc i) (zs ++ rest)) (set-set xs i z v))
    ∙ over (set xs i v) (suc i) zs vs rest (omega arith)
