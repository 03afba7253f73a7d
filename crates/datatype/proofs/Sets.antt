-- Stores into a list, behind one another: what writing rows and writing bytes have in common.
use mathlib.Core.Path.{◌≡◌, ap, ◌∙◌}
use mathlib.Core.List.{List, [], ◌∷◌, ◌++◌}
use Prim.Native.Nat.{ℕ, suc, ◌+◌}
use native.Mathlib.Omega.{arith}
use lib.ListN.{length, set}
use lib.Seq.{sets}

pub sets_append : (xs : List ℕ) (i : ℕ) (vs ws : List ℕ) → sets (sets xs i vs) (i + length vs) ws ≡ sets xs i (vs ++ ws)
sets_append xs i [] ws = ap (λ (k : ℕ). sets xs k ws) (omega arith)
sets_append xs i (v ∷ vs) ws =
    ap (λ (k : ℕ). sets (sets (set xs i v) (suc i) vs) k ws) (omega arith)
    ∙ sets_append (set xs i v) (suc i) vs ws
