-- Decimals: what the functions of `kind.rt` look at.
use Rattle.std.specs.Prelude.{if◌then◌else◌}
use mathlib.Core.Path.{◌≡◌, refl}
use mathlib.Core.Bool.{◌&&◌}
use mathlib.Core.List.{[], ◌∷◌}
use Prim.Native.Nat.{ℕ, ◌+◌, ◌-◌, ◌<◌}
use native.Mathlib.Omega.{arith}
use lib.ListN.{get_or}
use lib.Dec.{leb, eqb}
use borrow.Author.Tests.{le-ltb}
use Rattle.std.proofs.lemmas.Bool.Decides.{nat_tests}
use Rattle.datatype.specs.Kind.{decimal32_kind, max_precision, decimal_fits}
use Rattle.datatype.proofs.Tests.{get_or_by}

abbrev width_max : ℕ → ℕ
width_max w = if eqb w 0 then 9 else if eqb w 1 then 18 else if eqb w 2 then 38 else if eqb w 3 then 76 else 0

-- the greatest precision of each number, whether it is a kind or not
pub max_by : (k : ℕ) → max_precision k ≡ (if eqb k 35 then 9 else if eqb k 36 then 18 else if eqb k 37 then 38 else if eqb k 38 then 76 else 0)
unfolding max_precision
max_by k = rw (get_or_by width_max (9 ∷ 18 ∷ 38 ∷ 76 ∷ []) 0 refl (λ w h. grind (arith, nat_tests)) (k - decimal32_kind)) (grind (arith, nat_tests))

-- one rule for the four widths, 32, 64, 128 and 256 bits: the precision is 1 to the width's greatest, and the scale,
-- less 128, at most the precision
pub width_fits : (w p s : ℕ) → w < 4 → decimal_fits (decimal32_kind + w) p s ≡ (leb 1 p && leb p (get_or (9 ∷ 18 ∷ 38 ∷ 76 ∷ []) w 0) && leb s (128 + p))
unfolding decimal_fits max_precision
width_fits w p s h =
    let e : decimal32_kind + w - decimal32_kind ≡ w = omega arith in
    rw (le-ltb (decimal32_kind + w) decimal32_kind (omega arith), e)
