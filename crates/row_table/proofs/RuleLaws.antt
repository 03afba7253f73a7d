-- What the functions of `rules.rt` say of every number, whether it is a kind or not.
use mathlib.Core.Path.{◌≡◌, ◌∙◌}
use mathlib.Core.Bool.{true, false, ◌&&◌}
use Prim.Native.Nat.{ℕ, ◌<◌, ◌≤◌}
use native.Mathlib.Omega.{arith}
use lib.Dec.{ltb, eqb}
use Rattle.std.proofs.lemmas.Bool.Decides.{nat_tests}
use Rattle.datatype.specs.Kind.{decimal, shape_of, unit_fits, max_precision, decimal_fits}
use Rattle.row_table.specs.Sound.{rules_of}
use Rattle.row_table.specs.Internal.Check.{is_decimal, own_shape, numbers_fit}
use Rattle.datatype.proofs.KindShapes.{shape_by}
use Rattle.datatype.proofs.KindLaws.{max_by}

-- where the unit fits, a shape that is no decimal's asks nothing else of words 4 and 5
own_unit : (k p s : ℕ) → is_decimal k ≡ false → own_shape (shape_of k) k p s ≡ unit_fits k p
unfolding unit_fits is_decimal
own_unit k p s e = rw (shape_by k) (grind (arith, nat_tests))

module _ (k p s : ℕ) where
  decimal_shape : is_decimal k ≡ true → shape_of k ≡ decimal
  unfolding is_decimal
  decimal_shape e = shape_by k ∙ grind (arith, nat_tests)

  -- a decimal's numbers have room
  pub numbers_decimal : is_decimal k ≡ true → numbers_fit k p s ≡ decimal_fits k p s
  unfolding numbers_fit rules_of decimal_fits
  numbers_decimal e =
      let small : max_precision k ≤ 76 = rw (max_by k) (grind (arith, nat_tests)) in
      rw (decimal_shape e) (grind (arith, nat_tests))

  one_scale : is_decimal k ≡ false → (rules_of (shape_of k)).scales ≡ 1
  unfolding rules_of is_decimal
  one_scale e = rw (shape_by k) (grind (arith, nat_tests))

  -- no decimal: word 4 is one of its values and a unit that fits, and word 5 is 0
  pub numbers_plain : is_decimal k ≡ false → numbers_fit k p s ≡ (ltb p (rules_of (shape_of k)).params && eqb s 0 && unit_fits k p)
  unfolding numbers_fit
  numbers_plain e = rw (one_scale e, own_unit k p s e) (grind (arith, nat_tests))

  -- the first kinds have no numbers
  pub numbers_none : k < 13 → numbers_fit k p s ≡ (eqb p 0 && eqb s 0)
  unfolding numbers_fit rules_of
  numbers_none l = rw (shape_by k) (grind (arith, nat_tests))

  -- where word 4 has one value, no unit is asked for
  one_unit : (rules_of (shape_of k)).params ≡ 1 → unit_fits k p ≡ true
  unfolding rules_of unit_fits
  one_unit e = let f = rw (shape_by k) at e in grind (arith, nat_tests)

  -- nor have those whose word 4 has one value
  pub numbers_one : is_decimal k ≡ false → (rules_of (shape_of k)).params ≡ 1 → numbers_fit k p s ≡ (eqb p 0 && eqb s 0)
  numbers_one d e = numbers_plain d ∙ rw (one_unit e, e) (grind (arith, nat_tests))

pub ruleset numbers = (numbers_decimal, numbers_plain, numbers_none, numbers_one)
