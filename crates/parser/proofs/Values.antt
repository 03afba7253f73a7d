-- Signed bytes as the rows keep them, numbers in their ranges, and the numbers of refusals.
use Rattle.std.specs.Prelude.{if◌then◌else◌}
use mathlib.Core.Path.{◌≡◌, refl, sym, ap, ◌∙◌, subst}
use mathlib.Core.Bool.{Bool, true, false}
use Prim.Native.Nat.{ℕ, zero, suc, ◌+◌, ◌-◌, ◌%◌, ◌≤◌, ◌<◌}
use lib.IntN.{ℤ, pos, negsuc}
use mir.Syntax.{w8}
use Rattle.std.specs.Prelude.{nat_abs, unsigned_abs}
use Rattle.std.specs.Int.{FitsUnsignedBits}
use Rattle.std.specs.Int.RustNames.{FitsSigned}
use native.Mathlib.Omega.{arith}
use Rattle.tokenizer.specs.Answer.{Out, number_of}
use Rattle.tokenizer.specs.declared.refusal.Refusal as R
use Rattle.tokenizer.specs.Token.{Standing, value_of, is_negative, signed, is_below_zero}
use Rattle.tokenizer.proofs.Numbers.{abs_signed}
use Rattle.parser.specs.Parse.{id_of, scale_of}
use Rattle.parser.specs.Internal.Steps.{integer_kind}
use Rattle.parser.proofs.Matched.{GotNumber}

-- A token's sign and magnitude, and those of the number that they are, which has no sign at 0: what is read of it is the same.
scale_kept : (negative : Bool) (v : ℕ) → scale_of (integer_kind (signed negative v)) ≡ (if negative then 128 - v else (128 + v))
scale_kept false v = refl
scale_kept true zero = refl
scale_kept true (suc v) = refl

id_kept : (negative : Bool) (v : ℕ) → id_of (integer_kind (signed negative v)) ≡ (if negative then (256 - v) % 256 else v)
id_kept false v = refl
id_kept true zero = refl
id_kept true (suc v) = refl

module _ (least most : ℕ) where
  -- the greatest magnitude by a number's sign
  abbrev pub bound : ℤ → ℕ
  bound z = if is_below_zero z then least else most

  limit_kept : (negative : Bool) (v : ℕ) → nat_abs (signed negative v) ≤ bound (signed negative v) → v ≤ (if negative then least else most)
  limit_kept false v h = h
  limit_kept true zero h = omega arith
  limit_kept true (suc v) h = h

  limit_passed : (negative : Bool) (v : ℕ) → bound (signed negative v) < nat_abs (signed negative v) → (if negative then least else most) < v
  limit_passed false v h = h
  limit_passed true zero h = absurd (omega arith)
  limit_passed true (suc v) h = h

module _ (o : Out Standing) (z : ℤ) (n : ℕ) (g : GotNumber o z n) where
  module _ (least most : ℕ) where
    pub inside-is : nat_abs z ≤ (if is_below_zero z then least else most) → value_of g.token.kind ≤ (if is_negative g.token.kind then least else most)
    inside-is h = limit_kept least most (is_negative g.token.kind) (value_of g.token.kind) (subst (λ (x : ℤ). nat_abs x ≤ bound least most x) (sym g.value) h)

    pub outside-is : (if is_below_zero z then least else most) < nat_abs z → (if is_negative g.token.kind then least else most) < value_of g.token.kind
    outside-is h = limit_passed least most (is_negative g.token.kind) (value_of g.token.kind) (subst (λ (x : ℤ). bound least most x < nat_abs x) (sym g.value) h)

  pub magnitude-is : value_of g.token.kind ≡ nat_abs z
  magnitude-is = sym (abs_signed (is_negative g.token.kind) (value_of g.token.kind)) ∙ ap nat_abs g.value

  pub scale-is : scale_of (integer_kind z) ≡ scale_of g.token.kind
  scale-is = ap (λ (x : ℤ). scale_of (integer_kind x)) (sym g.value) ∙ scale_kept (is_negative g.token.kind) (value_of g.token.kind)

  pub id-is : id_of (integer_kind z) ≡ id_of g.token.kind
  id-is = ap (λ (x : ℤ). id_of (integer_kind x)) (sym g.value) ∙ id_kept (is_negative g.token.kind) (value_of g.token.kind)

-- numbers of a byte, and those from 0 on
pub byte_in : (z : ℤ) → FitsSigned w8 z → nat_abs z ≤ (if is_below_zero z then 128 else 127)
byte_in z h = grind arith

pub byte_out : (z : ℤ) → (FitsSigned w8 z → ⊥) → (if is_below_zero z then 128 else 127) < nat_abs z
byte_out (pos n) h = grind (arith, h)
byte_out (negsuc n) h = grind (arith, h)

pub positive : (z : ℤ) → FitsUnsignedBits 32 z → (is_below_zero z ≡ false) × (nat_abs z ≡ unsigned_abs z)
positive z h = grind arith

pub positive_out : (z : ℤ) (most : ℕ) → (FitsUnsignedBits 32 z → ⊥) → most < 4294967296 → (if is_below_zero z then 0 else most) < nat_abs z
positive_out z most h m = grind arith

-- no refusal has the number 0
pub number_some : (e : R.Refusal) → number_of e ≡ 0 → ⊥
number_some e z = grind arith
