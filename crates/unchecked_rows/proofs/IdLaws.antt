-- Union ids: those that are fresh one after the other, by a bit for each that was met, are distinct.
use mathlib.Core.Path.{◌≡◌, refl, sym, ap, ◌∙◌}
use mathlib.Core.Bool.{Bool, true, false, not, ◌&&◌, ◌||◌, and-true}
use mathlib.Core.List.{List, [], ◌∷◌}
use Prim.Native.Nat.{ℕ, ◌*◌, ◌/◌, ◌%◌, ◌^◌, ◌<◌}
use native.Mathlib.Omega.{arith}
use lib.Dec.{ltb, eqb}
use mir.Syntax.{w128}
use native.Mathlib.Decide.{ℕ_discrete}
use borrow.Author.Tests.{eq-eqb, ne_eqb, ltb-true}
use Rattle.std.specs.Int.RustNames.{bit_and, bit_or}
use Rattle.std.proofs.lemmas.Nat.Bits.{bit_at-zero, bit_at_set_same, bit_at_set_other, shr_and_one}
use Rattle.std.proofs.lemmas.Bool.Decides.{nat_tests}
use Rattle.datatype.specs.Kind.{has, ids_fit}
use Rattle.unchecked_rows.specs.Internal.Ids.{fresh_ids}

abbrev is_set : ℕ → ℕ → Bool
is_set seen id = eqb (bit_and (seen / 2 ^ id) 1) 1

none_set : (id : ℕ) → is_set 0 id ≡ false
none_set id = rw (shr_and_one 0 id, bit_at-zero id)

also_set : (seen id : ℕ) → id < 128 → (j : ℕ) → is_set (bit_or seen (1 * 2 ^ id % 2 ^ 128)) j ≡ (eqb j id || is_set seen j)
also_set seen id h j = elim (ℕ_discrete j id) [
  | yes e ↦ rw (shr_and_one (bit_or seen (1 * 2 ^ id % 2 ^ 128)) j, e, eq-eqb id id refl, bit_at_set_same w128 seen id h)
  | no d ↦ rw (shr_and_one (bit_or seen (1 * 2 ^ id % 2 ^ 128)) j, shr_and_one seen j, bit_at_set_other w128 seen id h j d, ne_eqb j id d)
]

-- no bit of these is set
none_in : ℕ → List ℕ → Bool
none_in seen [] = true
none_in seen (x ∷ xs) = not (is_set seen x) && none_in seen xs

eqb_sym : (a b : ℕ) → eqb a b ≡ eqb b a
eqb_sym a b = grind (arith, nat_tests)

swap_1 : (a b c d : Bool) → (not (a || b) && (not c && d)) ≡ (not (a || c) && (not b && d))
swap_1 a b c d = grind arith

none_with : (seen x : ℕ) → x < 128 → (xs : List ℕ) → none_in (bit_or seen (1 * 2 ^ x % 2 ^ 128)) xs ≡ (not (has x xs) && none_in seen xs)
unfolding none_in
none_with seen x h [] = refl
none_with seen x h (y ∷ xs) = rw (none_with seen x h xs, also_set seen x h y, eqb_sym y x) (swap_1 (eqb x y) (is_set seen y) (has x xs) (none_in seen xs))

swap_2 : (a b c d e : Bool) → (a && b && (c && (d && e))) ≡ (a && d && c && (b && e))
swap_2 a b c d e = grind arith

fresh_parts : (seen : ℕ) (xs : List ℕ) → fresh_ids seen xs ≡ (ids_fit xs && none_in seen xs)
unfolding fresh_ids ids_fit none_in
fresh_parts seen [] = refl
fresh_parts seen (x ∷ xs) = go (ltb x 128) refl (fresh_parts (bit_or seen (1 * 2 ^ x % 2 ^ 128)) xs)
  where
    go : (t : Bool) → ltb x 128 ≡ t → fresh_ids (bit_or seen (1 * 2 ^ x % 2 ^ 128)) xs ≡ (ids_fit xs && none_in (bit_or seen (1 * 2 ^ x % 2 ^ 128)) xs)
        → (ltb x 128 && not (is_set seen x) && fresh_ids (bit_or seen (1 * 2 ^ x % 2 ^ 128)) xs) ≡ (ltb x 128 && not (has x xs) && ids_fit xs && (not (is_set seen x) && none_in seen xs))
    go false e later = rw e
    go true e later = rw (later, none_with seen x (ltb-true x 128 e) xs) (swap_2 (ltb x 128) (not (is_set seen x)) (ids_fit xs) (not (has x xs)) (none_in seen xs))

none_in_lem : (xs : List ℕ) → none_in 0 xs ≡ true
unfolding none_in
none_in_lem [] = refl
none_in_lem (x ∷ xs) = rw (none_set x) (none_in_lem xs)

pub fresh_ids_lem : (xs : List ℕ) → ids_fit xs ≡ fresh_ids 0 xs
fresh_ids_lem xs = sym (fresh_parts 0 xs ∙ ap (λ (t : Bool). ids_fit xs && t) (none_in_lem xs) ∙ and-true (ids_fit xs))
