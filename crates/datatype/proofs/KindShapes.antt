-- A kind's number and its shape, each number whether it is a kind's or not: in one computed test over the kinds.
use Rattle.std.specs.Prelude.{if◌then◌else◌}
use mathlib.Core.Path.{◌≡◌, refl, ◌∙◌}
use mathlib.Core.Bool.{◌&&◌}
use Prim.Native.Nat.{ℕ}
use native.Mathlib.Omega.{arith}
use lib.Dec.{T, leb, eqb}
use Rattle.std.proofs.lemmas.Bool.Decides.{nat_tests}
use Rattle.datatype.specs.Kind.{Shape, leaf, timestamp, time, interval, fixed, list, fixed_list, struct, union, dictionary, decimal, mapping, run_end_encoded, shapes, shape_of, is_word}
use Rattle.datatype.proofs.Tests.{get_or_by}

-- which shape it is: what the arms of a `match` over kinds know
abbrev pub shape_by_number : ℕ → Shape
shape_by_number k =
    if leb 27 k && leb k 31 then (if eqb k 29 then fixed_list else list)
    else if leb 35 k && leb k 38 then decimal
    else if eqb k 32 then struct
    else if eqb k 33 then union
    else if eqb k 34 then dictionary
    else if eqb k 39 then mapping
    else if eqb k 40 then run_end_encoded
    else if eqb k 13 then timestamp
    else if leb 16 k && leb k 18 then time
    else if eqb k 19 then interval
    else if eqb k 21 then fixed
    else leaf

pub shape_by : (k : ℕ) → shape_of k ≡ shape_by_number k
unfolding shape_of
shape_by = get_or_by shape_by_number shapes leaf refl (λ k h. grind (arith, nat_tests))

-- for a function that asks for a shape by a `match` over kinds
pub ruleset by_shape = (shape_by, nat_tests)

-- the kinds that are written by their word alone
pub word_leaf : (k : ℕ) → T (is_word k) → shape_of k ≡ leaf
unfolding is_word
word_leaf k h = shape_by k ∙ grind (arith, nat_tests, shape_by)
