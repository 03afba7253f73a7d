-- Union ids of rows that stand side by side: row by row as the loop over them asks, and where the rows nest.
use mathlib.Core.Path.{◌≡◌, refl, sym}
use mathlib.Core.Bool.{true, false, not, ◌&&◌, and-false}
use mathlib.Core.List.{List, ◌∷◌, map}
use mathlib.Core.Option
use mathlib.Core.Option.{Option, none, some}
use Prim.Native.Nat.{ℕ, ◌+◌, ◌*◌, ◌-◌, ◌/◌, ◌%◌, ◌^◌, ◌≤◌, ◌<◌}
use lib.ListN.{length, get_or}
use lib.Dec.{ltb, eqb}
use Rattle.std.specs.Int.RustNames.{bit_and, bit_or}
use Rattle.std.proofs.lemmas.Bool.Decides.{nat_tests}
use Rattle.datatype.specs.Kind.{ids_fit}
use Rattle.datatype.specs.Tree.{roots}
use Rattle.datatype.specs.Table.{row_words, rows_at}
use Rattle.unchecked_rows.specs.Internal.Run.{row_at, forest_at, Nests}
use Rattle.unchecked_rows.specs.Internal.Beside.{beside}
use Rattle.unchecked_rows.specs.Internal.Ids.{fresh_ids, all_fresh, left_fit}
use Rattle.unchecked_rows.specs.UnionFields.{all_fit, type_ids_fit}
use Rattle.unchecked_rows.proofs.IdLaws.{fresh_ids_lem}
use Rattle.unchecked_rows.proofs.SiblingLaws.{beside_end, beside_outside, beside_empty, beside_next, beside_roots}

all_fresh_lem : (o : Option (List ℕ)) → all_fit o ≡ all_fresh 0 o
all_fresh_lem none = refl
all_fresh_lem (some ids) = fresh_ids_lem ids

fresh_more : (seen id : ℕ) (o : Option (List ℕ))
    → all_fresh seen (Option.map (λ ids. id ∷ ids) o) ≡ (ltb id 128 && not (eqb (bit_and (seen / 2 ^ id) 1) 1) && all_fresh (bit_or seen (1 * 2 ^ id % 2 ^ 128)) o)
unfolding fresh_ids
fresh_more seen id none = sym (and-false (ltb id 128 && not (eqb (bit_and (seen / 2 ^ id) 1) 1)))
fresh_more seen id (some ids) = refl

pub all_left : (table : List ℕ) (first end : ℕ) → type_ids_fit table first end ≡ left_fit table 0 first end
unfolding type_ids_fit left_fit beside
all_left table first end = all_fresh_lem (beside 3 table first end)

module _ (table : List ℕ) (seen at end : ℕ) where
  pub left_end : end ≤ at → left_fit table seen at end ≡ true
  unfolding left_fit fresh_ids
  left_end h = rw (beside_end 3 table at end h)

  pub left_outside : at < end → length table < row_words * (at + 1) → left_fit table seen at end ≡ false
  unfolding left_fit
  left_outside l h = rw (beside_outside 3 table at end l h)

  pub left_empty : at < end → rows_at table at ≡ 0 → left_fit table seen at end ≡ false
  unfolding left_fit
  left_empty l z = rw (beside_empty 3 table at end l z)

  pub left_next : at < end → row_words * (at + 1) ≤ length table → 1 ≤ rows_at table at
      → left_fit table seen at end
      ≡ (ltb (get_or table (row_words * at + 3) 0) 128 && not (eqb (bit_and (seen / 2 ^ get_or table (row_words * at + 3) 0) 1) 1) && left_fit table (bit_or seen (1 * 2 ^ get_or table (row_words * at + 3) 0 % 2 ^ 128)) (at + rows_at table at) end)
  unfolding left_fit
  left_next l m s = rw (beside_next 3 table at end l m s) (fresh_more seen (get_or table (row_words * at + 3) 0) (beside 3 table (at + rows_at table at) end))

pub ruleset lefts = (nat_tests, all_left, left_end, left_outside, left_empty, left_next)

-- where the rows nest, they are the ids of the trees
pub type_ids_fit_lem : (table : List ℕ) (first end : ℕ) → Nests table first (end - first) → first ≤ end → type_ids_fit table first end ≡ ids_fit (map (λ r. r.union_id) (roots (forest_at table first (end - first))))
type_ids_fit_lem table first end n l = unfold type_ids_fit beside in rw (beside_roots 3 table (λ r. r.union_id) (λ i. id-is i) first end n l)
  where
    id-is : (i : ℕ) → (row_at table i).union_id ≡ get_or table (row_words * i + 3) 0
    id-is i = unfold row_at in refl
