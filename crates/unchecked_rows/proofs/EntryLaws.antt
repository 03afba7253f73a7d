-- Map's entries: test by test as `map_entries.rt` asks, and what is refused where the rows nest.
use Rattle.std.specs.Prelude.{if◌then◌else◌}
use mathlib.Core.Path.{◌≡◌, refl, ap, ◌∙◌}
use mathlib.Core.Bool.{true}
use mathlib.Core.List.{List, [], ◌∷◌, map}
use mathlib.Core.Option
use mathlib.Core.Option.{Option, none, some}
use Prim.Native.Nat.{ℕ, ◌+◌, ◌*◌, ◌-◌, ◌≤◌, ◌<◌}
use native.Mathlib.Omega.{arith}
use lib.ListN.{length, get_or}
use lib.Dec.{eqb}
use borrow.Author.Tests.{le-leb, lt-leb}
use Rattle.std.proofs.lemmas.Bool.Decides.{nat_tests}
use Rattle.datatype.specs.Kind.{key_refusal, entries_refusal}
use Rattle.datatype.specs.Tree.{roots}
use Rattle.datatype.specs.Table.{row_words, rows_at}
use Rattle.unchecked_rows.specs.MapEntries.{listed, field_roles, entries_refusal_at}
use Rattle.unchecked_rows.specs.Internal.Run.{row_at, forest_at, Nests, entries_of}
use Rattle.unchecked_rows.specs.Internal.Beside.{beside}
use Rattle.unchecked_rows.proofs.SiblingLaws.{beside_steps, beside_roots}
use Rattle.unchecked_rows.proofs.Runs.{Turn, turn}

-- what is refused of fields whose first role is x
key_first : (x : ℕ) (o : Option (List ℕ))
    → key_refusal (listed (Option.map (λ ws. x ∷ ws) o)) ≡ (if eqb (length (listed (Option.map (λ ws. x ∷ ws) o))) 2 then (if eqb x 2 then 0 else 13) else 14)
key_first x none = refl
key_first x (some []) = refl
key_first x (some (b ∷ [])) = refl
key_first x (some (b ∷ c ∷ rs)) = grind (arith, nat_tests)

module _ (table : List ℕ) (row : ℕ) where
  -- the roles of a row's fields
  abbrev fields : List ℕ
  fields = listed (beside 2 table (row + 1) (row + rows_at table row))

  fields_are : field_roles table row ≡ fields
  unfolding field_roles beside
  fields_are = let e : row + rows_at table row - (row + 1) ≡ rows_at table row - 1 = omega arith in rw e

  key_is : key_refusal fields ≡ (if eqb (length fields) 2 then (if eqb (get_or table (row_words * (row + 1) + 2) 0) 2 then 0 else 13) else 14)
  key_is = grind (arith, nat_tests, beside_steps, key_first)

  pub key_room : true ≡ eqb (length fields) 2 → row_words * (row + 1 + 1) ≤ length table
  key_room two = grind (arith, nat_tests, beside_steps)

  pub entries_outside : length table < row_words * (row + 1) → entries_refusal_at table row ≡ 14
  unfolding entries_refusal_at
  entries_outside h = rw (lt-leb (row_words * (row + 1)) (length table) h)

  -- test by test, as the code asks
  pub entries_are : row_words * (row + 1) ≤ length table
      → entries_refusal_at table row
      ≡ (if eqb (get_or table (row_words * row + 2) 0) 2 then (if eqb (get_or table (row_words * row + 0) 0) 32 then (if eqb (length fields) 2 then (if eqb (get_or table (row_words * (row + 1) + 2) 0) 2 then 0 else 13) else 14) else 14) else 13)
  unfolding entries_refusal_at entries_refusal
  entries_are h = rw (le-leb (row_words * (row + 1)) (length table) h, fields_are, key_is)

pub ruleset entries = (nat_tests, entries_outside, entries_are, key_room)

-- ---- where the rows nest

-- what is refused is what `datatype/Kind.entries_refusal` refuses of the first tree
pub entries_nest : (table : List ℕ) (row end : ℕ) → Nests table row (end - row) → row < end → entries_refusal_at table row ≡ entries_of (forest_at table row (end - row))
entries_nest table row end n l = go (turn table row end n l)
  where
    role-is : (i : ℕ) → (row_at table i).role ≡ get_or table (row_words * i + 2) 0
    role-is i = unfold row_at in refl

    roles : Turn table row end → field_roles table row ≡ map (λ r. r.role) (roots (forest_at table (row + 1) (row + rows_at table row - (row + 1))))
    roles t =
        let s = t.some-rows in
        fields_are table row ∙ ap listed (beside_roots 2 table (λ r. r.role) role-is (row + 1) (row + rows_at table row) t.kids (omega arith))

    go : Turn table row end → entries_refusal_at table row ≡ entries_of (forest_at table row (end - row))
    go t =
        let m = n.room in
        unfold entries_refusal_at row_at in rw (le-leb (row_words * (row + 1)) (length table) (omega arith), t.is, roles t)
