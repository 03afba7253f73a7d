-- How `is_sound` finds its way: the clauses of soundness, in the order and the parts in which the code looks at them.
-- Contracts of private functions cite these; nothing here has to be believed, since `is_sound`'s own contract does not.
use Rattle.std.specs.Prelude.{Bool, true, false, ◌&&◌, ◌||◌, List, map, ℕ, ◌+◌, ◌-◌, length, take, nat_le, nat_lt, nat_eq, if◌then◌else◌}
use Rattle.std.proofs.Math.Option.{Option, none, some}
use Rattle.tokenizer.specs.Utf8.{utf8_state, is_utf8}
use Rattle.datatype.specs.Kind.{Shape, time, union, decimal, mapping, run_end_encoded, kinds, shape_of, unit_fits, decimal_fits, ids_fit}
use Rattle.datatype.specs.Tree.{Forest, ∅, node, roots, depth, Row, name_list, part, labels}
use Rattle.unchecked_rows.specs.Internal.Run.{forest_at, entries_of}
use Rattle.row_table.specs.declared.rules.Standing.{Standing as Place}
use Rattle.row_table.specs.declared.rules.Standing.TheVariants.{Bare, Field, UnionField}
use Rattle.row_table.specs.Sound.{Standing, bare, field, union_field, arity_fits, id_fits, rules_of, is_listed, rows_fit, placed}

-- A standing as the code has it.
abbrev pub standing_of : Place → Standing
standing_of Bare = bare
standing_of Field = field
standing_of UnionField = union_field

-- Where a kind's children stand.
abbrev pub below_of : ℕ → Standing
below_of k = (rules_of (shape_of k)).below

-- A place of the text that stands between two characters, or at an end.
unfoldable pub boundary : List ℕ → ℕ → Bool
boundary text at = nat_eq (utf8_state 0 (take at text)) 0

-- A part of the text that is not empty, lies within it and cuts no character.
unfoldable pub part_fits : List ℕ → ℕ → ℕ → Bool
part_fits text start size = nat_le 1 size && nat_le (start + size) (length text) && is_utf8 (part text start size)

-- The name of a row of a standing, by words 2, 6, 7 and 8.
unfoldable pub name_ok : List ℕ → Standing → ℕ → ℕ → ℕ → ℕ → Bool
name_ok text bare role home start size = nat_eq role 0 && nat_eq home 0 && nat_eq start 0 && nat_eq size 0
name_ok text field role home start size = (nat_eq role 1 || nat_eq role 2) && ((nat_eq home 1 && part_fits text start size) || (nat_eq home 2 && is_listed start size))
name_ok text union_field role home start size = (nat_eq role 1 || nat_eq role 2) && ((nat_eq home 1 && part_fits text start size) || (nat_eq home 2 && is_listed start size))

-- The zone of a row, by words 9 and 10.
unfoldable pub zone_ok : List ℕ → Bool → ℕ → ℕ → Bool
zone_ok text zoned start size = if nat_eq size 0 then nat_eq start 0 else (zoned && part_fits text start size)

-- One of the four decimals.
unfoldable pub is_decimal : ℕ → Bool
is_decimal k = nat_le 35 k && nat_le k 38

-- What a shape asks of words 4 and 5 alone.
abbrev pub own_shape : Shape → ℕ → ℕ → ℕ → Bool
own_shape time k param scale = unit_fits k param
own_shape decimal k param scale = decimal_fits k param scale
own_shape _ k param scale = true

-- Words 4 and 5 of a kind.
unfoldable pub numbers_fit : ℕ → ℕ → ℕ → Bool
numbers_fit k param scale =
    nat_lt param (rules_of (shape_of k)).params && nat_lt scale (rules_of (shape_of k)).scales && own_shape (shape_of k) k param scale

-- A row of a standing, but for what its children must be.
unfoldable pub own_fits : List ℕ → Standing → Row → Bool
own_fits text standing r =
    nat_lt r.kind kinds
    && numbers_fit r.kind r.number r.scale
    && id_fits standing r.union_id
    && name_ok text standing r.role r.home r.name_start r.name_length
    && zone_ok text (rules_of (shape_of r.kind)).zoned r.zone_start r.zone_length

-- The trees of rows first to end.
abbrev pub trees : List ℕ → ℕ → ℕ → Forest Row
trees table first end = forest_at table first (end - first)

-- Map's entries: a non-null Struct of two whose first is non-null.
abbrev pub entries_ok : Forest Row → Bool
entries_ok f = nat_eq (entries_of f) 0

-- Run ends are non-null.
abbrev pub first_non_null : Forest Row → Bool
first_non_null ∅ = false
first_non_null (node r kids next) = nat_eq r.role 2

-- What a shape asks of its children besides their count.
abbrev pub over_kids : Shape → Forest Row → Bool
over_kids union kids = ids_fit (map (λ c. c.union_id) (roots kids))
over_kids mapping kids = entries_ok kids
over_kids run_end_encoded kids = first_non_null kids
over_kids _ kids = true

-- The children of a row of a kind, but for what each of them is.
unfoldable pub children_fit : ℕ → Forest Row → Bool
children_fit k kids = arity_fits (rules_of (shape_of k)).children (length (roots kids)) && over_kids (shape_of k) kids

-- A run of trees of a standing that have at most so many levels; none where the rows do not nest.
unfoldable pub run_fits : List ℕ → Standing → ℕ → Option (Forest Row) → Bool
run_fits text standing level none = false
run_fits text standing level (some f) = nat_le (depth f) level && placed text f && rows_fit standing (labels text name_list f)
