-- Sound trees, clause by clause (docs/SCOPE.md, 'The row table'); the depth of one, and the fields of one that is a Struct.
use Rattle.std.specs.Prelude.{Bool, true, false, not, ◌&&◌, ◌||◌, List, [], ◌∷◌, map, ℕ, zero, suc, ◌+◌, ◌^◌, length, nat_le, nat_lt, nat_eq, if◌then◌else◌}
use Rattle.std.proofs.Math.Option.{Option, none, some}
use Rattle.tokenizer.specs.Text.{same, is_empty}
use Rattle.tokenizer.specs.Answer.{Out, done, refuse}
use Rattle.tokenizer.specs.Utf8.{is_utf8}
use Rattle.datatype.specs.Limits.{max_text, max_rows, max_levels}
use Rattle.datatype.specs.Kind.{Shape, leaf, timestamp, time, interval, fixed, list, fixed_list, struct, union, dictionary, decimal, mapping, run_end_encoded, kinds, shape_of, unit_fits, decimal_fits, entries_refusal, ids_fit, struct_kind}
use Rattle.datatype.specs.Tree.{Forest, ∅, node, count, roots, depth, Row, Label, name_list, labels}
use Rattle.datatype.specs.Table.{view_of, tree_of}
use Rattle.unchecked_rows.specs.Parents.{parents_right}

-- ---- what a row says, by its shape and by where it stands

-- How many children a shape has.
pub data Arity : Type 0 where
  no_child one_child two_children any_count : Arity

unfoldable pub arity_fits : Arity → ℕ → Bool
arity_fits no_child zero = true
arity_fits no_child (suc n) = false
arity_fits one_child zero = false
arity_fits one_child (suc zero) = true
arity_fits one_child (suc (suc n)) = false
arity_fits two_children zero = false
arity_fits two_children (suc zero) = false
arity_fits two_children (suc (suc zero)) = true
arity_fits two_children (suc (suc (suc n))) = false
arity_fits any_count n = true

-- Where a row stands: bare (the root, a dictionary's key and value), as a field, or as a field of a union.
pub data Standing : Type 0 where
  bare field union_field : Standing

-- The role: 0 for a bare row, 1 or 2 for a field.
unfoldable pub role_fits : Standing → ℕ → Bool
role_fits bare role = nat_eq role 0
role_fits field role = nat_eq role 1 || nat_eq role 2
role_fits union_field role = nat_eq role 1 || nat_eq role 2

-- The union id: 0 to 127 for a field of a union, else unused.
unfoldable pub id_fits : Standing → ℕ → Bool
id_fits bare id = nat_eq id 0
id_fits field id = nat_eq id 0
id_fits union_field id = nat_lt id 128

-- A field's name is not empty and is UTF-8; a bare row has none.
abbrev pub is_name : List ℕ → Bool
is_name [] = false
is_name (c ∷ s) = is_utf8 (c ∷ s)

unfoldable pub name_fits : Standing → List ℕ → Bool
name_fits bare name = is_empty name
name_fits field name = is_name name
name_fits union_field name = is_name name

-- What a shape asks of a row: the count of its children, where they stand, how many values words 4 and 5 have (one
-- where the word is unused: 0), and whether it may have a zone.
pub record Rules : Type 0 where
  pub children : Arity
  pub below : Standing
  pub params : ℕ
  pub scales : ℕ
  pub zoned : Bool

abbrev pub rules : Arity → Standing → ℕ → ℕ → Bool → Rules
rules children below params scales zoned = record { children = children; below = below; params = params; scales = scales; zoned = zoned }

unfoldable pub rules_of : Shape → Rules
rules_of leaf = rules no_child field 1 1 false
rules_of timestamp = rules no_child field 4 1 true
rules_of time = rules no_child field 4 1 false
rules_of interval = rules no_child field 3 1 false
rules_of fixed = rules no_child field (2 ^ 31) 1 false
rules_of list = rules one_child field 1 1 false
rules_of fixed_list = rules one_child field (2 ^ 31) 1 false
rules_of struct = rules any_count field 1 1 false
rules_of union = rules any_count union_field 2 1 false
rules_of dictionary = rules two_children bare 1 1 false
rules_of decimal = rules no_child field 256 256 false
rules_of mapping = rules one_child field 2 1 false
rules_of run_end_encoded = rules two_children field 1 1 false

-- A zone, where there is one, is UTF-8.
unfoldable pub zone_fits : Bool → List ℕ → Bool
zone_fits true zone = is_utf8 zone
zone_fits false zone = is_empty zone

abbrev pub roles_of : List Label → List ℕ
roles_of ls = map (λ l. l.role) ls

abbrev pub ids_of : List Label → List ℕ
ids_of ls = map (λ l. l.union_id) ls

-- Map's child is a non-null Struct of two whose first is non-null.
abbrev pub entries_fit : Forest Label → Bool
entries_fit ∅ = false
entries_fit (node l kids next) = nat_eq (entries_refusal l.role l.kind (roles_of (roots kids))) 0

-- Run ends are non-null.
abbrev pub run_ends_fit : Forest Label → Bool
run_ends_fit ∅ = false
run_ends_fit (node l kids next) = nat_eq l.role 2

-- What some shapes ask besides: the units of Time32 and Time64, the decimals' numbers, union ids that are distinct
-- among siblings, Map's child, run ends.
unfoldable pub shape_fits : Shape → Label → Forest Label → Bool
shape_fits time l kids = unit_fits l.kind l.number
shape_fits union l kids = ids_fit (ids_of (roots kids))
shape_fits decimal l kids = decimal_fits l.kind l.number l.scale
shape_fits mapping l kids = entries_fit kids
shape_fits run_end_encoded l kids = run_ends_fit kids
shape_fits _ l kids = true

-- One row, by its standing, over its children.
unfoldable pub row_fits : Standing → Label → Forest Label → Bool
row_fits standing l kids =
    let shape = shape_of l.kind in
    nat_lt l.kind kinds
    && arity_fits (rules_of shape).children (length (roots kids))
    && role_fits standing l.role
    && id_fits standing l.union_id
    && nat_lt l.number (rules_of shape).params
    && nat_lt l.scale (rules_of shape).scales
    && name_fits standing l.name
    && zone_fits (rules_of shape).zoned l.zone
    && shape_fits shape l kids

-- Every row of a run of trees of a standing.
unfoldable pub rows_fit : Standing → Forest Label → Bool
rows_fit standing ∅ = true
rows_fit standing (node l kids next) = row_fits standing l kids && rows_fit (rules_of (shape_of l.kind)).below kids && rows_fit standing next

-- ---- where names and zones stand

-- The three parts of the name list that a name may be.
abbrev pub is_listed : ℕ → ℕ → Bool
is_listed start size = (nat_eq start 0 && nat_eq size 4) || (nat_eq start 4 && nat_eq size 8) || (nat_eq start 12 && nat_eq size 6)

-- A bare row has home 0, and start and length unused. A field has home 1, a name of one byte or more inside the text,
-- or home 2 and one of the three parts.
unfoldable pub name_placed : List ℕ → Row → Bool
name_placed text r =
    if nat_eq r.role 0 then nat_eq r.home 0 && nat_eq r.name_start 0 && nat_eq r.name_length 0
    else ((nat_eq r.home 1 && nat_le 1 r.name_length && nat_le (r.name_start + r.name_length) (length text)) || (nat_eq r.home 2 && is_listed r.name_start r.name_length))

-- A zone lies inside the text; with length 0 there is none, and its start is 0.
unfoldable pub zone_placed : List ℕ → Row → Bool
zone_placed text r = if nat_eq r.zone_length 0 then nat_eq r.zone_start 0 else nat_le (r.zone_start + r.zone_length) (length text)

unfoldable pub placed : List ℕ → Forest Row → Bool
placed text ∅ = true
placed text (node r kids next) = name_placed text r && zone_placed text r && placed text kids && placed text next

-- ---- a sound tree

-- Subtrees nest exactly, the root stands over all, 1 to 1,024 rows, at most 64 levels, and each row's parent is the row
-- that it stands under, the root's 0.
unfoldable pub view_sound : List ℕ → List ℕ → Option (Forest Row) → Bool
view_sound text names none = false
view_sound text names (some f) =
    nat_eq (length (roots f)) 1 && nat_le (count f) max_rows && nat_le (depth f) max_levels && placed text f && rows_fit bare (labels text names f) && parents_right 0 0 f

-- Whether text, name list and row words are a sound tree.
unfoldable pub is_sound : List ℕ → List ℕ → List ℕ → Bool
is_sound text names table = nat_le (length text) max_text && is_utf8 text && same names name_list && view_sound text names (view_of table)

-- ---- its depth, else 17

unfoldable pub depth_of : List ℕ → List ℕ → List ℕ → Out ℕ
depth_of text names table = if is_sound text names table then done (depth (tree_of text names table)) else refuse 17

-- ---- its root's fields, which are a file's columns

-- The root is a Struct.
abbrev pub is_struct : Forest Label → Bool
is_struct ∅ = false
is_struct (node root fields next) = nat_eq root.kind struct_kind

-- What the root's fields say, with the rows below them.
abbrev pub fields_of : Forest Label → Forest Label
fields_of ∅ = ∅
fields_of (node root fields next) = fields

-- The fields: 17 where the tree is not sound, then 25 where its root is not a Struct.
unfoldable pub struct_fields : List ℕ → List ℕ → List ℕ → Out (Forest Label)
struct_fields text names table =
    let tree = tree_of text names table in
    if not (is_sound text names table) then refuse 17
    else if not (is_struct tree) then refuse 25
    else done (fields_of tree)
