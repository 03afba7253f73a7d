-- A tree packed, by computation: Struct("when": non-null Timestamp(s, "CET"), "l": List(Int8)).
use Rattle.std.specs.Prelude.{◌≡◌, refl, List, [], ◌∷◌, ◌++◌, ℕ, T}
use Rattle.tokenizer.specs.Text.{bytes}
use Rattle.datatype.specs.Tree.{Forest, ∅, node, Label, name_list}
use Rattle.datatype.specs.Table.{table_of}
use Rattle.row_table.specs.Sound.{is_sound}
use Rattle.row_table.specs.Internal.Computed.{computed}
use Rattle.tokenizer.specs.Utf8.{utf8_step, utf8_state, is_utf8}
use Rattle.packing.specs.Packed.{packed_text, packed_row, packed_from, packed}

abbrev label : (kind role : ℕ) → (name zone : List ℕ) → Label
label kind role name zone = record { kind = kind; role = role; union_id = 0; number = 0; scale = 0; name = name; zone = zone }

abbrev pub example : Forest Label
example =
    node (label 32 0 [] [])
    (node (label 13 2 (bytes "when") (bytes "CET")) ∅
    (node (label 27 1 (bytes "l") [])
    (node (label 2 1 (bytes "item") []) ∅ ∅) ∅)) ∅

pub example_text : packed_text example ≡ bytes "whenCETlitem"
unfolding packed_text
example_text = refl

pub example_rows : table_of (packed example)
    ≡ ((32 ∷ 4 ∷ 0 ∷ 0 ∷ 0 ∷ 0 ∷ 0 ∷ 0 ∷ 0 ∷ 0 ∷ 0 ∷ 0 ∷ [])
    ++ (13 ∷ 1 ∷ 2 ∷ 0 ∷ 0 ∷ 0 ∷ 1 ∷ 0 ∷ 4 ∷ 4 ∷ 3 ∷ 0 ∷ [])
    ++ (27 ∷ 2 ∷ 1 ∷ 0 ∷ 0 ∷ 0 ∷ 1 ∷ 7 ∷ 1 ∷ 0 ∷ 0 ∷ 0 ∷ [])
    ++ (2 ∷ 1 ∷ 1 ∷ 0 ∷ 0 ∷ 0 ∷ 1 ∷ 8 ∷ 4 ∷ 0 ∷ 0 ∷ 2 ∷ []))
unfolding computed packed_text packed_row packed_from packed
example_rows = refl

pub example_sound : T (is_sound (packed_text example) name_list (table_of (packed example)))
unfolding computed utf8_step utf8_state is_utf8 packed_text packed_row packed_from packed
example_sound = tt
