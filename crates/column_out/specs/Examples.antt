-- Columns taken out and refused, by computation: of Struct("when": non-null Timestamp(s, "CET"), "l": List(Int8)).
use Rattle.std.specs.Prelude.{◌≡◌, refl, List, [], ◌∷◌, ◌++◌, ℕ, drop, replicate}
use Rattle.tokenizer.specs.Text.{bytes}
use Rattle.tokenizer.specs.Answer.{Out, done, refuse}
use Rattle.tokenizer.specs.Utf8.{utf8_step, utf8_state, is_utf8}
use Rattle.datatype.specs.Tree.{name_list}
use Rattle.datatype.specs.Table.{table_of}
use Rattle.row_table.specs.Internal.Computed.{computed}
use Rattle.packing.specs.Packed.{packed_text, packed_row, packed_from, packed, size_fits, packed_rows, packed_bytes}
use Rattle.packing.specs.declared.Packed.{Packed}
use Rattle.packing.specs.Examples.{example}
use Rattle.column_out.specs.ColumnOut.{tree_left, column_out, column_out_answer, column_out_rows, column_out_bytes}

abbrev table : List ℕ
table = table_of (packed example)

-- The answer where a column is taken out of it, into so many words and bytes.
abbrev answer : ℕ → ℕ → ℕ → Out Packed
answer n words room = column_out_answer (packed_text example) name_list table n (replicate words 0) (replicate room 0)

-- Without the timestamp three rows are left, without the list two; there is no third field; and there is no room for three
-- rows in 35 words, nor for 5 bytes in 4.
pub answers : (answer 0 36 5 ∷ answer 1 24 7 ∷ answer 2 48 16 ∷ answer 0 35 5 ∷ answer 0 36 4 ∷ [])
    ≡ (done (record { rows = 3; bytes = 5 }) ∷ done (record { rows = 2; bytes = 7 }) ∷ refuse 29 ∷ refuse 28 ∷ refuse 28 ∷ [])
unfolding computed utf8_step utf8_state is_utf8 packed_text packed_row packed_from packed size_fits tree_left column_out column_out_answer
answers = refl

-- `Int8` is no Struct, and without its first word the table is no sound tree.
pub refused_tables : (column_out_answer (packed_text example) name_list (2 ∷ 1 ∷ replicate 10 0) 0 [] [] ∷ column_out_answer (packed_text example) name_list (drop 1 table) 0 [] [] ∷ [])
    ≡ (refuse 25 ∷ refuse 17 ∷ [])
unfolding computed utf8_step utf8_state is_utf8 packed_text packed_row packed_from packed size_fits tree_left column_out column_out_answer
refused_tables = refl

-- What the lent rows and the lent text then hold: past what is left, what they held.
pub rows_left : column_out_rows (packed_text example) name_list table 0 (replicate 37 7) (replicate 6 7)
    ≡ ((32 ∷ 3 ∷ replicate 10 0)
    ++ (27 ∷ 2 ∷ 1 ∷ 0 ∷ 0 ∷ 0 ∷ 1 ∷ 0 ∷ 1 ∷ 0 ∷ 0 ∷ 0 ∷ [])
    ++ (2 ∷ 1 ∷ 1 ∷ 0 ∷ 0 ∷ 0 ∷ 1 ∷ 1 ∷ 4 ∷ 0 ∷ 0 ∷ 1 ∷ [])
    ++ (7 ∷ []))
unfolding computed utf8_step utf8_state is_utf8 packed_text packed_row packed_from packed size_fits packed_rows tree_left column_out column_out_rows
rows_left = refl

pub text_left : column_out_bytes (packed_text example) name_list table 0 (replicate 37 7) (replicate 6 7) ≡ bytes "litem" ++ (7 ∷ [])
unfolding computed utf8_step utf8_state is_utf8 packed_text packed_row packed_from packed size_fits packed_bytes tree_left column_out column_out_bytes
text_left = refl
