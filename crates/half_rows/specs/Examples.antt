-- Rows in halves and back, by computation.
use Rattle.std.specs.Prelude.{◌≡◌, refl, List, [], ◌∷◌, ◌++◌, ℕ, replicate}
use Rattle.tokenizer.specs.Text.{bytes}
use Rattle.tokenizer.specs.Answer.{Out, done, refuse}
use Rattle.tokenizer.specs.Utf8.{utf8_step, utf8_state, is_utf8}
use Rattle.datatype.specs.Tree.{name_list}
use Rattle.row_table.specs.Internal.Computed.{computed}
use Rattle.half_rows.specs.HalfRows.{halved, unhalved, to_halves, from_halves, half_rows_answer, half_rows_words, wide_rows_answer, wide_rows_words}

-- Int8, and FixedSizeBinary of so many bytes.
abbrev int8 : List ℕ
int8 = 2 ∷ 1 ∷ replicate 10 0

abbrev binary : ℕ → List ℕ
binary size = 21 ∷ 1 ∷ 0 ∷ 0 ∷ size ∷ replicate 7 0

abbrev half_int8 : List ℕ
half_int8 = 2 ∷ 1 ∷ replicate 11 0

abbrev half_binary : ℕ → ℕ → List ℕ
half_binary low high = 21 ∷ 1 ∷ 0 ∷ 0 ∷ low ∷ high ∷ replicate 7 0

-- Struct("slot": non-null Timestamp(s, "CET"), "kwh": Decimal64(12, 3)) over its text.
abbrev columns_text : List ℕ
columns_text = bytes "Struct(\"slot\": non-null Timestamp(s, \"CET\"), \"kwh\": Decimal64(12, 3))"

abbrev columns : List ℕ
columns =
    32 ∷ 3 ∷ replicate 10 0
    ++ (13 ∷ 1 ∷ 2 ∷ 0 ∷ 0 ∷ 0 ∷ 1 ∷ 8 ∷ 4 ∷ 38 ∷ 3 ∷ 0 ∷ [])
    ++ (36 ∷ 1 ∷ 1 ∷ 0 ∷ 12 ∷ 131 ∷ 1 ∷ 46 ∷ 3 ∷ 0 ∷ 0 ∷ 0 ∷ [])

abbrev half_columns : List ℕ
half_columns =
    32 ∷ 3 ∷ replicate 11 0
    ++ (13 ∷ 1 ∷ 2 ∷ 0 ∷ 0 ∷ 0 ∷ 0 ∷ 1 ∷ 8 ∷ 4 ∷ 38 ∷ 3 ∷ 0 ∷ [])
    ++ (36 ∷ 1 ∷ 1 ∷ 0 ∷ 12 ∷ 0 ∷ 131 ∷ 1 ∷ 46 ∷ 3 ∷ 0 ∷ 0 ∷ 0 ∷ [])

-- Word 4 by its low half and its high half.
pub in_halves : (halved int8 ∷ halved (binary 65535) ∷ halved (binary 65536) ∷ halved (binary 2147483647) ∷ halved columns ∷ [])
    ≡ (half_int8 ∷ half_binary 65535 0 ∷ half_binary 0 1 ∷ half_binary 65535 32767 ∷ half_columns ∷ [])
unfolding halved
in_halves = refl

pub and_back : (unhalved half_int8 ∷ unhalved (half_binary 65535 32767) ∷ unhalved half_columns ∷ []) ≡ (int8 ∷ binary 2147483647 ∷ columns ∷ [])
unfolding unhalved
and_back = refl

abbrev kept : List ℕ → ℕ → Out ℕ
kept table room = half_rows_answer columns_text name_list table (replicate room 9)

-- Three rows, and one; no room; and a row that is no sound tree, before its room is asked for.
pub kept_rows : (kept columns 39 ∷ kept int8 13 ∷ kept int8 12 ∷ kept (2 ∷ 1 ∷ 1 ∷ replicate 9 0) 0 ∷ [])
    ≡ (done 3 ∷ done 1 ∷ refuse 28 ∷ refuse 17 ∷ [])
unfolding computed utf8_step utf8_state is_utf8 halved to_halves half_rows_answer
kept_rows = refl

-- What stands behind the half words filled stays.
pub kept_words : half_rows_words columns_text name_list int8 (replicate 15 9) ≡ half_int8 ++ (9 ∷ 9 ∷ [])
unfolding computed utf8_step utf8_state is_utf8 halved to_halves half_rows_words
kept_words = refl

abbrev back : List ℕ → ℕ → Out ℕ
back halves room = wide_rows_answer columns_text name_list halves (replicate room 9)

-- A row back; no room; a half word too many or too few, none, a kind that there is not, and a high half on an Int8, before room
-- is asked for.
pub rows_back : (back half_int8 12 ∷ back half_int8 11 ∷ back (half_int8 ++ (0 ∷ [])) 0 ∷ back (2 ∷ 1 ∷ replicate 10 0) 12 ∷ back [] 12 ∷ back (41 ∷ 1 ∷ replicate 11 0) 0 ∷ back (2 ∷ 1 ∷ 0 ∷ 0 ∷ 0 ∷ 1 ∷ replicate 7 0) 12 ∷ [])
    ≡ (done 1 ∷ refuse 28 ∷ refuse 17 ∷ refuse 17 ∷ refuse 17 ∷ refuse 17 ∷ refuse 17 ∷ [])
unfolding computed utf8_step utf8_state is_utf8 unhalved from_halves wide_rows_answer
rows_back = refl

pub words_back : wide_rows_words columns_text name_list half_int8 (replicate 14 9) ≡ int8 ++ (9 ∷ 9 ∷ [])
unfolding computed utf8_step utf8_state is_utf8 unhalved from_halves wide_rows_words
words_back = refl
