-- Texts to try (document 01): those marked P, and some more, given by the definitions with 1,024 rows and 16,384 output
-- bytes lent.
use Rattle.std.specs.Prelude.{◌≡◌, refl, Bool, true, false, ◌&&◌, List, [], ◌∷◌, ℕ, nat_eq}
use Prim.Native.String.{String}
use Rattle.tokenizer.specs.Text.{bytes, same}
use Rattle.tokenizer.specs.Answer.{Out, refused, done}
use Rattle.datatype.specs.Limits.{max_text, max_rows}
use Rattle.datatype.specs.Tree.{Forest, Row, count, name_list}
use Rattle.datatype.specs.Table.{table_of}
use Rattle.unchecked_rows.specs.Parents.{parent_column}
use Rattle.datatype_parse.specs.Internal.Computed as parser
use Rattle.datatype_parse.specs.Parse.{parse}
use Rattle.display_length.specs.declared.words.Spelling.{Spelling}
use Rattle.display_length.specs.declared.words.Spelling.TheVariants.{Micro}
use Rattle.datatype_display.specs.Internal.Computed as printer
use Rattle.datatype_display.specs.Print.{default_spelling, print}

-- What is expected of a text: a number of rows, a refusal of the reader, a printed text, in the default spelling or in
-- another, or a refusal of the printer.
pub data Expected : Type 0 where
  rows : ℕ → Expected
  refusal : ℕ → Expected
  prints : String → Expected
  prints_in : Spelling → String → Expected
  unprintable : ℕ → Expected

pub record Example : Type 0 where
  pub text : String
  pub expected : Expected

infix 70 ◌gives◌
abbrev pub ◌gives◌ : String → Expected → Example
s gives e = record { text = s; expected = e }

-- The printer gives just this text.
abbrev pub prints_as : Out (List ℕ) → List ℕ → Bool
prints_as (refused r) s = false
prints_as (done t) s = same t s

-- The printer refuses with this number.
abbrev pub refuses_with : Out (List ℕ) → ℕ → Bool
refuses_with (refused r) n = nat_eq r.number n
refuses_with (done t) n = false

abbrev pub meets : List ℕ → Out (Forest Row) → Expected → Bool
meets text (refused r) (rows n) = false
meets text (refused r) (refusal n) = nat_eq r.number n
meets text (refused r) (prints s) = false
meets text (refused r) (prints_in spelling s) = false
meets text (refused r) (unprintable n) = false
meets text (done f) (rows n) = nat_eq (count f) n
meets text (done f) (refusal n) = false
meets text (done f) (prints s) = prints_as (print default_spelling text name_list (table_of f) max_text) (bytes s)
meets text (done f) (prints_in spelling s) = prints_as (print spelling text name_list (table_of f) max_text) (bytes s)
meets text (done f) (unprintable n) = refuses_with (print default_spelling text name_list (table_of f) max_text) n

abbrev pub all_meet : List Example → Bool
all_meet [] = true
all_meet (e ∷ es) = meets (bytes e.text) (parse (bytes e.text) max_rows) e.expected && all_meet es

-- The texts that document 01 marks P.
abbrev pub marked : List Example
marked =
    "Int32" gives rows 1
    ∷ "" gives refusal 5
    ∷ "Struct()" gives rows 1
    ∷ "Struct(\"a\": Int32,)" gives rows 2
    ∷ "Union(Sparse)" gives rows 1
    ∷ "Union(Dense, 0: (\"a\": Int8), 0: (\"b\": Int8))" gives refusal 15
    ∷ "FixedSizeList(4x Int32)" gives refusal 8
    ∷ "Decimal32(9, -128)" gives rows 1
    ∷ "Decimal32(9, 10)" gives refusal 12
    ∷ "List(Int8, field: 'item')" gives prints "List(Int8)"
    ∷ "Struct(\"a\\\\\": Int8)" gives refusal 6
    ∷ "Union(Sparse,)" gives refusal 9
    ∷ []

pub marked_texts : all_meet marked ≡ true
unfolding parser.computed printer.computed
marked_texts = refl

-- Other texts: those that document 01 gives without a mark, and readings that catch people.
abbrev pub further : List Example
further =
    "Struct(,)" gives refusal 9
    ∷ "List" gives refusal 5
    ∷ "Int32 \"" gives refusal 16
    ∷ "Time32(us)" gives refusal 11
    ∷ "FixedSizeBinary(+5)" gives refusal 8
    ∷ "FixedSizeBinary(-1)" gives refusal 10
    ∷ "FixedSizeBinary(2147483648)" gives refusal 10
    ∷ "FixedSizeBinary(-0)" gives prints "FixedSizeBinary(0)"
    ∷ "Union(Sparse, -0: (\"a\": Int8), 007: (\"b\": non-null Utf8))" gives prints "Union(Sparse, 0: (\"a\": Int8), 7: (\"b\": non-null Utf8))"
    ∷ "Union(Dense, -1: (\"a\": Int8))" gives refusal 15
    ∷ "Union(Dense, 0: (\"a\": Int8), 0: (\"b\": Int8" gives refusal 5
    ∷ "Struct(\"slot\": non-null Timestamp(Second), \"kwh\": Decimal64(12, 3),)" gives prints "Struct(\"slot\": non-null Timestamp(s), \"kwh\": Decimal64(12, 3))"
    ∷ "FixedSizeList(4, Int32)" gives prints "FixedSizeList(4 x Int32)"
    ∷ "FixedSizeList(4 x non-null Int32, field: 'q')" gives prints "FixedSizeList(4 x non-null Int32, field: 'q')"
    ∷ "RunEndEncoded(Int32, Utf8)" gives refusal 13
    ∷ "RunEndEncoded(\"a" gives refusal 13
    ∷ "RunEndEncoded(\"a\"" gives refusal 5
    ∷ "RunEndEncoded(non-null Int32, nullable Utf8)" gives prints "RunEndEncoded(non-null Int32, Utf8)"
    ∷ "RunEndEncoded(\"run_ends\": non-null Int32, \"values\": Utf8)" gives prints "RunEndEncoded(non-null Int32, Utf8)"
    ∷ "RunEndEncoded(\"r\": non-null Int32, \"values\": Utf8)" gives prints "RunEndEncoded(\"r\": non-null Int32, \"values\": Utf8)"
    ∷ "Map(\"e\": non-null Struct(\"k\": non-null Utf8, \"v\": Int8), sorted)" gives prints "Map(\"e\": non-null Struct(\"k\": non-null Utf8, \"v\": Int8), sorted)"
    ∷ "Map(\"e\": non-null Struct(\"k\": Utf8, \"v\": Int8), sorted)" gives refusal 13
    ∷ "Map(\"e\": Int8" gives refusal 13
    ∷ "Map(\"e\": non-null List(Int8)" gives refusal 14
    ∷ "Dictionary(Utf8, Int32)" gives rows 3
    ∷ "Decimal256(76, -128)" gives prints "Decimal256(76, -128)"
    ∷ "Interval(MonthDayNano)" gives prints "Interval(MonthDayNano)"
    ∷ "Timestamp(us, Some(\"Europe/Zurich\"))" gives prints "Timestamp(us, \"Europe/Zurich\")"
    ∷ "Timestamp(us, Some(\"Europe/Zurich\"))" gives prints_in Micro "Timestamp(µs, \"Europe/Zurich\")"
    ∷ "Struct(\"a\": Duration(Microsecond), \"b\": Time64(µs), \"c\": Time64(ns))" gives prints "Struct(\"a\": Duration(us), \"b\": Time64(us), \"c\": Time64(ns))"
    ∷ "Struct(\"a\": Duration(Microsecond), \"b\": Time64(us), \"c\": Time64(ns))" gives prints_in Micro "Struct(\"a\": Duration(µs), \"b\": Time64(µs), \"c\": Time64(ns))"
    ∷ "Timestamp(s, Some('a'))" gives refusal 9
    ∷ "Timestamp(s, Some(''))" gives refusal 7
    ∷ "Struct(\"\\a\" b\": Int8)" gives prints "Struct(\"\\\\a\\\" b\": Int8)"
    ∷ "Struct(\"Küche\": Int8)" gives prints "Struct(\"Küche\": Int8)"
    ∷ "Timestamp(s, \"Zürich\")" gives prints "Timestamp(s, \"Zürich\")"
    ∷ "Struct(\"¡ſ\": Int8, \"ÿ\": Int8)" gives prints "Struct(\"¡ſ\": Int8, \"ÿ\": Int8)"
    ∷ "Struct(\"\u{80}\u{a0}\u{ad}\": Int8)" gives prints "Struct(\"\\u{80}\\u{a0}\\u{ad}\": Int8)"
    ∷ "Struct(\"ƀ\": Int8)" gives unprintable 18
    ∷ "List(Int8, field: 'ƀ')" gives prints "List(Int8, field: 'ƀ')"
    ∷ []

pub further_texts : all_meet further ≡ true
unfolding parser.computed printer.computed
further_texts = refl

-- The parents of the rows that a text becomes.
abbrev pub parents_read : Out (Forest Row) → List ℕ
parents_read (refused r) = []
parents_read (done f) = parent_column f

pub struct_parents : parents_read (parse (bytes "Struct(\"a\": List(Int8), \"b\": Int8)") max_rows) ≡ 0 ∷ 0 ∷ 1 ∷ 0 ∷ []
unfolding parser.computed
struct_parents = refl

pub dictionary_parents : parents_read (parse (bytes "Dictionary(Dictionary(Int8, Utf8), Int8)") max_rows) ≡ 0 ∷ 0 ∷ 1 ∷ 1 ∷ 0 ∷ []
unfolding parser.computed
dictionary_parents = refl
