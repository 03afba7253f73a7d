-- The listed words: those in the Rust's `parse_word`, in one list.
use Rattle.std.specs.Prelude.{List, [], ◌∷◌, ℕ, if◌then◌else◌}
use Prim.Native.String.{String}
use Rattle.tokenizer.specs.Text.{bytes, same}
use Rattle.tokenizer.specs.Answer.{Out, done, refuse}
use Rattle.tokenizer.specs.declared.TokenKind.{TokenKind}
use Rattle.tokenizer.specs.declared.TokenKind.TheVariants.{DataType, TimeUnit, IntervalUnit, UnionMode, MapSorted, Nullability, Field, Some, None, X}

-- A listed word: its bytes, and the token that it is.
pub record Listed : Type 0 where
  pub word : List ℕ
  pub kind : TokenKind

infix 70 ◌is◌
abbrev pub ◌is◌ : String → TokenKind → Listed
w is k = record { word = bytes w; kind = k }

-- The kinds come first, in the order of `DataType`: a type word's value is its kind.
unfoldable pub words : List Listed
words =
    "Null" is DataType 0
    ∷ "Boolean" is DataType 1
    ∷ "Int8" is DataType 2
    ∷ "Int16" is DataType 3
    ∷ "Int32" is DataType 4
    ∷ "Int64" is DataType 5
    ∷ "UInt8" is DataType 6
    ∷ "UInt16" is DataType 7
    ∷ "UInt32" is DataType 8
    ∷ "UInt64" is DataType 9
    ∷ "Float16" is DataType 10
    ∷ "Float32" is DataType 11
    ∷ "Float64" is DataType 12
    ∷ "Timestamp" is DataType 13
    ∷ "Date32" is DataType 14
    ∷ "Date64" is DataType 15
    ∷ "Time32" is DataType 16
    ∷ "Time64" is DataType 17
    ∷ "Duration" is DataType 18
    ∷ "Interval" is DataType 19
    ∷ "Binary" is DataType 20
    ∷ "FixedSizeBinary" is DataType 21
    ∷ "LargeBinary" is DataType 22
    ∷ "BinaryView" is DataType 23
    ∷ "Utf8" is DataType 24
    ∷ "LargeUtf8" is DataType 25
    ∷ "Utf8View" is DataType 26
    ∷ "List" is DataType 27
    ∷ "ListView" is DataType 28
    ∷ "FixedSizeList" is DataType 29
    ∷ "LargeList" is DataType 30
    ∷ "LargeListView" is DataType 31
    ∷ "Struct" is DataType 32
    ∷ "Union" is DataType 33
    ∷ "Dictionary" is DataType 34
    ∷ "Decimal32" is DataType 35
    ∷ "Decimal64" is DataType 36
    ∷ "Decimal128" is DataType 37
    ∷ "Decimal256" is DataType 38
    ∷ "Map" is DataType 39
    ∷ "RunEndEncoded" is DataType 40
    -- units: s, ms, µs, ns are 0 to 3
    ∷ "s" is TimeUnit 0
    ∷ "Second" is TimeUnit 0
    ∷ "ms" is TimeUnit 1
    ∷ "Millisecond" is TimeUnit 1
    ∷ "µs" is TimeUnit 2
    ∷ "us" is TimeUnit 2
    ∷ "Microsecond" is TimeUnit 2
    ∷ "ns" is TimeUnit 3
    ∷ "Nanosecond" is TimeUnit 3
    ∷ "YearMonth" is IntervalUnit 0
    ∷ "DayTime" is IntervalUnit 1
    ∷ "MonthDayNano" is IntervalUnit 2
    ∷ "Sparse" is UnionMode 0
    ∷ "Dense" is UnionMode 1
    ∷ "unsorted" is MapSorted 0
    ∷ "sorted" is MapSorted 1
    -- the role that a field gets
    ∷ "nullable" is Nullability 1
    ∷ "non-null" is Nullability 2
    ∷ "field" is Field
    ∷ "Some" is Some
    ∷ "None" is None
    ∷ "x" is X
    ∷ []

-- A word compared with the words of a list, one by one: refusal 8 where it is none of them.
abbrev pub find : List ℕ → List Listed → Out TokenKind
find w [] = refuse 8
find w (l ∷ ls) = let later = find w ls in if same w l.word then done l.kind else later
