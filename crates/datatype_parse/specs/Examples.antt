-- Where texts are refused (document 02, [2]), by computation. Places count bytes, from 0.
use Rattle.std.specs.Prelude.{◌≡◌, refl, List, [], ◌∷◌, ◌++◌, ℕ, zero, suc, replicate}
use Rattle.tokenizer.specs.Text.{bytes}
use Rattle.tokenizer.specs.Answer.{Out, refuse_at}
use Rattle.datatype.specs.Limits.{max_rows}
use Rattle.datatype.specs.Tree.{Forest, Row}
use Rattle.datatype_parse.specs.Parse.{parse}
use Rattle.datatype_parse.specs.Internal.Computed.{computed}

-- A text, and the refusal's number and place.
pub record Example : Type 0 where
  pub text : List ℕ
  pub number : ℕ
  pub place : ℕ

infix 70 ◌no◌at◌
abbrev pub ◌no◌at◌ : List ℕ → ℕ → ℕ → Example
s no n at p = record { text = s; number = n; place = p }

-- What the texts become, with so many rows lent, and what is expected.
abbrev pub answers : ℕ → List Example → List (Out (Forest Row))
answers rows [] = []
answers rows (e ∷ es) = parse e.text rows ∷ answers rows es

abbrev pub refusals : List Example → List (Out (Forest Row))
refusals [] = []
refusals (e ∷ es) = refuse_at e.number e.place ∷ refusals es

-- So many lists, each in the one before it, and a text behind the last `List(`.
abbrev pub lists : ℕ → List ℕ → List ℕ
lists zero s = s
lists (suc n) s = bytes "List(" ++ lists n s

-- With 1,024 rows lent. The first text is 16,385 spaces, the second the byte FF.
abbrev pub texts : List Example
texts =
    replicate 16385 32 no 1 at 16384
    ∷ (255 ∷ []) no 2 at 0
    ∷ lists 64 [] no 3 at 320
    ∷ lists 64 (bytes " ") no 3 at 321
    ∷ lists 64 (bytes "nullable @") no 3 at 329
    ∷ [] no 5 at 0
    ∷ bytes "  " no 5 at 2
    ∷ bytes "List(Int8 " no 5 at 10
    ∷ bytes "Timestamp(s, \"CET)" no 6 at 13
    ∷ bytes "Timestamp(s,  \"\")" no 7 at 14
    ∷ bytes "List( @)" no 8 at 6
    ∷ bytes "List(\"a\")" no 9 at 5
    ∷ bytes "Struct(,)" no 9 at 7
    ∷ bytes "Struct(\"Küche\" Int8)" no 9 at 16
    ∷ bytes "FixedSizeBinary( -1)" no 10 at 17
    ∷ bytes "Time32( us)" no 11 at 8
    ∷ bytes "Decimal32(9, 10)" no 12 at 15
    ∷ bytes "RunEndEncoded(Int32, Utf8)" no 13 at 13
    ∷ bytes "RunEndEncoded( nullable Int8" no 13 at 15
    ∷ bytes "RunEndEncoded(\"a\": List(Int8), " no 13 at 28
    ∷ bytes "RunEndEncoded(\"a\": nullable Int8 , " no 13 at 28
    ∷ bytes "Map(\"e\": Struct())" no 13 at 16
    ∷ bytes "Map(\"e\": non-null Int8, sorted)" no 14 at 18
    ∷ bytes "Union(Dense, 0: (\"a\": Int8), 0: (\"b\": Int8) )" no 15 at 44
    ∷ bytes "Int32 \"" no 16 at 6
    ∷ bytes "Int8 <" no 16 at 5
    ∷ []

pub refused_texts : answers max_rows texts ≡ refusals texts
unfolding computed
refused_texts = refl

-- With fewer rows than the text has types: the first type without a row is refused, where its word would begin.
abbrev pub no_row : List Example
no_row = [] no 4 at 0 ∷ bytes " @" no 4 at 1 ∷ bytes "  " no 4 at 2 ∷ []

pub no_row_lent : answers 0 no_row ≡ refusals no_row
unfolding computed
no_row_lent = refl

abbrev pub two_rows : List Example
two_rows = bytes "Struct(\"a\": Int8, \"b\": non-null Int8)" no 4 at 32 ∷ bytes "Dictionary(Int8," no 4 at 16 ∷ []

pub two_rows_lent : answers 2 two_rows ≡ refusals two_rows
unfolding computed
two_rows_lent = refl
