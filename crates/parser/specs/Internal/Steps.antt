-- What the reader's own functions keep of an answer, and how answers and rows match the definitions. This is how the
-- code finds its way; what must be believed is in Parse.antt.
use Rattle.std.specs.Prelude.{◌≡◌, Option, Some, None, Result, Ok, Bool, ◌||◌, List, [], ◌∷◌, ◌++◌, ℕ, ℤ, ◌+◌, ◌*◌, ◌/◌, nat_abs, ◌≤◌, ◌<◌, length, drop, nat_eq, if◌then◌else◌}
use Rattle.std.proofs.lemmas.List.Edits.{sets}
use Rattle.tokenizer.specs.Answer.{Refusal, Out, refused, done, refuse_at}
use Rattle.tokenizer.specs.Token.{Standing, token_or_refusal, place_of, value_of, is_negative, signed, is_below_zero, lparen, rparen, comma, colon}
use Rattle.tokenizer.specs.declared.Token.{Token}
use Rattle.tokenizer.specs.declared.TokenKind.{TokenKind}
use Rattle.tokenizer.specs.declared.TokenKind.TheVariants.{Integer}
use Rattle.datatype.specs.Limits.{max_rows}
use Rattle.datatype.specs.Tree.{Forest, count, Row}
use Rattle.datatype.specs.Table.{row_words, words_of, table_of}
use Rattle.parser.specs.Answer.{read_answer}
use Rattle.parser.specs.declared.error.ReadError.{ReadError}
use Rattle.parser.specs.Parse.{refusal_of, Tree, Fields, Zone, bare_row, single, rows_in}
use Rattle.parser.specs.declared.ReadValue.{ReadValue}
use Rattle.parser.specs.declared.Span.{Span}
use Rattle.parser.specs.declared.Extent.{Extent}
use Rattle.parser.specs.declared.rows.Head.{Head}

-- ---- tokens

-- The sort of a mark, and whether a byte is one.
abbrev pub mark_sort : ℕ → ℕ
mark_sort c = if nat_eq c 40 then lparen else if nat_eq c 41 then rparen else if nat_eq c 44 then comma else colon

abbrev pub is_mark : ℕ → Bool
is_mark c = nat_eq c 40 || nat_eq c 41 || nat_eq c 44 || nat_eq c 58

-- A token that is taken whatever its sort; what is none is refused at its place.
abbrev pub placed : {A : Type 0} → ℕ → Out A → Out A
placed at (refused r) = refuse_at r.number at
placed at (done a) = done a

unfoldable pub taken : Standing → Out Token
taken s = placed (place_of s.kind s.start) (token_or_refusal s)

-- The refusal at what stands there, where another sort of token is needed.
abbrev pub refused_here : Standing → Refusal
refused_here s = record { number = refusal_of s.kind; place = Some (place_of s.kind s.start) }

-- What the code keeps of a token: the place behind it, if there is one; a word, a number and a string.
unfoldable pub next_of : Out Standing → Out ℕ
next_of (refused r) = refused r
next_of (done t) = done t.next

unfoldable pub look_of : Out Standing → Option ℕ
look_of (refused r) = None
look_of (done t) = Some t.next

unfoldable pub word_of : Out Standing → Out (ReadValue ℕ)
word_of (refused r) = refused r
word_of (done t) = done (record { value = value_of t.kind; next = t.next })

unfoldable pub integer_of : Out Standing → Out (ReadValue ℤ)
integer_of (refused r) = refused r
integer_of (done t) = done (record { value = signed (is_negative t.kind) (value_of t.kind); next = t.next })

-- The token of a number that was read; of 0 it has no sign.
abbrev pub integer_kind : ℤ → Out TokenKind
integer_kind z = done (Integer (is_below_zero z) (nat_abs z))

unfoldable pub span_of : Out Standing → Out Span
span_of (refused r) = refused r
span_of (done t) = done (record { start = t.start; size = t.size; next = t.next })

-- The same of a zone.
unfoldable pub zone_of : Out Zone → Out Span
zone_of (refused r) = refused r
zone_of (done z) = done (record { start = z.start; size = z.size; next = z.next })

-- ---- rows

-- What a reader of types asks of the rows from the next free one on: a whole buffer has 1,024 rows at the most. A slice's
-- type says no length, and a struct that held its loan would be taken apart at each call.
abbrev pub Room : List ℕ → Type 0
Room rows = length rows ≤ row_words * max_rows

-- The same of the rows behind a type's own.
abbrev pub RoomBelow : List ℕ → Type 0
RoomBelow below = length below < row_words * max_rows

-- How many rows there are in such words.
abbrev pub rows_left : List ℕ → ℕ
rows_left rows = length rows / row_words

-- The rows of a run of trees stand first, and the rest is as it was.
pub record Stored (f : Forest Row) (before after : List ℕ) : Type 0 where
  pub room : row_words * count f ≤ length before
  pub rows : after ≡ table_of f ++ drop (row_words * count f) before

-- A place behind, and so many rows.
abbrev pub extent : ℕ → ℕ → Extent
extent next used = record { next = next; used = used }

-- A type or a field. The rows are left open on a refusal: the public function clears them.
unfoldable pub Meets : Out Tree → List ℕ → Result Extent ReadError → List ℕ → Type 0
Meets (refused x) before r after = read_answer r ≡ refused x
Meets (done t) before r after = (r ≡ Ok (extent t.next (rows_in t))) × Stored (single t) before after

-- Some fields.
unfoldable pub MeetsFields : Out Fields → List ℕ → Result Extent ReadError → List ℕ → Type 0
MeetsFields (refused x) before r after = read_answer r ≡ refused x
MeetsFields (done fs) before r after = (r ≡ Ok (extent fs.next (count fs.trees))) × Stored fs.trees before after

-- The row that a head is written as.
abbrev pub head_row : Head → Row
head_row h = bare_row h.kind h.number h.scale h.zone_start h.zone_length

-- A row of a type whose children fill so many rows, and where the type ends.
abbrev pub Put : ℕ → ℕ → Row → Extent → List ℕ → Type 0
Put next used r a row = (a ≡ extent next (used + 1)) × (row ≡ words_of r (used + 1))

-- The same, behind the mark that closes the type.
unfoldable pub Closed : Out Standing → ℕ → Row → Result Extent ReadError → List ℕ → Type 0
Closed (refused x) used r a row = read_answer a ≡ refused x
Closed (done t) used r a row = (a ≡ Ok (extent t.next (used + 1))) × (row ≡ words_of r (used + 1))

-- The words that make the first row a field's, as they are written.
abbrev pub FieldWords : List ℕ → ℕ → ℕ → ℕ → ℕ → ℕ → List ℕ → Type 0
FieldWords before role id home start size after = after ≡ sets (sets before 2 (role ∷ id ∷ [])) 6 (home ∷ start ∷ size ∷ [])
