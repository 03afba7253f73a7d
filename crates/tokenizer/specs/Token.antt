-- Tokens (document 01, 'Tokens').
use Rattle.std.specs.Prelude.{Bool, true, false, not, ℤ, pos, negsuc, neg_ℤ, ◌&&◌, ◌||◌, List, [], ◌∷◌, ℕ, zero, suc, ◌+◌, ◌*◌, ◌-◌, ◌^◌, length, drop, nat_le, nat_eq, if◌then◌else◌}
use Rattle.std.proofs.Math.Option.{Option, none, some, map}
use Rattle.tokenizer.specs.Text.{all}
use Rattle.std.specs.declared.result.Result.{Result}
use Rattle.std.specs.declared.result.Result.TheVariants.{Ok, Err}
use Rattle.tokenizer.specs.Answer.{Out, refused, done, refuse, ◌>>=◌, number_of}
use Rattle.tokenizer.specs.Words.{words, find}
use Rattle.tokenizer.specs.declared.Token.{Token}
use Rattle.tokenizer.specs.declared.NoToken.{NoToken}
use Rattle.tokenizer.specs.declared.TokenKind.{TokenKind}
use Rattle.tokenizer.specs.declared.TokenKind.TheVariants.{LParen, RParen, Comma, Colon, Integer, DoubleQuotedString, SingleQuotedString, DataType, TimeUnit, IntervalUnit, UnionMode, MapSorted, Nullability, Field, Some, None, X}

-- ---- the sorts of tokens, and what each case of `TokenKind` says; what is no token is a refusal

abbrev pub lparen : ℕ
lparen = 1

abbrev pub rparen : ℕ
rparen = 2

abbrev pub comma : ℕ
comma = 3

abbrev pub colon : ℕ
colon = 4

abbrev pub integer : ℕ
integer = 5

abbrev pub double_quoted : ℕ
double_quoted = 6

abbrev pub single_quoted : ℕ
single_quoted = 7

abbrev pub type_word : ℕ
type_word = 8

abbrev pub time_unit : ℕ
time_unit = 9

abbrev pub interval_unit : ℕ
interval_unit = 10

abbrev pub union_mode : ℕ
union_mode = 11

abbrev pub map_sorted : ℕ
map_sorted = 12

abbrev pub nullability : ℕ
nullability = 13

abbrev pub field_word : ℕ
field_word = 14

abbrev pub some_word : ℕ
some_word = 15

abbrev pub none_word : ℕ
none_word = 16

abbrev pub x_word : ℕ
x_word = 17

-- no token: the text ends, or the token is broken
abbrev pub no_token : ℕ
no_token = 0

abbrev pub sort_of : Out TokenKind → ℕ
sort_of (refused r) = no_token
sort_of (done LParen) = lparen
sort_of (done RParen) = rparen
sort_of (done Comma) = comma
sort_of (done Colon) = colon
sort_of (done (Integer negative magnitude)) = integer
sort_of (done DoubleQuotedString) = double_quoted
sort_of (done SingleQuotedString) = single_quoted
sort_of (done (DataType k)) = type_word
sort_of (done (TimeUnit u)) = time_unit
sort_of (done (IntervalUnit u)) = interval_unit
sort_of (done (UnionMode m)) = union_mode
sort_of (done (MapSorted b)) = map_sorted
sort_of (done (Nullability r)) = nullability
sort_of (done Field) = field_word
sort_of (done Some) = some_word
sort_of (done None) = none_word
sort_of (done X) = x_word

-- A type's kind, a unit, a mode, sorted or not, a role; a number's magnitude; of no token the refusal's number.
abbrev pub value_of : Out TokenKind → ℕ
value_of (refused r) = r.number
value_of (done LParen) = 0
value_of (done RParen) = 0
value_of (done Comma) = 0
value_of (done Colon) = 0
value_of (done (Integer negative magnitude)) = magnitude
value_of (done DoubleQuotedString) = 0
value_of (done SingleQuotedString) = 0
value_of (done (DataType k)) = k
value_of (done (TimeUnit u)) = u
value_of (done (IntervalUnit u)) = u
value_of (done (UnionMode m)) = m
value_of (done (MapSorted b)) = b
value_of (done (Nullability r)) = r
value_of (done Field) = 0
value_of (done Some) = 0
value_of (done None) = 0
value_of (done X) = 0

-- A number with a minus sign before it.
abbrev pub is_negative : Out TokenKind → Bool
is_negative (refused r) = false
is_negative (done LParen) = false
is_negative (done RParen) = false
is_negative (done Comma) = false
is_negative (done Colon) = false
is_negative (done (Integer negative magnitude)) = negative
is_negative (done DoubleQuotedString) = false
is_negative (done SingleQuotedString) = false
is_negative (done (DataType k)) = false
is_negative (done (TimeUnit u)) = false
is_negative (done (IntervalUnit u)) = false
is_negative (done (UnionMode m)) = false
is_negative (done (MapSorted b)) = false
is_negative (done (Nullability r)) = false
is_negative (done Field) = false
is_negative (done Some) = false
is_negative (done None) = false
is_negative (done X) = false

-- What stands at a place of a text: the kind of a token, or the refusal of what is none; where it starts, how long it is,
-- and the place behind it. Start and length of a quoted string are those of the bytes between its marks.
pub record Standing : Type 0 where
  pub kind : Out TokenKind
  pub start : ℕ
  pub size : ℕ
  pub next : ℕ

-- The token of a kind that starts at a place and has a length.
abbrev pub token : Out TokenKind → ℕ → ℕ → Standing
token k at size = record { kind = k; start = at; size = size; next = at + size }

-- What the answer of `next_token` says stands there: a token, or what is none.
abbrev pub standing_of : Result Token NoToken → Standing
standing_of (Ok t) = record { kind = done t.kind; start = t.start; size = t.size; next = t.next }
standing_of (Err e) = record { kind = refuse (number_of e.refusal); start = e.start; size = e.size; next = e.next }

-- The token that stands there, or its refusal alone: what `read_token` answers.
abbrev pub token_or_refusal : Standing → Out Token
token_or_refusal s = s.kind >>= λ k. done (record { kind = k; start = s.start; size = s.size; next = s.next })

-- Its place: its first byte, of a quoted string the opening mark (document 02, [2]).
abbrev pub is_string : Out TokenKind → Bool
is_string k = nat_eq (sort_of k) double_quoted || nat_eq (sort_of k) single_quoted

abbrev pub place_of : Out TokenKind → ℕ → ℕ
place_of k start = if is_string k then start - 1 else start

-- ---- words

-- What ends a word: one of the four marks, or a space.
unfoldable pub is_separator : ℕ → Bool
is_separator c = nat_eq c 40 || nat_eq c 41 || nat_eq c 44 || nat_eq c 58 || nat_eq c 32

-- The word that a text begins with.
unfoldable pub word_of : List ℕ → List ℕ
word_of [] = []
word_of (c ∷ s) = let more = c ∷ word_of s in if is_separator c then [] else more

unfoldable pub is_digit : ℕ → Bool
is_digit c = nat_le 48 c && nat_le c 57

-- The number that decimal digits spell, behind a number v that was spelled before them.
unfoldable pub number_from : ℕ → List ℕ → ℕ
number_from v [] = v
number_from v (c ∷ s) = number_from (v * 10 + (c - 48)) s

-- A number of signed 64 bits: its sign and its digits, of which there is one at least.
abbrev pub is_number : Bool → List ℕ → Bool
is_number negative [] = false
is_number negative (d ∷ ds) = all is_digit (d ∷ ds) && nat_le (number_from 0 (d ∷ ds)) (if negative then 2 ^ 63 else (2 ^ 63 - 1))

abbrev pub number_kind : Bool → List ℕ → Out TokenKind
number_kind negative digits = if is_number negative digits then done (Integer negative (number_from 0 digits)) else refuse 8

-- The number that a sign and a magnitude are, wherever a number is needed: of -0 it is 0.
abbrev pub signed : Bool → ℕ → ℤ
signed negative n = if negative then neg_ℤ (pos n) else pos n

abbrev pub is_below_zero : ℤ → Bool
is_below_zero (pos n) = false
is_below_zero (negsuc n) = true

-- What a word is: a number where it begins with a digit or a minus sign, else a listed word, else refusal 8.
unfoldable pub word_kind : List ℕ → Out TokenKind
word_kind [] = refuse 8
word_kind (c ∷ w) =
    let word = find (c ∷ w) words in
    if nat_eq c 45 then number_kind true w else if is_digit c then number_kind false (c ∷ w) else word

-- ---- quoted strings

-- The escape behind a byte: a backslash sets it, and only the mark clears it.
abbrev pub escaped_after : ℕ → Bool → ℕ → Bool
escaped_after quote escaped c = if nat_eq c 92 then true else if nat_eq c quote then false else escaped

-- How many bytes stand before the mark that ends the string, if one does.
unfoldable pub until_quote : ℕ → Bool → List ℕ → Option ℕ
until_quote quote escaped [] = none
until_quote quote escaped (c ∷ s) =
    let more = map suc (until_quote quote (escaped_after quote escaped c) s) in
    if nat_eq c quote && not escaped then some 0 else more

-- A string whose opening mark stands at a place: none where it never ends (6) or is empty (7).
abbrev pub string_token : TokenKind → ℕ → Option ℕ → Standing
string_token k at none = token (refuse 6) at 0
string_token k at (some zero) = token (refuse 7) at 0
string_token k at (some (suc n)) = record { kind = done k; start = at + 1; size = suc n; next = at + 1 + suc n + 1 }

-- ---- the token at a place

-- The token of a text whose part from the place `at` on is the list. Only the space is skipped.
unfoldable pub token_from : ℕ → List ℕ → Standing
token_from at [] = token (refuse 5) at 0
token_from at (c ∷ s) =
    let skipped = token_from (at + 1) s in
    let double = string_token DoubleQuotedString at (until_quote 34 false s) in
    let single = string_token SingleQuotedString at (until_quote 39 false s) in
    let word = token (word_kind (word_of (c ∷ s))) at (length (word_of (c ∷ s))) in
    if nat_eq c 32 then skipped
    else if nat_eq c 40 then token (done LParen) at 1
    else if nat_eq c 41 then token (done RParen) at 1
    else if nat_eq c 44 then token (done Comma) at 1
    else if nat_eq c 58 then token (done Colon) at 1
    else if nat_eq c 34 then double
    else if nat_eq c 39 then single
    else word

unfoldable pub token_at : List ℕ → ℕ → Standing
token_at text at = token_from at (drop at text)
