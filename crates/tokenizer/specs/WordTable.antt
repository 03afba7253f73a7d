-- A table of words: how it is walked, and the token at a place by such a walk. `Edges` is the table of the listed words.
--
-- Each number of a table is an edge. That of a state and a byte stands at the place that is their sum, as 256 * d + byte, and
-- leads to the state d + byte. A word's end is the edge of a space, which no word holds: there d is the number of the
-- word's token. A place without an edge has 32, the space's edge to no token, and so has every place behind the table.
use Rattle.std.specs.Prelude.{Bool, true, false, not, ◌&&◌, ◌||◌, List, [], ◌∷◌, ℕ, ◌+◌, ◌-◌, ◌/◌, ◌%◌, length, drop, get_or, nat_lt, nat_eq, if◌then◌else◌}
use Rattle.tokenizer.specs.Answer.{Out, done, refuse}
use Rattle.tokenizer.specs.Edges.{places}
use Rattle.tokenizer.specs.Token.{Standing, token, is_separator, word_of, is_digit, number_kind, token_at}
use Rattle.tokenizer.specs.Places.{after_spaces}
use Rattle.tokenizer.specs.declared.TokenKind.{TokenKind}
use Rattle.tokenizer.specs.declared.TokenKind.TheVariants.{DataType, TimeUnit, IntervalUnit, UnionMode, MapSorted, Nullability, Field, Some, None, X}

-- ---- the walk

-- The edge of a state and a byte.
abbrev pub edge_of : List ℕ → ℕ → ℕ → ℕ
edge_of table s b = if nat_lt (s + b) places then get_or table (s + b) 0 else 32

-- An edge leads on by a byte: it is the byte's own, and no word's end.
abbrev pub leads_on : ℕ → ℕ → Bool
leads_on e b = nat_eq (e % 256) b && not (nat_eq b 32)

-- The state behind a byte whose edge leads on.
unfoldable pub step : List ℕ → ℕ → ℕ → ℕ
step table s b = edge_of table s b / 256 + b

-- The number of the token of a word that ends in a state, 0 where none does.
unfoldable pub ending : List ℕ → ℕ → ℕ
ending table s = let e = edge_of table s 32 in if nat_eq (e % 256) 32 then e / 256 else 0

-- The number of the token to which the bytes of a word lead from a state, 0 where they lead to none.
unfoldable pub walk : List ℕ → ℕ → List ℕ → ℕ
walk table s [] = ending table s
walk table s (b ∷ w) = let more = walk table (step table s b) w in if leads_on (edge_of table s b) b then more else 0

-- ---- tokens

-- The tokens that words are, by their numbers.
unfoldable pub token_of_number : ℕ → Out TokenKind
token_of_number n =
    if nat_eq n 0 then refuse 8
    else if nat_lt n 42 then done (DataType (n - 1))
    else if nat_lt n 46 then done (TimeUnit (n - 42))
    else if nat_lt n 49 then done (IntervalUnit (n - 46))
    else if nat_lt n 51 then done (UnionMode (n - 49))
    else if nat_lt n 53 then done (MapSorted (n - 51))
    else if nat_lt n 55 then done (Nullability (n - 52))
    else if nat_eq n 55 then done Field
    else if nat_eq n 56 then done Some
    else if nat_eq n 57 then done None
    else if nat_eq n 58 then done X
    else refuse 8

-- What a word is by a walk from the first state, which is 0.
abbrev pub walk_kind : List ℕ → List ℕ → Out TokenKind
walk_kind table w = token_of_number (walk table 0 w)

-- What a word is: as `word_kind` says, but by a walk where that compares it with the listed words.
unfoldable pub word_kind_by : List ℕ → List ℕ → Out TokenKind
word_kind_by table [] = refuse 8
word_kind_by table (c ∷ w) =
    let word = walk_kind table (c ∷ w) in
    if nat_eq c 45 then number_kind true w else if is_digit c then number_kind false (c ∷ w) else word

-- A word begins here: a byte that is no separator and no quote mark.
abbrev pub begins_word : List ℕ → Bool
begins_word [] = false
begins_word (c ∷ s) = not (is_separator c || nat_eq c 34 || nat_eq c 39)

-- The token at a place: as `token_at` says, but a word is what the table says.
unfoldable pub token_by : List ℕ → List ℕ → ℕ → Standing
token_by table text at =
    let p = after_spaces text at in
    let w = word_of (drop p text) in
    let word = token (word_kind_by table w) p (length w) in
    let other = token_at text at in
    if begins_word (drop p text) then word else other
