-- The tokens of a text, as they are read one behind another, and how many they are.
use Rattle.std.specs.Prelude.{Bool, not, List, [], ◌∷◌, ℕ, zero, suc, length, nat_eq, if◌then◌else◌}
use Rattle.tokenizer.specs.Answer.{Out, number_of}
use Rattle.tokenizer.specs.Token.{Standing, token_at, sort_of, value_of, no_token}
use Rattle.tokenizer.specs.declared.TokenKind.{TokenKind}
use Rattle.token_stream.specs.declared.TokenCount.{TokenCount}

-- A token is read: the text does not end there, and the token is not broken.
abbrev pub is_read : Out TokenKind → Bool
is_read k = not (nat_eq (sort_of k) no_token)

-- The tokens from a place on, up to the first that is not read; `most` of them at most.
unfoldable pub tokens_from : List ℕ → ℕ → ℕ → List Standing
tokens_from text zero at = []
tokens_from text (suc most) at =
    let more = token_at text at ∷ tokens_from text most (token_at text at).next in
    if is_read (token_at text at).kind then more else []

-- All of them: each token takes a byte at least.
abbrev pub tokens_of : List ℕ → List Standing
tokens_of text = tokens_from text (length text) 0

-- The place behind the last of some tokens.
unfoldable pub place_behind : ℕ → List Standing → ℕ
place_behind at [] = at
place_behind at (t ∷ ts) = place_behind t.next ts

-- How many tokens a text has, and the number of the refusal that ends them.
pub record Counted : Type 0 where
  pub tokens : ℕ
  pub refusal : ℕ

-- How many they are, and the refusal of what stands behind them: 5 where nothing does.
unfoldable pub count_tokens : List ℕ → Counted
count_tokens text = record { tokens = length (tokens_of text); refusal = value_of (token_at text (place_behind 0 (tokens_of text))).kind }

-- What a count says.
abbrev pub count_of : TokenCount → Counted
count_of c = record { tokens = c.tokens; refusal = number_of c.refusal }
