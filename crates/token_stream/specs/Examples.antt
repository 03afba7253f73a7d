-- Some texts, how many tokens they have and what ends them, by computation.
use Rattle.std.specs.Prelude.{◌≡◌, refl, ℕ}
use Prim.Native.String.{String}
use Rattle.tokenizer.specs.Text.{bytes}
use Rattle.tokenizer.specs.Internal.Computed.{computed}
use Rattle.token_stream.specs.Count.{tokens_from, place_behind, count_tokens}

abbrev HasTokens : String → ℕ → ℕ → Type 0
HasTokens text tokens refusal = count_tokens (bytes text) ≡ record { tokens = tokens; refusal = refusal }

pub whole : HasTokens "Struct(\"a\": Int32,)" 7 5
unfolding computed tokens_from place_behind count_tokens
whole = refl

pub empty : HasTokens "" 0 5
unfolding computed tokens_from place_behind count_tokens
empty = refl

pub never_ends : HasTokens "Int32 \"" 1 6
unfolding computed tokens_from place_behind count_tokens
never_ends = refl

pub no_bytes : HasTokens "List(Int8, field: '')" 6 7
unfolding computed tokens_from place_behind count_tokens
no_bytes = refl

pub not_listed : HasTokens "FixedSizeList(4x Int32)" 2 8
unfolding computed tokens_from place_behind count_tokens
not_listed = refl
