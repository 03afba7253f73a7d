-- The token at a place, by the first byte there that is no space.
use mathlib.Core.Path.{◌≡◌, refl, sym, ◌∙◌}
use mathlib.Core.Bool.{Bool, true, false}
use mathlib.Core.List.{List, [], ◌∷◌}
use Prim.Native.Nat.{ℕ, suc, ◌+◌, ◌≤◌, ◌<◌}
use native.Mathlib.Omega.{arith}
use native.Mathlib.Decide.{dec_lt}
use native.Mathlib.Numerals.{add-one}
use lib.ListN.{length, drop, get_or, drop_of_length-le}
use lib.Seq.{drop-cons}
use lib.Dec.{eqb}
use Rattle.tokenizer.specs.Answer.{refuse}
use Rattle.tokenizer.specs.Token.{token, until_quote, string_token, token_from, token_at}
use Rattle.tokenizer.specs.Places.{spaces_from, after_spaces}
use Rattle.tokenizer.specs.declared.TokenKind.TheVariants.{DoubleQuotedString, SingleQuotedString}
use Rattle.tokenizer.proofs.Basics.{skip}
use Rattle.tokenizer.proofs.Runs.{spaces-out, spaces-stop, spaces-end}

-- ---- spaces

module _ (text : List ℕ) where
  step : (c : ℕ) (s : List ℕ) (at : ℕ) (b : Bool) → eqb c 32 ≡ b → drop at text ≡ c ∷ s
      → token_from (at + 1) s ≡ token_at text (spaces_from (at + 1) s) → token_from at (c ∷ s) ≡ token_at text (spaces_from at (c ∷ s))
  unfolding token_at token_from spaces_from
  step c s at true e h i = rw e i
  step c s at false e h i = rw (e, h, e)

  from-space : (s : List ℕ) (at : ℕ) → drop at text ≡ s → token_from at s ≡ token_at text (spaces_from at s)
  unfolding token_at token_from spaces_from
  from-space [] at h = rw h
  from-space (c ∷ s) at h = step c s at (eqb c 32) refl h (from-space s (at + 1) (skip 1 at text (c ∷ s) h))

  -- spaces before a token are skipped
  pub token-spaces : (at : ℕ) → token_at text at ≡ token_at text (after_spaces text at)
  unfolding after_spaces token_at
  token-spaces at = from-space (drop at text) at refl

  -- behind the spaces no more are skipped
  pub spaces-twice : (at : ℕ) → after_spaces text (after_spaces text at) ≡ after_spaces text at
  spaces-twice at =
      elim (dec_lt (after_spaces text at) (length text)) [
        | yes h ↦ spaces-stop text (after_spaces text at) h ((spaces-end text at).no_space h)
        | no h ↦ spaces-out text (after_spaces text at) (omega arith)
      ]

-- ---- the token at a place that holds no space

module _ (text : List ℕ) (from at : ℕ) (e : at ≡ after_spaces text from) where
  pub token_end : length text ≤ at → token (refuse 5) at 0 ≡ token_at text from
  unfolding token_at token_from
  token_end h = sym (token-spaces text from ∙ rw (← e, drop_of_length-le text h))

  module _ (h : at < length text) where
    pub here : token_at text from ≡ token_from at (get_or text at 0 ∷ drop (suc at) text)
    unfolding token_at
    here = token-spaces text from ∙ rw (← e, drop-cons text at 0 h)

    pub token-34 : get_or text at 0 ≡ 34 → string_token DoubleQuotedString at (until_quote 34 false (drop (at + 1) text)) ≡ token_at text from
    unfolding token_from
    token-34 c = rw (here, c, add-one at)

    pub token-39 : get_or text at 0 ≡ 39 → string_token SingleQuotedString at (until_quote 39 false (drop (at + 1) text)) ≡ token_at text from
    unfolding token_from
    token-39 c = rw (here, c, add-one at)
