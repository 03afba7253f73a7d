-- One name for the definitions that a worked example computes with: `unfolding computed` unfolds them all.
use Rattle.tokenizer.specs.Utf8.{utf8_step, utf8_state, is_utf8}
use Rattle.tokenizer.specs.Words.{words}
use Rattle.tokenizer.specs.Token.{is_separator, word_of, is_digit, number_from, word_kind, until_quote, token_from, token_at}

unfoldable pub computed : Unit {0}
unfolding utf8_step utf8_state is_utf8 words is_separator word_of is_digit number_from word_kind until_quote token_from token_at
computed = tt
