-- a word with a minus sign is the number behind it
use mathlib.Core.Path.{sym, ◌∙◌}
use Rattle.tokenizer.proofs.Numbers.{word_minus}
use Rattle.tokenizer.proofs.number.parse_integer.Goals as goal

pub returns-then-word-eq45 : goal.returns-then-word-eq45
returns-then-word-eq45 c = c.number_kind.ensures ∙ sym (word_minus _ c.requires c.if-word-eq45.true)
