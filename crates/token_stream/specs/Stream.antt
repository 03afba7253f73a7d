-- A text and a place in it in one value (document 01, 'Port order': `Tokenizer` holds the text and its place in one value).
use Rattle.std.specs.Prelude.{List, ℕ}
use Rattle.std.specs.Borrow.{Bor}
use Rattle.tokenizer.specs.Token.{Standing, token_at}
use Rattle.token_stream.specs.declared.Tokenizer.{Tokenizer}

-- A text, at its start.
abbrev pub start_of : Bor (List ℕ) → Tokenizer
start_of text = record { text = text; at = 0 }

-- What stands at or behind the place: a token, or what is none.
abbrev pub token_of : Tokenizer → Standing
token_of t = token_at t.text.now t.at

-- The same text, at the place behind what stands there.
abbrev pub moved_on : Tokenizer → Tokenizer
moved_on t = record { text = t.text; at = (token_of t).next }
