-- Every line over 16,384 bytes has the same answer.
use mathlib.Core.Path.{◌≡◌}
use mathlib.Core.List.{List}
use Prim.Native.Nat.{ℕ, ◌<◌}
use lib.ListN.{length}
use Rattle.tokenizer.specs.Text.{bytes}
use Rattle.parser.proofs.FirstType.{too_long}
use Rattle.parser.specs.Answer.{refusal_in}
use Rattle.datatype_parse.specs.Parse.{parse}
use Rattle.writer.specs.Digits.{digits, digits_with}
use Rattle.answer_line.specs.Line.{line_answer}

pub long_line : (line : List ℕ) → 16384 < length line → line_answer line ≡ bytes "no 1 16384\n"
unfolding line_answer parse refusal_in digits digits_with
long_line line h = rw (too_long line 1024 h)
