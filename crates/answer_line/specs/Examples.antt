-- The sample of document 01, 'The line program', by computation, a buffer that is a word short, and units of time.
use Rattle.std.specs.Prelude.{◌≡◌, refl, List, ℕ, length, None}
use Rattle.tokenizer.specs.Text.{bytes}
use Rattle.datatype_parse.specs.Internal.Computed as parser
use Rattle.datatype_display.specs.Internal.Computed as printer
use Rattle.input_lines.specs.Lines.{lines_of}
use Rattle.answer_line.specs.Line.{line_answer, output, line_answered}

pub sample : output (bytes "Struct(\"slot\": non-null Timestamp(Second), \"kwh\": Decimal64(12, 3),)\nFixedSizeList(4, Int32)\nRunEndEncoded(Int32, Utf8)\n")
    ≡ bytes "ok 3 2 Struct(\"slot\": non-null Timestamp(s), \"kwh\": Decimal64(12, 3))\nok 2 2 FixedSizeList(4 x Int32)\nno 13 13\n"
unfolding parser.computed printer.computed line_answer lines_of output
sample = refl

-- With one word less than 1,024 rows take there is no room, whatever the line.
pub words_missing : (line rows out : List ℕ) → length rows ≡ 12287 → line_answered line rows out ≡ None
unfolding line_answered
words_missing line rows out e = rw e

-- Microseconds are printed in the default spelling, however they were spelled.
pub default_spelling_lem : output (bytes "Timestamp(us)\nTimestamp(µs)\nDuration(Microsecond)\n") ≡ bytes "ok 1 1 Timestamp(us)\nok 1 1 Timestamp(us)\nok 1 1 Duration(us)\n"
unfolding parser.computed printer.computed line_answer lines_of output
default_spelling_lem = refl
