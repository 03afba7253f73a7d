-- Reports by computation: of the sample of the line program, of nothing, of a line that does not print, and of others.
use Rattle.std.specs.Prelude.{◌≡◌, refl, [], ◌∷◌}
use Rattle.tokenizer.specs.Text.{bytes}
use Rattle.input_lines.specs.Lines.{lines_of}
use Rattle.writer.specs.Digits.{digits, digits_with}
use Rattle.datatype_parse.specs.Internal.Computed as parser
use Rattle.tally.specs.Tally.{read, each_from, tally, count_lines, report, report_of}

pub sample : report_of (bytes "Struct(\"slot\": non-null Timestamp(Second), \"kwh\": Decimal64(12, 3),)\nFixedSizeList(4, Int32)\nRunEndEncoded(Int32, Utf8)\n")
    ≡ bytes "lines 3\nok 2\nno 13 1\nkind 4 1\nkind 13 1\nkind 29 1\nkind 32 1\nkind 36 1\ndeep 2\n"
unfolding parser.computed lines_of digits digits_with read each_from tally count_lines report report_of
sample = refl

-- Without a line, with an empty one, and with a last one that has no newline.
pub few : (report_of [] ∷ report_of (bytes "\n") ∷ report_of (bytes "Int8\nInt8") ∷ [])
    ≡ (bytes "lines 0\nok 0\ndeep 0\n" ∷ bytes "lines 1\nok 0\nno 5 1\ndeep 0\n" ∷ bytes "lines 2\nok 2\nkind 2 2\ndeep 1\n" ∷ [])
unfolding parser.computed lines_of digits digits_with read each_from tally count_lines report report_of
few = refl

-- Rows are counted, not lines; and a line that is read and does not print is accepted.
pub rows : (report_of (bytes "Dictionary(Int8, Int8)\n") ∷ report_of (bytes "Struct(\"д\": Int8)\n") ∷ [])
    ≡ (bytes "lines 1\nok 1\nkind 2 2\nkind 34 1\ndeep 2\n" ∷ bytes "lines 1\nok 1\nkind 2 1\nkind 32 1\ndeep 2\n" ∷ [])
unfolding parser.computed lines_of digits digits_with read each_from tally count_lines report report_of
rows = refl
