-- The line program (document 01, 'The line program').
use Rattle.std.specs.Prelude.{Bool, ◌&&◌, List, [], ◌∷◌, ◌++◌, ℕ, ◌+◌, ◌*◌, length, drop, nat_le, if◌then◌else◌, Option, Some, None}
use Rattle.tokenizer.specs.Text.{bytes}
use Rattle.tokenizer.specs.Answer.{Refusal, Out, refused, done}
use Rattle.datatype.specs.Limits.{max_text, max_rows}
use Rattle.datatype.specs.Tree.{Forest, Row, count, depth, name_list}
use Rattle.datatype.specs.Table.{row_words, table_of}
use Rattle.datatype_parse.specs.Parse.{parse, parse_rows}
use Rattle.writer.specs.Digits.{digits}
use Rattle.datatype_display.specs.Print.{default_spelling, print}
use Rattle.input_lines.specs.Lines.{lines_of}

-- `no`, the number and, of a refusal of the reader, the place (document 02, [2]).
abbrev pub place_text : Option ℕ → List ℕ
place_text None = []
place_text (Some place) = bytes " " ++ digits place

abbrev pub no_line : Refusal → List ℕ
no_line r = bytes "no " ++ (digits r.number ++ (place_text r.place ++ bytes "\n"))

-- `ok`, rows, depth, printed text; a refusal of the printer is a `no` line too.
abbrev pub ok_line : Forest Row → Out (List ℕ) → List ℕ
ok_line f (refused r) = no_line r
ok_line f (done printed) = bytes "ok " ++ (digits (count f) ++ (bytes " " ++ (digits (depth f) ++ (bytes " " ++ (printed ++ bytes "\n")))))

-- The reader with 1,024 rows, then the printer with 16,384 output bytes, in the default spelling.
abbrev pub read_line : List ℕ → Out (Forest Row) → List ℕ
read_line text (refused r) = no_line r
read_line text (done f) = ok_line f (print default_spelling text name_list (table_of f) max_text)

-- What is printed for one line, whose newline is cut off.
unfoldable pub line_answer : List ℕ → List ℕ
line_answer text = read_line text (parse text max_rows)

-- What the program prints.
abbrev pub answers : List (List ℕ) → List ℕ
answers [] = []
answers (l ∷ ls) = line_answer l ++ answers ls

unfoldable pub output : List ℕ → List ℕ
output input = answers (lines_of input)

-- ---- one line, in lent buffers

-- The words that 1,024 rows take.
abbrev pub line_words : ℕ
line_words = row_words * max_rows

-- The bytes that the longest answer takes: `ok 1024 64 `, a printed text and a newline.
abbrev pub answer_bytes : ℕ
answer_bytes = 11 + max_text + 1

-- Whether the buffers hold the rows and the answer of every line.
abbrev pub room_for : List ℕ → List ℕ → Bool
room_for rows out = nat_le line_words (length rows) && nat_le answer_bytes (length out)

-- What is answered: how many bytes are printed for the line; nothing where there is no room.
unfoldable pub line_answered : List ℕ → List ℕ → List ℕ → Option ℕ
line_answered line rows out = if room_for rows out then Some (length (line_answer line)) else None

-- What the rows hold behind it: what reading the line leaves in them. Without room nothing changes.
unfoldable pub line_rows : List ℕ → List ℕ → List ℕ → List ℕ
line_rows line rows out = if room_for rows out then parse_rows line rows else rows

-- What the output holds behind it: what is printed for the line, and past it what it held before.
unfoldable pub line_out : List ℕ → List ℕ → List ℕ → List ℕ
line_out line rows out =
    let printed = line_answer line in
    if room_for rows out then printed ++ drop (length printed) out else out
