-- Printing a tree and reading back just the bytes printed: the answer and both buffers for every input, and what demand 3
-- says of the two calls. `print_and_read` is stated by these.
use Rattle.std.specs.Prelude.{◌≡◌, Result, Ok, Err, List, [], ℕ, ◌*◌, ◌≤◌, length, take, T}
use Rattle.tokenizer.specs.Answer.{Refusal, Out, refused, done, number_of}
use Rattle.parser.specs.Answer.{refusal_in}
use Rattle.datatype.specs.Tree.{count}
use Rattle.datatype.specs.Table.{row_words, tree_of}
use Rattle.row_table.specs.Sound.{is_sound}
use Rattle.unchecked_rows.specs.Equal.{equal_trees}
use Rattle.datatype_parse.specs.Parse.{parse_answer, parse_rows}
use Rattle.datatype_display.specs.Print.{print}
use Rattle.display_length.specs.declared.words.Spelling.{Spelling}
use Rattle.round_trip.specs.Plain.{printed, in_demand3}
use Rattle.round_trip.specs.declared.PrintedAndRead.{PrintedAndRead}
use Rattle.round_trip.specs.declared.NotReadBack.{NotReadBack}
use Rattle.round_trip.specs.declared.NotReadBack.TheVariants.{NotPrinted, NotRead}

-- What the two calls come to: a printed length and a row count, or the number of the printer's refusal (17 to 19), or
-- the reader's (1 to 16), with its place in the printed text.
pub data Outcome : Type 0 where
  tree : (bytes rows : ℕ) → Outcome
  not_printed : (number : ℕ) → Outcome
  not_read : Refusal → Outcome

-- What the code's answer means.
unfoldable pub printed_and_read_means : Result PrintedAndRead NotReadBack → Outcome
printed_and_read_means (Ok r) = tree r.bytes r.rows
printed_and_read_means (Err (NotPrinted e)) = not_printed (number_of e)
printed_and_read_means (Err (NotRead e)) = not_read (refusal_in e)

-- ---- for every input

-- The reader's answer, to a text of so many bytes.
abbrev pub outcome_of : ℕ → Out ℕ → Outcome
outcome_of bytes (refused r) = not_read r
outcome_of bytes (done rows) = tree bytes rows

-- The answer: where a text was printed, that text is read.
abbrev pub answer_to : List ℕ → Out (List ℕ) → Outcome
answer_to back (refused r) = not_printed r.number
answer_to back (done s) = outcome_of (length s) (parse_answer s back)

unfoldable pub print_and_read_answer : Spelling → List ℕ → List ℕ → List ℕ → List ℕ → List ℕ → Outcome
print_and_read_answer spelling text names table out back = answer_to back (print spelling text names table (length out))

-- What the words lent to the reader hold behind it: what they held before where no text was printed.
abbrev pub rows_to : List ℕ → Out (List ℕ) → List ℕ
rows_to back (refused r) = back
rows_to back (done s) = parse_rows s back

unfoldable pub print_and_read_rows : Spelling → List ℕ → List ℕ → List ℕ → List ℕ → List ℕ → List ℕ
print_and_read_rows spelling text names table out back = rows_to back (print spelling text names table (length out))

-- ---- demand 3

-- Its conditions on the two calls: a tree that it speaks of, and buffers that hold the printed text and the tree's rows.
-- 1,024 rows always hold these (`demand3-asks` in proofs/PrintAndRead.antt), and 16,384 bytes the text (`large-buffers`).
pub record Asks3 (spelling : Spelling) (text names table out back : List ℕ) : Type 0 where
  pub tree : T (in_demand3 spelling text names table)
  pub bytes : length (printed spelling text names table) ≤ length out
  pub rows : row_words * count (tree_of text names table) ≤ length back

-- The bytes printed, at the start of the output; the rows filled, at the start of the words lent.
abbrev pub bytes_of : Outcome → List ℕ → List ℕ
bytes_of (tree bytes rows) out = take bytes out
bytes_of (not_printed n) out = []
bytes_of (not_read r) out = []

abbrev pub rows_of : Outcome → List ℕ → List ℕ
rows_of (tree bytes rows) back = take (row_words * rows) back
rows_of (not_printed n) back = []
rows_of (not_read r) back = []

-- What demand 3 says of an answer and of what the two buffers then hold. What they held before is not in it.
-- Two such trees that are not equal never get one text, whatever their spellings (`never-one-text` in
-- proofs/PrintAndRead.antt).
pub record Demand3 (spelling : Spelling) (text names table : List ℕ) (answer : Outcome) (out back : List ℕ) : Type 0 where
  -- neither call refuses: the printer answers the printed length, the reader the tree's row count
  pub answers : answer ≡ tree (length (printed spelling text names table)) (count (tree_of text names table))
  -- exactly the printed text stands at the start of the output
  pub bytes : bytes_of answer out ≡ printed spelling text names table
  -- the rows filled, with those bytes as their text and the same name list, are a sound tree
  pub sound : T (is_sound (bytes_of answer out) names (rows_of answer back))
  -- equal to the one printed
  pub equal : T (equal_trees (bytes_of answer out) names text names (rows_of answer back) table)
