-- Rewriting a type text: it is read, its tree printed, what was printed read back, and the two trees compared. The answer
-- and every buffer, for every input. `rewrite` is stated by these.
use Rattle.std.specs.Prelude.{Bool, Result, Ok, Err, List, ℕ, ◌*◌, length, take, replicate, if◌then◌else◌}
use Rattle.tokenizer.specs.Answer.{Refusal, Out, refused, done, number_of}
use Rattle.parser.specs.Answer.{refusal_in}
use Rattle.datatype.specs.Tree.{name_list}
use Rattle.datatype.specs.Table.{row_words}
use Rattle.unchecked_rows.specs.Equal.{equal_trees}
use Rattle.datatype_parse.specs.Parse.{parse_answer, parse_rows}
use Rattle.display_length.specs.declared.words.Spelling.{Spelling}
use Rattle.datatype_display.specs.Print.{print_bytes}
use Rattle.round_trip.specs.PrintAndRead as P
use Rattle.round_trip.specs.declared.PrintedAndRead.{PrintedAndRead}
use Rattle.rewrite.specs.declared.NotRewritten.{NotRewritten}
use Rattle.rewrite.specs.declared.NotRewritten.TheVariants.{NotRead, NotPrinted, NotReadBack, Differs}

-- What rewriting comes to: a printed length and a row count; or the refusal of the reader (1 to 16, with its place in the
-- text), of the printer (17 to 19) or of reading back (with its place in the printed text); or another tree is read back.
pub data Outcome : Type 0 where
  text : (bytes rows : ℕ) → Outcome
  not_read : Refusal → Outcome
  not_printed : (number : ℕ) → Outcome
  not_read_back : Refusal → Outcome
  differs : Outcome

-- What the code's answer means.
unfoldable pub rewritten_means : Result PrintedAndRead NotRewritten → Outcome
rewritten_means (Ok r) = text r.bytes r.rows
rewritten_means (Err (NotRead e)) = not_read (refusal_in e)
rewritten_means (Err (NotPrinted e)) = not_printed (number_of e)
rewritten_means (Err (NotReadBack e)) = not_read_back (refusal_in e)
rewritten_means (Err Differs) = differs

-- ---- a tree, printed and read back

module _ (spelling : Spelling) (source names table out back : List ℕ) where
  -- Whether the tree read back, with the bytes printed as its text, is the one printed.
  unfoldable pub is_same : Bool
  is_same =
      let answer = P.print_and_read_answer spelling source names table out back in
      let printed = P.bytes_of answer (print_bytes spelling source names table out) in
      let rows = P.rows_of answer (P.print_and_read_rows spelling source names table out back) in
      equal_trees printed names source names rows table

-- The two calls' answer, and whether the trees are the same.
abbrev pub judged : Bool → P.Outcome → Outcome
judged same (P.tree bytes rows) = if same then text bytes rows else differs
judged same (P.not_printed n) = not_printed n
judged same (P.not_read r) = not_read_back r

-- What the output holds behind it: where a later step refuses it is cleared, so that nobody takes a wrong text from it.
abbrev pub cleared : Outcome → List ℕ → List ℕ
cleared (text bytes rows) out = out
cleared (not_read r) out = out
cleared (not_printed n) out = out
cleared (not_read_back r) out = replicate (length out) 0
cleared differs out = replicate (length out) 0

unfoldable pub printed_again : Spelling → List ℕ → List ℕ → List ℕ → List ℕ → List ℕ → Outcome
printed_again spelling source names table out back = judged (is_same spelling source names table out back) (P.print_and_read_answer spelling source names table out back)

unfoldable pub bytes_again : Spelling → List ℕ → List ℕ → List ℕ → List ℕ → List ℕ → List ℕ
bytes_again spelling source names table out back = cleared (printed_again spelling source names table out back) (print_bytes spelling source names table out)

-- ---- a text, with the words lent for its rows and for those read back

-- The table that reading a text has left in the words lent, n rows of it.
abbrev pub table_read : List ℕ → List ℕ → ℕ → List ℕ
table_read source rows n = take (row_words * n) (parse_rows source rows)

abbrev pub answer_to : Spelling → List ℕ → List ℕ → List ℕ → List ℕ → Out ℕ → Outcome
answer_to spelling source rows out back (refused r) = not_read r
answer_to spelling source rows out back (done n) = printed_again spelling source name_list (table_read source rows n) out back

unfoldable pub rewrite_answer : Spelling → List ℕ → List ℕ → List ℕ → List ℕ → Outcome
rewrite_answer spelling source rows out back = answer_to spelling source rows out back (parse_answer source rows)

-- The output: as it was where the text is not read.
abbrev pub bytes_to : Spelling → List ℕ → List ℕ → List ℕ → List ℕ → Out ℕ → List ℕ
bytes_to spelling source rows out back (refused r) = out
bytes_to spelling source rows out back (done n) = bytes_again spelling source name_list (table_read source rows n) out back

unfoldable pub rewrite_bytes : Spelling → List ℕ → List ℕ → List ℕ → List ℕ → List ℕ
rewrite_bytes spelling source rows out back = bytes_to spelling source rows out back (parse_answer source rows)

-- The words lent for reading back: as they were where nothing is read back.
abbrev pub back_to : Spelling → List ℕ → List ℕ → List ℕ → List ℕ → Out ℕ → List ℕ
back_to spelling source rows out back (refused r) = back
back_to spelling source rows out back (done n) = P.print_and_read_rows spelling source name_list (table_read source rows n) out back

unfoldable pub rewrite_back : Spelling → List ℕ → List ℕ → List ℕ → List ℕ → List ℕ
rewrite_back spelling source rows out back = back_to spelling source rows out back (parse_answer source rows)
