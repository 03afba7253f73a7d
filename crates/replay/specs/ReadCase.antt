-- The stored sample of the reader: how many cases, then the cases. A case is the words lent, the text's length, the text,
-- the status, the value and the place (`arrow_types/Status`), and the words of as many rows as the value says. The words lent hold
-- `unread` before; those behind the rows are to hold it still, or 0 where the text is refused.
use Rattle.std.specs.Prelude.{Bool, ◌&&◌, List, ◌++◌, ℕ, ◌*◌, ◌-◌, min, replicate, nat_eq, if◌then◌else◌}
use Rattle.tokenizer.specs.Text.{same}
use Rattle.datatype.specs.Tree.{part}
use Rattle.datatype.specs.Table.{row_words}
use Rattle.datatype_parse.specs.Parse.{parse_answer, parse_rows}
use Rattle.datatype_parse.specs.RowsToLend.{rows_to_lend}
use Rattle.arrow_types.specs.Status.{status_of, value_of, place_of}
use Rattle.replay.specs.Sample.{number_at, numbers_at, after_numbers, after_part, counted, replayed}
use Rattle.replay.specs.declared.ReadCase.{ReadCase}
use Rattle.replay.specs.declared.Agreement.{Agreement}

abbrev pub unread : ℕ
unread = 7

-- What stands before the rows' words.
unfoldable pub read_case_at : List ℕ → ℕ → ReadCase
read_case_at sample at =
    let lent = number_at sample at in
    let size = number_at sample lent.next in
    let status = number_at sample (after_part sample size.next size.value) in
    let value = number_at sample status.next in
    let place = number_at sample value.next in
    record { lent = lent.value; at = size.next; size = size.value; status = status.value; value = value.value; place = place.value; next = place.next }

-- How many words a case is lent: those stored with it, or, read again where it is accepted, those of its rows to lend.
unfoldable pub words_lent : Bool → ReadCase → ℕ
words_lent again case = if again && nat_eq case.status 0 then row_words * rows_to_lend case.size else case.lent

-- What the words behind the rows are to hold.
abbrev pub rest_of : ℕ → ℕ
rest_of status = if nat_eq status 0 then unread else 0

-- The words that a reader leaves, of so many lent, and the place behind those of them that are stored.
unfoldable pub left_words : List ℕ → ReadCase → ℕ → List ℕ
left_words sample case lent =
    let n = min (row_words * case.value) lent in
    numbers_at sample n case.next ++ replicate (lent - n) (rest_of case.status)

unfoldable pub after_case : List ℕ → ReadCase → ℕ → ℕ
after_case sample case lent = after_numbers sample (min (row_words * case.value) lent) case.next

-- The reader gives a text this status, this value and this place, and leaves these words of so many lent.
unfoldable pub gives : List ℕ → ℕ → ℕ → ℕ → ℕ → List ℕ → Bool
gives text lent status value place left =
    let answer = parse_answer text (replicate lent unread) in
    nat_eq (status_of answer) status && nat_eq (value_of answer) value && nat_eq (place_of answer) place && same (parse_rows text (replicate lent unread)) left

-- The agreement with one case more, which is lent so many words and is to leave so many.
unfoldable pub one_case : List ℕ → Agreement → ReadCase → ℕ → ℕ → Agreement
one_case sample t case lent left =
    counted t (gives (part sample case.at case.size) lent case.status case.value case.place (left_words sample case left)) (after_case sample case left)

-- The agreement with the case that stands behind it, which is lent as many words as `words` says, and no more than so many.
unfoldable pub read_one : List ℕ → (ReadCase → ℕ) → ℕ → Agreement → Agreement
read_one sample words most t =
    let case = read_case_at sample t.next in
    let lent = min (words case) most in
    one_case sample t case lent lent

-- The agreement of a whole sample, read for the first time or again.
unfoldable pub read_all : List ℕ → Bool → ℕ → Agreement
read_all sample again most = replayed (read_one sample (words_lent again) most) sample
