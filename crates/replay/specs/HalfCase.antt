-- The stored sample of rows in halves: how many cases, then the cases. A case is the text, the name list, the words lent, the status,
-- the row count, how many half words, the half words, and the words of as many rows. The words lent hold `unread` before; those behind
-- the rows are to hold it still, all of them where the half words are refused. A tree that is brought back is kept again.
use Rattle.std.specs.Prelude.{Bool, true, ◌&&◌, List, [], ◌∷◌, ◌++◌, ℕ, zero, suc, ◌*◌, ◌-◌, min, take, length, replicate, nat_eq, if◌then◌else◌}
use Rattle.tokenizer.specs.Text.{same}
use Rattle.datatype.specs.Table.{row_words}
use Rattle.half_rows.specs.HalfRows.{half_rows_answer, half_rows_words, wide_rows_answer, wide_rows_words}
use Rattle.arrow_types.specs.Status.{status_of, value_of}
use Rattle.replay.specs.Sample.{number_at, numbers_at, after_numbers, after_part, counted, replayed}
use Rattle.replay.specs.PrintCase.{bytes_of}
use Rattle.replay.specs.ReadCase.{unread}
use Rattle.replay.specs.declared.HalfCase.{HalfCase}
use Rattle.replay.specs.declared.Agreement.{Agreement}

-- What stands before the half words.
unfoldable pub half_case_at : List ℕ → ℕ → HalfCase
half_case_at sample at =
    let text = number_at sample at in
    let names = number_at sample (after_part sample text.next text.value) in
    let lent = number_at sample (after_part sample names.next names.value) in
    let status = number_at sample lent.next in
    let value = number_at sample status.next in
    let count = number_at sample value.next in
    record { text = text; names = names; lent = lent.value; status = status.value; value = value.value; count = count.value; next = count.next }

-- A number as a half word: never more than 16 bits hold.
abbrev pub half_of : ℕ → ℕ
half_of value = min value 65535

-- So many half words from a place on.
unfoldable pub halves_at : List ℕ → ℕ → ℕ → List ℕ
halves_at sample zero at = []
halves_at sample (suc n) at = half_of (number_at sample at).value ∷ halves_at sample n (number_at sample at).next

-- The words that so many rows from a place on leave, of so many lent, and the place behind those of them that are stored.
unfoldable pub rows_left : List ℕ → ℕ → ℕ → ℕ → List ℕ
rows_left sample count at lent =
    let n = min (row_words * count) lent in
    numbers_at sample n at ++ replicate (lent - n) unread

unfoldable pub after_rows : List ℕ → ℕ → ℕ → ℕ → ℕ
after_rows sample count at lent = after_numbers sample (min (row_words * count) lent) at

-- Half words give this status and this row count, and leave these words of so many lent.
unfoldable pub gives_rows : List ℕ → List ℕ → List ℕ → ℕ → ℕ → ℕ → List ℕ → Bool
gives_rows text names halves lent status count left =
    let rows = replicate lent unread in
    let answer = wide_rows_answer text names halves rows in
    nat_eq (status_of answer) status && nat_eq (value_of answer) count && same (wide_rows_words text names halves rows) left

-- A tree of these rows is kept in these half words, where as many are lent.
unfoldable pub gives_halves : List ℕ → List ℕ → List ℕ → List ℕ → Bool
gives_halves text names rows halves =
    let lent = replicate (length halves) unread in
    nat_eq (status_of (half_rows_answer text names rows lent)) 0 && same (half_rows_words text names rows lent) halves

-- Half words give what a case says, these words among it, where so many are lent, and are kept again where they are accepted.
unfoldable pub halves_alike : List ℕ → HalfCase → List ℕ → List ℕ → ℕ → Bool
halves_alike sample case halves left lent =
    let text = bytes_of sample case.text in
    let names = bytes_of sample case.names in
    let rows = take (min (row_words * case.value) (length left)) left in
    let again = if nat_eq case.status 0 then gives_halves text names rows halves else true in
    gives_rows text names halves lent case.status case.value left && again

-- The agreement with one case more, of so many half words, which is lent so many words and is to leave so many.
unfoldable pub one_half_case : List ℕ → Agreement → HalfCase → ℕ → ℕ → ℕ → Agreement
one_half_case sample t case count words left =
    let at = after_numbers sample count case.next in
    let alike = halves_alike sample case (halves_at sample count case.next) (rows_left sample case.value at left) words in
    counted t alike (after_rows sample case.value at left)

-- The agreement with the case that stands behind it, of no more half words and lent no more words than so many.
unfoldable pub half_one : List ℕ → ℕ → ℕ → Agreement → Agreement
half_one sample halves words t =
    let case = half_case_at sample t.next in
    let lent = min case.lent words in
    one_half_case sample t case (min case.count halves) lent lent

-- The agreement of a whole sample.
unfoldable pub half_all : List ℕ → ℕ → ℕ → Agreement
half_all sample halves words = replayed (half_one sample halves words) sample
