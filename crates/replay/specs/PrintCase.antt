-- A stored sample of the printer, in a spelling: how many cases, then the cases. A case is the bytes lent, the text, the name list, the
-- status, the printed bytes, the number of the rows' words, and the words. The bytes lent hold `unprinted` before; those
-- behind the printed ones are to hold it still. A refusal prints none.
use Rattle.std.specs.Prelude.{Bool, ◌&&◌, List, ℕ, min, drop, replicate, nat_eq}
use Rattle.tokenizer.specs.Text.{same, all}
use Rattle.tokenizer.specs.Answer.{Out}
use Rattle.datatype.specs.Tree.{part}
use Rattle.display_length.specs.declared.words.Spelling.{Spelling}
use Rattle.datatype_display.specs.Print.{print_answer, print_bytes}
use Rattle.arrow_types.specs.Status.{status_of, value_of}
use Rattle.replay.specs.Sample.{number_at, numbers_at, after_numbers, after_part, counted, replayed}
use Rattle.replay.specs.declared.Number.{Number}
use Rattle.replay.specs.declared.PrintCase.{PrintCase}
use Rattle.replay.specs.declared.Agreement.{Agreement}

abbrev pub unprinted : ℕ
unprinted = 7

-- What stands before the rows' words. Of bytes, the value is their number and the next place is theirs.
unfoldable pub print_case_at : List ℕ → ℕ → PrintCase
print_case_at sample at =
    let lent = number_at sample at in
    let text = number_at sample lent.next in
    let names = number_at sample (after_part sample text.next text.value) in
    let status = number_at sample (after_part sample names.next names.value) in
    let printed = number_at sample status.next in
    let count = number_at sample (after_part sample printed.next printed.value) in
    record { lent = lent.value; text = text; names = names; status = status.value; printed = printed; count = count.value; next = count.next }

-- The bytes that such a number stands before.
abbrev pub bytes_of : List ℕ → Number → List ℕ
bytes_of sample n = part sample n.next n.value

-- An answer has this status and this value.
unfoldable pub is_answer : Out ℕ → ℕ → ℕ → Bool
is_answer answer status value = nat_eq (status_of answer) status && nat_eq (value_of answer) value

-- A buffer holds these bytes, so many, and past them what it held before.
unfoldable pub leaves_bytes : List ℕ → ℕ → List ℕ → Bool
leaves_bytes out size printed = same (part out 0 size) printed && all (nat_eq unprinted) (drop size out)

-- The printer gives a tree the status and the printed bytes of a case, in a spelling, and leaves the rest of so many bytes lent.
unfoldable pub gives_print : Spelling → List ℕ → List ℕ → List ℕ → ℕ → PrintCase → List ℕ → Bool
gives_print spelling text names words lent case printed =
    let before = replicate lent unprinted in
    is_answer (print_answer spelling text names words before) case.status case.printed.value
    && leaves_bytes (print_bytes spelling text names words before) case.printed.value printed

-- The agreement with one case more, of so many words, which is lent so many bytes.
unfoldable pub one_print : Spelling → List ℕ → Agreement → PrintCase → ℕ → ℕ → Agreement
one_print spelling sample t case count lent =
    counted t (gives_print spelling (bytes_of sample case.text) (bytes_of sample case.names) (numbers_at sample count case.next) lent case (bytes_of sample case.printed)) (after_numbers sample count case.next)

-- The agreement with the case that stands behind it, with no more than so many words, and lent no more than so many bytes.
unfoldable pub print_one : Spelling → List ℕ → ℕ → ℕ → Agreement → Agreement
print_one spelling sample words most t =
    let case = print_case_at sample t.next in
    one_print spelling sample t case (min case.count words) (min case.lent most)

-- The agreement of a whole sample.
unfoldable pub print_all : Spelling → List ℕ → ℕ → ℕ → Agreement
print_all spelling sample words most = replayed (print_one spelling sample words most) sample
