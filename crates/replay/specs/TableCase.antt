-- The stored sample of the row table: how many groups, then the groups. A group is a table, another that it is compared
-- with, how many cases, and the cases. A table is its text, its name list, the number of its words, and the words. A case
-- is a word of the first table, the value that it is set to, and what is then to be answered: whether the table is sound
-- (1 or 0), status and value of its depth and of its verdict, whether it equals the other (1 or 0), and the name and the
-- zone of the row that has the word.
use Rattle.std.specs.Prelude.{Option, Some, None, Bool, ◌&&◌, List, ℕ, suc, ◌*◌, ◌/◌, min, drop, set, nat_eq}
use Rattle.tokenizer.specs.Text.{same}
use Rattle.tokenizer.specs.Answer.{Out, refused, done}
use Rattle.datatype.specs.Tree.{label_of}
use Rattle.datatype.specs.Table.{row_words, row_of}
use Rattle.row_table.specs.Sound.{is_sound, depth_of}
use Rattle.unchecked_rows.specs.Equal.{equal_trees}
use Rattle.layout.specs.Layout.{verdict_of}
use Rattle.arrow_types.specs.Status.{status_of, value_of, flag}
use Rattle.replay.specs.Sample.{number_at, numbers_at, after_numbers, after_part, counted, times, replayed}
use Rattle.replay.specs.PrintCase.{bytes_of}
use Rattle.replay.specs.declared.Table.{Table}
use Rattle.replay.specs.declared.TableCase.{TableCase}
use Rattle.replay.specs.declared.Agreement.{Agreement}

-- What stands before the words of a table.
unfoldable pub table_at : List ℕ → ℕ → Table
table_at sample at =
    let text = number_at sample at in
    let names = number_at sample (after_part sample text.next text.value) in
    let count = number_at sample (after_part sample names.next names.value) in
    record { text = text; names = names; count = count.value; next = count.next }

unfoldable pub table_case_at : List ℕ → ℕ → TableCase
table_case_at sample at =
    let place = number_at sample at in
    let value = number_at sample place.next in
    let sound = number_at sample value.next in
    let depth_status = number_at sample sound.next in
    let depth = number_at sample depth_status.next in
    let verdict_status = number_at sample depth.next in
    let verdict = number_at sample verdict_status.next in
    let equal = number_at sample verdict.next in
    let name = number_at sample equal.next in
    let zone = number_at sample (after_part sample name.next name.value) in
    record {
      place = place.value;
      value = value.value;
      sound = sound.value;
      depth = record { status = depth_status.value; value = depth.value };
      verdict = record { status = verdict_status.value; value = verdict.value };
      equal = equal.value;
      name = name;
      zone = zone;
      next = after_part sample zone.next zone.value;
    }

-- ---- one case

-- A verdict's value: 0 for yes, else the row's number from 1.
unfoldable pub verdict_value : Out (Option ℕ) → ℕ
verdict_value (refused r) = 0
verdict_value (done None) = 0
verdict_value (done (Some i)) = suc i

unfoldable pub is_verdict : Out (Option ℕ) → ℕ → ℕ → Bool
is_verdict answer status value = nat_eq (status_of answer) status && nat_eq (verdict_value answer) value

-- A table is sound or not, and has the depth and the verdict, as a case says.
unfoldable pub tree_alike : List ℕ → List ℕ → List ℕ → TableCase → Bool
tree_alike text names words case =
    nat_eq (flag (is_sound text names words)) case.sound
    && nat_eq (status_of (depth_of text names words)) case.depth.status
    && nat_eq (value_of (depth_of text names words)) case.depth.value
    && is_verdict (verdict_of text names words) case.verdict.status case.verdict.value

-- The row that has the word has this name and this zone.
unfoldable pub row_alike : List ℕ → List ℕ → List ℕ → ℕ → List ℕ → List ℕ → Bool
row_alike text names words place name zone =
    let row = label_of text names (row_of (drop (row_words * (place / row_words)) words)) in
    same row.name name && same row.zone zone

-- A table, changed as a case says, gives all that it says.
unfoldable pub change_alike : List ℕ → Table → List ℕ → Table → List ℕ → TableCase → Bool
change_alike sample table words other others case =
    let text = bytes_of sample table.text in
    let names = bytes_of sample table.names in
    tree_alike text names words case
    && row_alike text names words case.place (bytes_of sample case.name) (bytes_of sample case.zone)
    && nat_eq (flag (equal_trees text names (bytes_of sample other.text) (bytes_of sample other.names) words others)) case.equal

-- ---- all of them

-- The agreement with the case that stands behind it.
unfoldable pub one_change : List ℕ → Table → List ℕ → Table → List ℕ → Agreement → Agreement
one_change sample table words other others t =
    let case = table_case_at sample t.next in
    counted t (change_alike sample table (set words case.place case.value) other others case) case.next

-- The agreement with so many cases.
abbrev pub changes : List ℕ → Table → List ℕ → Table → List ℕ → ℕ → Agreement → Agreement
changes sample table words other others = times (one_change sample table words other others)

-- The agreement with the cases of two tables, the second of so many words.
unfoldable pub group_cases : List ℕ → Table → List ℕ → Table → ℕ → Agreement → Agreement
group_cases sample table words other count t =
    let cases = number_at sample (after_numbers sample count other.next) in
    changes sample table words other (numbers_at sample count other.next) cases.value (record { all = t.all; alike = t.alike; first = t.first; next = cases.next })

-- The agreement with the group of a table of so many words; the second has no more than so many.
unfoldable pub group_of : List ℕ → Table → ℕ → ℕ → Agreement → Agreement
group_of sample table count most t =
    let other = table_at sample (after_numbers sample count table.next) in
    group_cases sample table (numbers_at sample count table.next) other (min other.count most) t

-- The agreement with the group that stands behind it.
unfoldable pub one_group : List ℕ → ℕ → ℕ → Agreement → Agreement
one_group sample most others t =
    let table = table_at sample t.next in
    group_of sample table (min table.count most) others t

-- The agreement of a whole sample.
unfoldable pub table_all : List ℕ → ℕ → ℕ → Agreement
table_all sample most others = replayed (one_group sample most others) sample
