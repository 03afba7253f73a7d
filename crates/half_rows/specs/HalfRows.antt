-- Rows in halves (docs/SCOPE.md, 'Rows in halves'): thirteen 16-bit words to a row, its twelve in order, word 4 as its low half and
-- then its high half.
use Rattle.std.specs.Prelude.{◌&&◌, List, [], ◌∷◌, ◌++◌, ℕ, zero, suc, ◌+◌, ◌*◌, ◌/◌, ◌%◌, ◌^◌, length, take, drop, get_or, nat_eq, nat_le, if◌then◌else◌}
use Rattle.tokenizer.specs.Answer.{Out, refused, done, refuse}
use Rattle.datatype.specs.Table.{row_words}
use Rattle.row_table.specs.Sound.{is_sound}
use Rattle.half_rows.specs.declared.NotKept.{NotKept}
use Rattle.half_rows.specs.declared.NotKept.TheVariants.{NotSound, NoRoom}

-- How many half words a row takes.
abbrev pub half_words : ℕ
half_words = 13

-- How many values a half word has.
abbrev pub half : ℕ
half = 2 ^ 16

-- A row's twelve words in halves, and back.
abbrev pub halves_of : List ℕ → List ℕ
halves_of ws = take 4 ws ++ (get_or ws 4 0 % half ∷ get_or ws 4 0 / half ∷ drop 5 ws)

abbrev pub words_of_halves : List ℕ → List ℕ
words_of_halves hs = take 4 hs ++ ((get_or hs 4 0 + half * get_or hs 5 0) ∷ drop 6 hs)

-- So many rows of a table in halves, and back.
abbrev pub halved_rows : ℕ → List ℕ → List ℕ
halved_rows zero table = []
halved_rows (suc n) table = halves_of (take row_words table) ++ halved_rows n (drop row_words table)

abbrev pub unhalved_rows : ℕ → List ℕ → List ℕ
unhalved_rows zero halves = []
unhalved_rows (suc n) halves =
    words_of_halves (take half_words halves) ++ unhalved_rows n (drop half_words halves)

-- A table's whole rows in halves, and back: what is left over is no row.
unfoldable pub halved : List ℕ → List ℕ
halved table = halved_rows (length table / row_words) table

unfoldable pub unhalved : List ℕ → List ℕ
unhalved halves = unhalved_rows (length halves / half_words) halves

-- Into halves, where there is room for so many half words: 17, then 28.
unfoldable pub to_halves : List ℕ → List ℕ → List ℕ → ℕ → Out (List ℕ)
to_halves text names table room =
    let kept = if nat_le (length (halved table)) room then done (halved table) else refuse 28 in
    if is_sound text names table then kept else refuse 17

-- Back, where there is room for so many words: nothing is left over from thirteens, and the words are a sound tree, else 17;
-- then 28.
unfoldable pub from_halves : List ℕ → List ℕ → List ℕ → ℕ → Out (List ℕ)
from_halves text names halves room =
    let whole = nat_eq (length halves) (half_words * (length halves / half_words)) in
    let back = if nat_le (length (unhalved halves)) room then done (unhalved halves) else refuse 28 in
    if whole && is_sound text names (unhalved halves) then back else refuse 17

-- ---- the answers, and what the buffers then hold: past what is written what they held; a refusal changes none

-- How many rows some words are, of so many to a row.
abbrev pub count_by : ℕ → Out (List ℕ) → Out ℕ
count_by words (refused r) = refused r
count_by words (done ws) = done (length ws / words)

abbrev pub words_by : Out (List ℕ) → List ℕ → List ℕ
words_by (refused r) before = before
words_by (done ws) before = ws ++ drop (length ws) before

module _ (text names table before : List ℕ) where
  unfoldable pub half_rows_answer : Out ℕ
  half_rows_answer = count_by half_words (to_halves text names table (length before))

  unfoldable pub half_rows_words : List ℕ
  half_rows_words = words_by (to_halves text names table (length before)) before

module _ (text names halves before : List ℕ) where
  unfoldable pub wide_rows_answer : Out ℕ
  wide_rows_answer = count_by row_words (from_halves text names halves (length before))

  unfoldable pub wide_rows_words : List ℕ
  wide_rows_words = words_by (from_halves text names halves (length before)) before

-- ---- the answers of the code

-- The number of each refusal.
abbrev pub number_of : NotKept → ℕ
number_of NotSound = 17
number_of NoRoom = 28
