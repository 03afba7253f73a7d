-- What keeping rows in halves is for (docs/SCOPE.md, 'Rows in halves'): a sound tree comes back as it was, and two are kept alike only if
-- they are the same.
use Rattle.std.specs.Prelude.{◌≡◌, T, List, ◌++◌, ℕ, ◌*◌, ◌/◌, ◌≤◌, length, take, drop}
use Rattle.tokenizer.specs.Answer.{Out, refused, done}
use Rattle.datatype.specs.Table.{row_words}
use Rattle.row_table.specs.Sound.{is_sound}
use Rattle.half_rows.specs.HalfRows.{half_words, halved, unhalved, wide_rows_answer, wide_rows_words}

-- The half words that were left, thirteen a row, bring the tree back, word for word and in as many rows, into any rows that have
-- room for it; what stands behind them stays.
abbrev pub ComesBack : List ℕ → List ℕ → List ℕ → Out ℕ → List ℕ → Type 0
ComesBack text names table (refused r) halves = Unit
ComesBack text names table (done n) halves =
    let kept = take (half_words * n) halves in
    (rows : List ℕ) → length table ≤ length rows
    → (wide_rows_answer text names kept rows ≡ done n)
    × (wide_rows_words text names kept rows ≡ table ++ drop (length table) rows)

-- Sound tables that are kept alike are the same, whatever their texts.
abbrev pub KeptAlike : List ℕ → List ℕ → List ℕ → Type 0
KeptAlike text names table =
    (text' names' table' : List ℕ) → T (is_sound text names table) → T (is_sound text' names' table')
    → halved table ≡ halved table' → table ≡ table'

-- What was brought back is a sound tree, and is kept as the very half words that it came from.
abbrev pub KeepsAgain : List ℕ → List ℕ → List ℕ → Out ℕ → List ℕ → Type 0
KeepsAgain text names halves (refused r) rows = Unit
KeepsAgain text names halves (done n) rows =
    let table = take (row_words * n) rows in
    T (is_sound text names table) × (halved table ≡ halves)

-- A sound tree in whole thirteens is brought back where its rows have room: nothing sound is refused for another cause.
abbrev pub BringsSound : List ℕ → List ℕ → List ℕ → List ℕ → Out ℕ → Type 0
BringsSound text names halves rows answer =
    let count = length halves / half_words in
    length halves ≡ half_words * count → T (is_sound text names (unhalved halves))
    → count ≤ length rows / row_words → answer ≡ done count
