-- What the private functions promise; nothing here has to be believed, since no public function's contract cites it.
use Rattle.std.specs.Prelude.{List, ℕ, ◌+◌, ◌/◌, ◌<◌, ◌^◌, map, length, get_or, count_by, nat_eq}
use Rattle.std.specs.List.{range_with_len}
use Rattle.datatype.specs.Kind.{kinds}
use Rattle.datatype.specs.Table.{row_words, word_at}
use Rattle.tally.specs.Tally.{each_from}

-- The kinds of the first rows of a table.
unfoldable pub kinds_at : List ℕ → ℕ → List ℕ
kinds_at table n = map (λ i. word_at table i 0) (range_with_len 0 n)

-- How many rows of each kind they are.
unfoldable pub rows_by_kind : List ℕ → ℕ → List ℕ
rows_by_kind table n = each_from 0 kinds (λ k. count_by (λ w. nat_eq w k) (kinds_at table n))

-- Rows can be counted: each has a kind, and the counts have room.
pub record Countable (counts table : List ℕ) : Type 0 where
  pub kind : (i : ℕ) → i < length table / row_words → word_at table i 0 < kinds
  pub room : (k : ℕ) → get_or counts k 0 + length table / row_words < 2 ^ 32
