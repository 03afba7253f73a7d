-- Rows of a table that stand side by side, as the trees that they are.
use Rattle.std.specs.Prelude.{List, ℕ, ◌*◌, take, drop}
use Rattle.std.proofs.Math.Option.{Option, none, some}
use Rattle.datatype.specs.Tree.{Forest, ∅, Row}
use Rattle.datatype.specs.Table.{row_words, view_of}

-- The run of trees in the n rows from row i on, if they nest.
unfoldable pub run_at : List ℕ → ℕ → ℕ → Option (Forest Row)
run_at table i n = view_of (take (row_words * n) (drop (row_words * i) table))

abbrev pub run_or : Option (Forest Row) → Forest Row
run_or none = ∅
run_or (some f) = f

-- The same run, empty where the rows do not nest.
unfoldable pub forest_at : List ℕ → ℕ → ℕ → Forest Row
forest_at table i n = run_or (run_at table i n)
