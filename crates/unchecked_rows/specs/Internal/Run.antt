-- How the code finds its way through a table: the run of whole trees in a stretch of rows, i to i + n. Contracts of
-- private functions cite these; nothing here has to be believed, since no public function's contract does.
use Rattle.std.specs.Prelude.{Bool, true, false, List, map, ℕ, ◌+◌, ◌*◌, ◌≤◌, length, take, drop, T}
use Rattle.std.proofs.Math.Option.{Option, none, some}
use Rattle.datatype.specs.Kind.{entries_refusal}
use Rattle.datatype.specs.Tree.{Forest, ∅, node, roots, Row}
use Rattle.datatype.specs.Table.{row_words}
unfoldable pub use Rattle.datatype.specs.Table.{row_at}
unfoldable pub use Rattle.unchecked_rows.specs.Rows.{run_at, run_or, forest_at}

-- The words of row i of a table.
abbrev pub words_at : List ℕ → ℕ → List ℕ
words_at table i = take row_words (drop (row_words * i) table)

abbrev pub is_run : Option (Forest Row) → Bool
is_run none = false
is_run (some f) = true

-- The n rows from row i on are there, and nest: what a walk asks of its rows.
pub record Nests (table : List ℕ) (i n : ℕ) : Type 0 where
  pub room : row_words * (i + n) ≤ length table
  pub whole : T (is_run (run_at table i n))

-- The number that Map's entries are refused with where they are the first tree of a run, 0 where they are not.
abbrev pub entries_of : Forest Row → ℕ
entries_of ∅ = 14
entries_of (node r kids next) = entries_refusal r.role r.kind (map (λ c. c.role) (roots kids))
