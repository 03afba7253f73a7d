-- How the code finds parents: it climbs from the row before, through parents that are right already. Contracts of
-- private functions cite this; nothing here has to be believed, since no public function's contract does.
use Rattle.std.specs.Prelude.{◌≡◌, List, ℕ, ◌<◌}
use Rattle.datatype.specs.Table.{parent_word_at}
use Rattle.unchecked_rows.specs.Parents.{parent_at}

-- The rows before row i have their parents.
pub record Climbs (table : List ℕ) (i : ℕ) : Type 0 where
  pub right : (k : ℕ) → k < i → parent_word_at table k ≡ parent_at table k
