-- Rows that stand side by side, as the code steps from sibling to sibling. Contracts of private functions cite this;
-- nothing here has to be believed, since no public function's contract does.
use Rattle.std.specs.Prelude.{◌&&◌, List, ℕ, ◌+◌, ◌*◌, ◌-◌, length, nat_le, nat_lt, if◌then◌else◌}
use Rattle.std.proofs.Math.Option as math
use Rattle.std.specs.declared.option.Option.{Option}
use Rattle.std.specs.declared.option.Option.TheVariants.{None, Some}
use Rattle.datatype.specs.Table.{row_words, rows_at}
use Rattle.unchecked_rows.specs.Siblings.{siblings}

-- The row behind the subtree of row `at`, which stands before row `end`: none where it does not, is not in the table or
-- has no rows in its subtree.
unfoldable pub behind_at : List ℕ → ℕ → ℕ → Option ℕ
behind_at table at end =
    let behind = if nat_le (row_words * (at + 1)) (length table) && nat_le 1 (rows_at table at) then Some (at + rows_at table at) else None in
    if nat_lt at end then behind else None

-- Word k of the rows that stand side by side from row `at` up to row `end`.
unfoldable pub beside : ℕ → List ℕ → ℕ → ℕ → math.Option (List ℕ)
beside k table at end = siblings (end - at) k table at end
