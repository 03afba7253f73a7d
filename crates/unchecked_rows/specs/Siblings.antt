-- Rows that stand side by side in any table, sound or not: each behind the subtree of the one before.
use Rattle.std.specs.Prelude.{◌&&◌, List, [], ◌∷◌, ℕ, zero, suc, ◌+◌, ◌*◌, length, get_or, nat_le, if◌then◌else◌}
use Rattle.std.proofs.Math.Option.{Option, none, some, map}
use Rattle.datatype.specs.Table.{row_words, rows_at}

-- Word k of the rows that stand side by side from row `at` up to row `end`: none where one is not in the table, or has
-- no rows in its subtree. The first number only falls, and never runs out where it is at least the number of rows.
unfoldable pub siblings : ℕ → ℕ → List ℕ → ℕ → ℕ → Option (List ℕ)
siblings zero k table at end = if nat_le end at then some [] else none
siblings (suc f) k table at end =
    let size = rows_at table at in
    let later = map (λ ws. get_or table (row_words * at + k) 0 ∷ ws) (siblings f k table (at + size) end) in
    let one = if nat_le (row_words * (at + 1)) (length table) && nat_le 1 size then later else none in
    if nat_le end at then some [] else one
