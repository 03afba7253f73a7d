-- How many levels rows have (document 01, 'The row table'), by their subtrees alone.
use Rattle.std.specs.Prelude.{List, ℕ, suc, min, nat_le, if◌then◌else◌}
use Rattle.std.proofs.Math.Option.{Option, none, some}
use Rattle.datatype.specs.Limits.{max_levels}
use Rattle.datatype.specs.Tree.{Forest, depth, Row}
use Rattle.datatype.specs.Table.{view_of}

-- How many levels a run of trees has, where it nests and has at most so many; one more than these else.
unfoldable pub levels_up_to : ℕ → Option (Forest Row) → ℕ
levels_up_to most none = suc most
levels_up_to most (some f) = min (depth f) (suc most)

-- How many levels the rows of a table have: 0 where they do not nest, or have more than 64.
unfoldable pub levels_of : List ℕ → ℕ
levels_of table = let n = levels_up_to max_levels (view_of table) in if nat_le n max_levels then n else 0
