-- The levels of the rows that nodes stand for: what walks over them count down.
use Rattle.std.specs.Prelude.{List, ℕ, ◌+◌, ◌-◌}
use Rattle.datatype.specs.Tree.{Forest, depth, Row}
use Rattle.datatype.specs.Table.{rows_at}
use Rattle.unchecked_rows.specs.Rows.{forest_at}
use Rattle.row_table.specs.declared.nodes.Node.{Node}
use Rattle.row_table.specs.declared.nodes.Nodes.{Nodes}

-- How many levels stand below row i.
abbrev pub depth_below : List ℕ → ℕ → ℕ
depth_below table i = depth (forest_at table (i + 1) (i + rows_at table i - (i + 1)))

-- How many stand below a node.
abbrev pub levels_below : Node → ℕ
levels_below n = depth_below n.whole.now.tree.rows.now n.at

-- The rows of nodes side by side, with those below them.
abbrev pub rows_in : Nodes → Forest Row
rows_in ns = forest_at ns.whole.now.tree.rows.now ns.start (ns.end - ns.start)
