-- What the nodes of a tree that is printed say, and how long their types are.
use Rattle.std.specs.Prelude.{ℕ, ◌+◌, ◌-◌}
use Rattle.datatype.specs.Tree.{Forest, Label, label_of, labels}
use Rattle.datatype.specs.Table.{row_at, rows_at}
use Rattle.unchecked_rows.specs.Rows.{forest_at}
use Rattle.row_table.specs.Internal.Nodes.{depth_below}
use Rattle.display_length.specs.declared.printed.PrintedNode.{PrintedNode}
use Rattle.display_length.specs.Internal.Steps.{type_length}

-- What a node's row says, what the rows below it say, and how many levels these have.
abbrev pub label_in : PrintedNode → Label
label_in p = label_of p.of.now.whole.tree.text.now p.of.now.whole.tree.names.now (row_at p.of.now.whole.tree.rows.now p.at)

abbrev pub children_in : PrintedNode → Forest Label
children_in p =
    let table = p.of.now.whole.tree.rows.now in
    labels p.of.now.whole.tree.text.now p.of.now.whole.tree.names.now (forest_at table (p.at + 1) (p.at + rows_at table p.at - (p.at + 1)))

abbrev pub levels_below : PrintedNode → ℕ
levels_below p = depth_below p.of.now.whole.tree.rows.now p.at

-- How long its type is.
unfoldable pub length_in : PrintedNode → ℕ
length_in p = type_length p.of.now.spelling (label_in p) (children_in p)
