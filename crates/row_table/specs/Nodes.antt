-- What the nodes of a sound tree say, and what the iterator over them gives.
use Rattle.std.specs.Prelude.{◌≡◌, ◌+◌, ◌-◌}
use Rattle.std.specs.declared.option.Option.{Option}
use Rattle.std.specs.declared.option.Option.TheVariants.{None, Some}
use Rattle.datatype.specs.Tree.{Forest, Label, label_of, labels}
use Rattle.datatype.specs.Table.{rows_at}
use Rattle.datatype.specs.Table.{row_at}
use Rattle.unchecked_rows.specs.Rows.{forest_at}
use Rattle.row_table.specs.declared.nodes.Node.{Node}
use Rattle.row_table.specs.declared.nodes.Nodes.{Nodes}

-- ---- what they say

-- A node's row.
abbrev pub label_in : Node → Label
label_in n = label_of n.whole.now.tree.text.now n.whole.now.tree.names.now (row_at n.whole.now.tree.rows.now n.at)

-- The rows below it.
abbrev pub children_in : Node → Forest Label
children_in n =
    let table = n.whole.now.tree.rows.now in
    labels n.whole.now.tree.text.now n.whole.now.tree.names.now (forest_at table (n.at + 1) (n.at + rows_at table n.at - (n.at + 1)))

-- Nodes side by side, with the rows below them.
abbrev pub labels_in : Nodes → Forest Label
labels_in ns =
    labels ns.whole.now.tree.text.now ns.whole.now.tree.names.now (forest_at ns.whole.now.tree.rows.now ns.start (ns.end - ns.start))

-- ---- the iterator

-- The first of nodes side by side, and those that are left, which begin behind the rows below it.
pub record IsFirst (ns : Nodes) (n : Node) (left : Nodes) : Type 0 where
  pub of : n.whole ≡ ns.whole
  pub at : n.at ≡ ns.start
  pub of_left : left.whole ≡ ns.whole
  pub start : left.start ≡ n.at + rows_at n.whole.now.tree.rows.now n.at
  pub end : left.end ≡ ns.end

-- The first, or none where they are at their end, and then they stay there.
abbrev pub GivesNode : Nodes → Option Node → Nodes → Type 0
GivesNode ns None left = (ns.start ≡ ns.end) × (left ≡ ns)
GivesNode ns (Some n) left = IsFirst ns n left
