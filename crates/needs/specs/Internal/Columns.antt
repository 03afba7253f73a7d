-- What the code's columns say. Contracts of private functions cite these; nothing here has to be believed, since no public
-- function's contract does.
use Rattle.std.specs.Prelude.{Option, Some, None, List}
use Rattle.datatype.specs.Tree.{roots, Label}
use Rattle.row_table.specs.Nodes.{label_in, labels_in}
use Rattle.row_table.specs.declared.nodes.Node.{Node}
use Rattle.row_table.specs.declared.nodes.Nodes.{Nodes}

-- Nodes side by side.
unfoldable pub columns_in : Nodes → List Label
columns_in nodes = roots (labels_in nodes)

-- A node, if there is one.
abbrev pub said : Option Node → Option Label
said None = None
said (Some column) = Some (label_in column)
