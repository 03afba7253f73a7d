use mathlib.Core.Path.{◌≡◌}
use Rattle.datatype.specs.Tree.{roots}
use Rattle.display_length.specs.PrintedLength.{names_latin}
use Rattle.row_table.specs.Nodes.{labels_in}
use Rattle.display_length.proofs.latin.names_latin.Given as goal

-- no name so far tells that not all are Latin
abbrev pub invariant-loop-node : goal.invariant-loop-node
invariant-loop-node l = names_latin (roots (labels_in l.fn.nodes)) ≡ names_latin (roots (labels_in l.node-iterator))
