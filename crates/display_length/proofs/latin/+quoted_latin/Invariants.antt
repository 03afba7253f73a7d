use mathlib.Core.Path.{◌≡◌}
use Prim.Native.Nat.{◌≤◌}
use Rattle.datatype.specs.Tree.{depth}
use Rattle.display_length.specs.PrintedLength.{quoted_latin}
use Rattle.row_table.specs.Nodes.{labels_in}
use Rattle.row_table.specs.Internal.Nodes.{rows_in}
use Rattle.display_length.proofs.latin.+quoted_latin.Given as goal

abbrev pub invariant-loop-node : goal.invariant-loop-node
invariant-loop-node l =
    record {
      flat : depth (rows_in l.node-iterator) ≤ l.level;
      so : quoted_latin (labels_in l.fn.nodes) ≡ quoted_latin (labels_in l.node-iterator);
    }

abbrev pub decreases-quoted_latin : goal.decreases-quoted_latin
decreases-quoted_latin l = l.level
