use Prim.Native.Nat.{◌+◌, ◌*◌}
use Rattle.datatype.specs.Kind.{shape_of}
use Rattle.display_length.proofs.TreeLaws.{Counting}
use Rattle.display_length.proofs.printed.PrintedNode.+lengths.Given as goal

-- the level falls from nested_length to type_length
abbrev pub decreases-nested_length : goal.decreases-nested_length
decreases-nested_length l = 2 * l.level

abbrev pub decreases-type_length : goal.decreases-type_length
decreases-type_length l = 2 * l.level + 1

abbrev pub invariant-nested_length-loop-node : goal.invariant-nested_length-loop-node
invariant-nested_length-loop-node l = Counting (shape_of l.kind) l.quotes l.level l.self l.total l.node-iterator
