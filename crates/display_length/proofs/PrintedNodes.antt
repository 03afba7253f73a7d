-- Nodes of a tree that is printed: what is known of a node of the sound tree is known of it.
use mathlib.Core.Path.{◌≡◌, subst}
use Prim.Native.Nat.{◌+◌, ◌-◌, ◌≤◌}
use Rattle.datatype.specs.Table.{rows_at}
use Rattle.unchecked_rows.specs.Internal.Run.{Nests}
use Rattle.row_table.specs.declared.nodes.SoundTree.{SoundTree as Whole}
use Rattle.row_table.specs.declared.nodes.Node.{Node}

module _ (n : Node) (w : Whole) (same : n.whole.now ≡ w) where
  pub same-some : 1 ≤ rows_at w.tree.rows.now n.at
  same-some = subst (λ (v : Whole). 1 ≤ rows_at v.tree.rows.now n.at) same n.some_rows

  pub same-nests : Nests w.tree.rows.now (n.at + 1) (n.at + rows_at w.tree.rows.now n.at - (n.at + 1))
  same-nests = subst (λ (v : Whole). Nests v.tree.rows.now (n.at + 1) (n.at + rows_at v.tree.rows.now n.at - (n.at + 1))) same n.nests

-- what makes one of the other
pub ruleset same_steps = (same-some, same-nests)
