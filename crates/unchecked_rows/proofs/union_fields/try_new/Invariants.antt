use Prim.Native.Nat.{◌-◌}
use mathlib.Core.Path.{◌≡◌}
use Rattle.unchecked_rows.specs.UnionFields.{type_ids_fit}
use Rattle.unchecked_rows.specs.Internal.Ids.{left_fit}
use Rattle.unchecked_rows.proofs.union_fields.try_new.Given as goal

abbrev pub invariant-loop-at : goal.invariant-loop-at
invariant-loop-at g l = type_ids_fit (g.T.KeptRows.words l.rows) l.first l.end ≡ left_fit (g.T.KeptRows.words l.rows) l.seen l.at l.end

abbrev pub decreases-loop-at : goal.decreases-loop-at
decreases-loop-at g l = l.end - l.at
