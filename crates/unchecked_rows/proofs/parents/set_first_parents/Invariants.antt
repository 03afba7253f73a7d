use mathlib.Core.Path.{◌≡◌}
use Rattle.unchecked_rows.specs.Parents.{parents_set}
use Rattle.unchecked_rows.proofs.parents.set_first_parents.Given as goal

abbrev pub invariant-loop-i : goal.invariant-loop-i
invariant-loop-i l = l.rows ≡ parents_set l.initial.rows l.i
