use mathlib.Core.Path.{◌≡◌}
use Rattle.tally.specs.Tally.{added}
use Rattle.tally.specs.Internal.Steps.{rows_by_kind}
use Rattle.tally.proofs.tally.count_kinds.Given as goal

abbrev pub invariant-loop-at : goal.invariant-loop-at
invariant-loop-at l = l.kinds ≡ added l.initial.kinds (rows_by_kind l.rows l.at)
