use mathlib.Core.Path.{◌≡◌}
use lib.ListN.{drop}
use Rattle.needs.specs.Needs.{first_unmet}
use Rattle.needs.specs.Internal.Columns.{columns_in}
use Rattle.needs.proofs.first_unmet.Given as goal

abbrev pub invariant-loop-i : goal.invariant-loop-i
invariant-loop-i l =
    first_unmet l.text (columns_in l.columns) 0 l.needs ≡ first_unmet l.text (columns_in l.columns) l.i (drop l.i l.needs)
