use mathlib.Core.Path.{◌≡◌}
use lib.ListN.{drop}
use Rattle.layout.specs.Layout.{anything}
use Rattle.layout.specs.Internal.Scan.{asked_of, scan}
use Rattle.layout.proofs.broken_row.Given as goal

abbrev pub invariant-loop-i : goal.invariant-loop-i
invariant-loop-i l = scan anything 0 l.whole ≡ scan (asked_of l.asked) l.i (drop l.i l.whole)
