-- The goals ask for the bytes read, which nothing in them determines.
use Rattle.type_counts.proofs.Endings.{ran-printed, ran-part-as}
use Rattle.type_counts.proofs.run.Goals as goal

pub returns-in_err-print : goal.returns-in_err-print
returns-in_err-print g c =
    let p = rw c.in-Some.is at c.in_ok-printed.ensures in
    ran-part-as _ _ _ c.in_err-print.ensures.0 _ _ _ p _ _ c.from_residual-in_err-print.ensures.1 c.in_err-print.ensures.1

pub returns-in_ok-print : goal.returns-in_ok-print
returns-in_ok-print g c =
    let p = rw c.in-Some.is at c.in_ok-printed.ensures in
    ran-printed _ _ _ c.in_ok-print.ensures.0 _ _ _ p _ c.in_ok-print.ensures.1
