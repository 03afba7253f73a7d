-- The counts are read from the fields, and the contract speaks of the value that they are the view of.
use mathlib.Core.Path.{ap, ◌∙◌, subst}
use Prim.Native.Nat.{◌≤◌}
use lib.ListN.{length}
use Rattle.writer.specs.Written.{written}
use Rattle.tally.specs.Tally.{Counts, report}
use Rattle.tally.specs.Laws.{IsTally}
use Rattle.tally.proofs.Bounds.{bounded}
use Rattle.tally.proofs.OneMore.{seen}
use Rattle.tally.proofs.Reports.{report-written}
use Rattle.tally.proofs.Sizes.{report-fits}
use Rattle.tally.proofs.tally.Tally.write_report.Goals as goal

pub returns-clause-report : goal.returns-clause-report
returns-clause-report c =
    report-written _ _ _ _ _ _ (seen c.self.inside) c.put_line.ensures c.put_line-2.ensures c.put_lines.ensures c.put_lines-2.ensures c.put_line-3.ensures
    ∙ ap (λ (t : Counts). written c.args.writer.now (report t)) c.self.view_is

pub returns-clause-fits : goal.returns-clause-fits
returns-clause-fits c = subst (λ (t : Counts). length (report t) ≤ 1024) c.self.view_is (report-fits (seen c.self.inside) (bounded (seen c.self.inside) c.self.invariant))

pub returns-clause-counts : goal.returns-clause-counts
returns-clause-counts c = subst IsTally c.self.view_is c.self.invariant
