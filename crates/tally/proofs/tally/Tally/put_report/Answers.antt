-- What is written is known by the writer as a whole.
use mathlib.Core.Path.{refl, sym}
use native.Mathlib.Omega.{arith}
use Rattle.tally.proofs.Reports.{same-lent, placed-size, placed-bytes}
use Rattle.tally.proofs.CountLaws.{counts_of_view}
use Rattle.tally.proofs.tally.Tally.put_report.Goals as goal

pub shape_of-out : goal.shape_of-out
shape_of-out c = sym (same-lent _ _ _ c.write_report.ensures.report)

pub returns-clause-answer : goal.returns-clause-answer
returns-clause-answer c = placed-size _ _ _ c.write_report.ensures.report refl (omega arith) c.write_report.ensures.fits

pub returns-clause-bytes : goal.returns-clause-bytes
returns-clause-bytes c = placed-bytes _ _ _ c.write_report.ensures.report refl (omega arith) c.write_report.ensures.fits

pub returns-clause-laws : goal.returns-clause-laws
returns-clause-laws c ls e = counts_of_view ls c.args.self.now e
