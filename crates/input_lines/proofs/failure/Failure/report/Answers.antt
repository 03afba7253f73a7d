-- What stands between is what each write left.
use Rattle.input_lines.proofs.Moving.{told}
use Rattle.input_lines.proofs.failure.Failure.report.Goals as goal

pub returns : goal.returns
returns g c = told _ _ _ _ _ _ _ _ c.in_ok-write_all.ensures.bytes _ c.in_ok-write_all-2.ensures.bytes c.call.ensures c.in_ok-put_reason.ensures c.write_all-3.ensures.bytes
