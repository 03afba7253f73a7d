-- The law takes what `read` answered, which the goal does not name.
use Rattle.input_lines.proofs.Moving.{gave-ok}
use native.Mathlib.Omega.{arith}
use Rattle.input_lines.proofs.streams.read_behind.Goals as goal

pub returns : goal.returns
returns g c = gave-ok _ _ _ _ _ _ c.min-start.ensures (omega (arith, c.read.auto.buf)) _ c.read.ensures.bound c.read.ensures.bytes _ _ c.map_err.ensures.cases _ c.in_ok-n.was
