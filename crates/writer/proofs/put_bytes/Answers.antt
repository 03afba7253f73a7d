-- the loop has written as many bytes as there is room for
use native.Mathlib.Omega.{arith}
use Rattle.writer.proofs.Writes.{sets_all}
use Rattle.writer.proofs.put_bytes.Goals as goal

pub returns-after-loop-i : goal.returns-after-loop-i
returns-after-loop-i c = sets_all _ _ c.loop-i.i _ _ c.loop-i.invariant c.if-at-out.true (omega (arith, c.min-i-end.ensures, c.loop-i.auto.i-end, c.loop-i-test.false))
