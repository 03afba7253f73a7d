-- The goal asks for a history of turns, which nothing in it determines.
use Rattle.type_lines.proofs.Turns.{ran-ended, ran_out, ran-failed-as, ran-unwritten-as, runs_on}
use native.Mathlib.Omega.{arith}
use mathlib.Core.Path.{refl}
use Rattle.input_lines.specs.Streams.{streams}
use Rattle.type_lines.proofs.run.Goals as goal

pub returns-in_err-next : goal.returns-in_err-next
returns-in_err-next g c = ran-failed-as _ _ _ _ _ c.loop.invariant c.loop.output.bytes c.take_turn.new.input _ _ _ _ c.from_residual.ensures.1 c.in_err-next.ensures

pub returns-in_err-finish-in-Break : goal.returns-in_err-finish-in-Break
returns-in_err-finish-in-Break g c =
    let n = rw c.in-Break.is at c.in_ok-next.ensures in
    ran-unwritten-as _ _ _ _ _ c.loop.invariant _ _ _ _ _ n _ _ c.from_residual-in_err-finish-in-Break.ensures.1 _ (streams _ _) refl c.in_err-finish-in-Break.ensures

pub returns-in-Break : goal.returns-in-Break
returns-in-Break g c =
    let n = rw c.in-Break.is at c.in_ok-next.ensures in
    ran-ended _ _ _ _ _ c.loop.invariant _ _ _ _ _ n _ _ (streams _ _) refl c.in_ok-finish-in-Break.ensures

pub loop-preserved : goal.loop-preserved
loop-preserved g c = let n = rw c.in-Continue.is at c.in_ok-next.ensures in runs_on _ _ _ _ _ c.loop.invariant _ _ _ _ _ n

pub returns : goal.returns
returns g c = ran_out _ _ _ _ _ c.loop.invariant (omega (arith, c.loop-test.false, c.loop.auto.counter-end)) c.loop.output.bytes
