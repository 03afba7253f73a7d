-- The goals ask for the bytes read, which nothing in them determines.
use Rattle.type_counts.proofs.Turns.{runs-on, all-over}
use Rattle.type_counts.proofs.count_input.Goals as goal

pub returns-in-TooManyLines : goal.returns-in-TooManyLines
returns-in-TooManyLines g c = let m = rw c.in-TooManyLines.is at c.in_ok-next.ensures in all-over _ _ _ _ _ _ c.loop.invariant _ c.take_turn.new.counter.tally c.take_turn.new.input m

pub loop-preserved : goal.loop-preserved
loop-preserved g c = let m = rw c.in-MoreRead.is at c.in_ok-next.ensures in runs-on _ _ _ _ _ _ c.loop.invariant _ _ _ _ m
