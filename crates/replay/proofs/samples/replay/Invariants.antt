use mathlib.Core.Path.{◌≡◌}
use Rattle.replay.specs.Sample.{times}
use Rattle.replay.proofs.samples.replay.Given as goal

-- The cases so far are counted.
abbrev pub invariant-loop : goal.invariant-loop
invariant-loop g l = l.t ≡ times (g.S.Sample.one_of l.sample) l.counter l.initial.t
