use mathlib.Core.Path.{◌≡◌}
use Rattle.replay.specs.Sample.{times}
use Rattle.replay.specs.TableCase.{one_change}
use Rattle.replay.proofs.tables.cases_of.Given as goal

-- The table is what it was, and the cases so far are counted.
abbrev pub invariant-loop : goal.invariant-loop
invariant-loop l = (l.words ≡ l.initial.words) × (l.t ≡ times (one_change l.group.sample.now l.group.table l.initial.words l.group.other l.group.others.now) l.counter l.initial.t)
