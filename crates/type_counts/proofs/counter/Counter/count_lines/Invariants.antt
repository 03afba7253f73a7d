use Prim.Native.Nat.{◌-◌}
use lib.ListN.{length}
use Rattle.type_counts.proofs.Lines.{Reached}
use Rattle.type_counts.proofs.counter.Counter.count_lines.Given as goal

abbrev pub invariant-loop-from : goal.invariant-loop-from
invariant-loop-from l = Reached l.initial.self.tally l.input l.initial.place l.place l.self.tally

abbrev pub decreases-loop-from : goal.decreases-loop-from
decreases-loop-from l = length l.input - l.place.from
