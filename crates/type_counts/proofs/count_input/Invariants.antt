use Rattle.type_counts.proofs.Turns.{Runs}
use Rattle.type_counts.proofs.count_input.Given as goal

abbrev pub invariant-loop : goal.invariant-loop
invariant-loop g l = Runs (g.I.Read.remaining l.initial.stdin) (g.I.Read.remaining l.stdin) l.counter l.left l.input l.counts.tally
