use Rattle.type_lines.proofs.Turns.{Runs}
use Rattle.input_lines.specs.Streams.{streams}
use Rattle.type_lines.proofs.run.Given as goal

abbrev pub invariant-loop : goal.invariant-loop
invariant-loop g l =
    Runs l.counter l.t l.input (streams (g.I.Read.remaining l.initial.stdin) (g.O.Write.contents l.initial.stdout))
    (streams (g.I.Read.remaining l.stdin) (g.O.Write.contents l.stdout))
