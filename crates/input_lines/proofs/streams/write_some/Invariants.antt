use Rattle.std.specs.Io.KnownBytes.{Keeps}
use Rattle.input_lines.proofs.streams.write_some.Given as goal

abbrev pub invariant-loop : goal.invariant-loop
invariant-loop g l = Keeps (g.O.Write.contents l.initial.stdout) (g.O.Write.contents l.stdout)
