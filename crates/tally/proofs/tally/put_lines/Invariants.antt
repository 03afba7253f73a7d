use Rattle.tally.proofs.Reports.{Reached}
use Rattle.tally.proofs.tally.put_lines.Given as goal

abbrev pub invariant-loop-n : goal.invariant-loop-n
invariant-loop-n l = Reached l.initial.writer l.word l.initial.number l.counts l.n-index l.number l.writer
