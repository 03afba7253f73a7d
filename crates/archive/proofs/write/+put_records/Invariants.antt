use Rattle.archive.proofs.Writing.{Putting}
use Rattle.archive.proofs.write.+put_records.Given as goal

abbrev pub decreases-put_records : goal.decreases-put_records
decreases-put_records l = l.level

abbrev pub invariant-loop-node : goal.invariant-loop-node
invariant-loop-node l = Putting l.level l.fn.writer l.fn.nodes l.writer l.node-iterator
