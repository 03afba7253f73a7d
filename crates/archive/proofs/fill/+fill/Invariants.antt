use lib.ListN.{length}
use Rattle.archive.proofs.Filling.{Going}
use Rattle.archive.proofs.fill.+fill.Given as goal

abbrev pub decreases-fill : goal.decreases-fill
decreases-fill l = l.level

abbrev pub invariant-loop-rest : goal.invariant-loop-rest
invariant-loop-rest l = Going l.level l.fn.records l.fn.lent l.fn.packer l.rest l.room l.deep l.packer

abbrev pub decreases-loop-rest : goal.decreases-loop-rest
decreases-loop-rest l = length l.rest
