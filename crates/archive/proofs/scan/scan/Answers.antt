use Rattle.std.proofs.Common.{refl, sym, arith}
use Rattle.archive.proofs.Chain.{scan-start, scan-pop, scan-push}
use Rattle.archive.proofs.scan.scan.Goals as goal

pub loop-deep-init : goal.loop-deep-init
loop-deep-init c = scan-start c.args.image.now _ c.args.start c.args.end c.args.lent c.requires.ordered c.requires.within c.requires.few refl refl

pub loop-deep-preserved-then-at-end : goal.loop-deep-preserved-then-at-end
loop-deep-preserved-then-at-end c = scan-pop _ _ _ _ _ _ c.loop-deep.invariant c.loop-deep-test.true (grind arith)

pub loop-deep-preserved : goal.loop-deep-preserved
loop-deep-preserved c = scan-push _ _ _ _ _ _ c.loop-deep.invariant c.loop-deep-test.true c.if-at-end.false c.in_ok-head.head (sym c.in_ok-head.ensures)
