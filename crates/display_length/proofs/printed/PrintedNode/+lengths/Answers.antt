-- In a loop over nodes the laws take what the iterator gave, which the check does not hand them.
use mathlib.Core.Path.{refl, ap}
use native.Mathlib.Omega.{arith}
use Rattle.datatype.specs.Kind.{shape_of}
use Rattle.display_length.proofs.TreeLaws.{counting-start, counting-end, counting-next, child-levels}
use Rattle.display_length.proofs.printed.PrintedNode.+lengths.Goals as goal

pub nested_length-loop-node-init : goal.nested_length-loop-node-init
nested_length-loop-node-init t c =
    let kids = c.children-children.ensures in
    let own = c.own_length-total.ensures in
    rw c.into_iter-node-iterator.ensures.into_iter_gives
    (counting-start _ _ _ _ _ c.node.result c.node.ensures.whole c.node.ensures.at _ kids.whole kids.start kids.end c.requires (ap shape_of c.kind-kind.ensures) c.quotes_names-quotes.ensures own.value own.few)

pub nested_length-loop-node-preserved : goal.nested_length-loop-node-preserved
nested_length-loop-node-preserved t c =
    let around = c.around_length-around.ensures in
    let below = c.type_length-below.ensures in
    counting-next _ _ _ _ _ _ c.loop-node.invariant _ _ c.in-Some.ensures.steps c.with-child.result c.with-child.ensures.of c.with-child.ensures.at _ around.few _ below.few _ refl around.value below.value

pub nested_length-returns-clause-value : goal.nested_length-returns-clause-value
nested_length-returns-clause-value t c = counting-end _ _ _ _ _ _ c.loop-node.invariant c.in-None.ensures.steps.0

pub nested_length-type_length-below-requires : goal.nested_length-type_length-below-requires
nested_length-type_length-below-requires t c =
    let v = c.loop-node.invariant in
    let child = c.with-child.ensures in
    let l = child-levels _ _ v.of _ _ c.in-Some.ensures.steps c.with-child.result (ap (λ p. p.now.whole) child.of) child.at in
    let f = v.flat in
    (omega arith, omega arith)
