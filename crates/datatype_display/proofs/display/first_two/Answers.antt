-- The law takes both as they are printed, and not by what the iterator gave.
use Rattle.datatype_display.proofs.Children.{first-tree, second-tree, one-child, has-two}
use Rattle.datatype_display.proofs.display.first_two.Goals as goal

pub returns : goal.returns
returns c =
    let kids = c.children-children.ensures in
    let first = c.below.ensures in
    let second = c.below-2.ensures in
    has-two _ c.node.result c.node.ensures.whole c.node.ensures.at _ kids.whole kids.start kids.end _ _ c.next.ensures.steps _ c.in-Some.is c.below.result first.of first.at _ _ c.next-2.ensures.steps _ c.in-Some-next.is c.below-2.result second.of second.at

pub below-requires : goal.below-requires
below-requires c =
    let kids = c.children-children.ensures in
    first-tree c.args.parent.now c.node.result c.node.ensures.whole c.node.ensures.at _ kids.whole kids.start kids.end _ _ c.next.ensures.steps _ c.in-Some.is

pub below-requires-2 : goal.below-requires-2
below-requires-2 c =
    let kids = c.children-children.ensures in
    second-tree c.args.parent.now c.node.result c.node.ensures.whole c.node.ensures.at _ kids.whole kids.start kids.end _ _ c.next.ensures.steps _ c.in-Some.is _ _ c.next-2.ensures.steps _ c.in-Some-next.is

pub returns-in_default-next : goal.returns-in_default-next
returns-in_default-next c =
    let kids = c.children-children.ensures in
    one-child c.args.parent.now c.node.result c.node.ensures.whole c.node.ensures.at _ kids.whole kids.start kids.end _ _ c.next.ensures.steps _ c.in-Some.is _ _ c.next-2.ensures.steps c.in_default-next.is
