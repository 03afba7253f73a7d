-- The law takes the child as it is printed, and not by what the iterator gave.
use Rattle.datatype_display.proofs.Children.{first-tree, has-first}
use Rattle.datatype_display.proofs.display.first_child.Goals as goal

pub returns : goal.returns
returns c =
    let kids = c.children.ensures in
    let child = c.below.ensures in
    has-first _ c.node.result c.node.ensures.whole c.node.ensures.at _ kids.whole kids.start kids.end _ _ c.next.ensures.steps _ c.in-Some.is c.below.result child.of child.at

pub below-requires : goal.below-requires
below-requires c =
    let kids = c.children.ensures in
    first-tree c.args.parent.now c.node.result c.node.ensures.whole c.node.ensures.at _ kids.whole kids.start kids.end _ _ c.next.ensures.steps _ c.in-Some.is
