use native.Mathlib.Omega.{arith}
use Rattle.row_table.proofs.NodeLaws.{level-some, level-below}
use Rattle.archive.proofs.Writing.{said-in, putting-small, putting-kids, putting-few, putting-place, putting-next, putting-end}
use Rattle.archive.proofs.write.+put_records.Goals as goal

pub put_own-requires : goal.put_own-requires
put_own-requires t c =
    putting-small _ _ _ _ _ c.loop-node.invariant _ _ c.in-Some.ensures.steps _ (said-in c.in-Some.node _ _ _ c.label.ensures c.row.ensures.rows c.row.ensures.at)

pub overflow_sub-level : goal.overflow_sub-level
overflow_sub-level t c = level-some _ _ _ c.next.ensures.steps _ c.in-Some.is _ c.loop-node.invariant.flat

pub put_records-requires : goal.put_records-requires
put_records-requires t c =
    let s = level-some _ _ _ c.next.ensures.steps _ c.in-Some.is _ c.loop-node.invariant.flat in
    let kids = c.children.ensures in
    let said = said-in c.in-Some.node _ _ _ c.label.ensures c.row.ensures.rows c.row.ensures.at in (
      omega arith,
      (
        level-below _ _ _ c.next.ensures.steps _ c.in-Some.is _ c.loop-node.invariant.flat c.children.result kids.whole kids.start kids.end,
        (
          putting-kids _ _ _ _ _ c.loop-node.invariant _ _ c.in-Some.ensures.steps c.children.result kids.whole kids.start kids.end,
          putting-few _ _ _ _ _ c.loop-node.invariant _ _ c.in-Some.ensures.steps c.children.result kids.whole kids.start kids.end _ said _ c.put_own.ensures,
        ),
      ),
    )

pub put_record_length-requires-clause-before : goal.put_record_length-requires-clause-before
put_record_length-requires-clause-before t c =
    let kids = c.children.ensures in
    let said = said-in c.in-Some.node _ _ _ c.label.ensures c.row.ensures.rows c.row.ensures.at in
    (putting-place _ _ _ _ _ c.loop-node.invariant _ _ c.in-Some.ensures.steps c.children.result kids.whole kids.start kids.end _ said _ c.put_own.ensures _ c.put_records.ensures).0

pub put_record_length-requires-clause-few : goal.put_record_length-requires-clause-few
put_record_length-requires-clause-few t c =
    let kids = c.children.ensures in
    let said = said-in c.in-Some.node _ _ _ c.label.ensures c.row.ensures.rows c.row.ensures.at in
    (putting-place _ _ _ _ _ c.loop-node.invariant _ _ c.in-Some.ensures.steps c.children.result kids.whole kids.start kids.end _ said _ c.put_own.ensures _ c.put_records.ensures).1

pub loop-node-preserved : goal.loop-node-preserved
loop-node-preserved t c =
    let kids = c.children.ensures in
    let said = said-in c.in-Some.node _ _ _ c.label.ensures c.row.ensures.rows c.row.ensures.at in
    putting-next _ _ _ _ _ c.loop-node.invariant _ _ c.in-Some.ensures.steps c.children.result kids.whole kids.start kids.end _ said _ c.put_own.ensures _ c.put_records.ensures _ c.put_record_length.ensures

pub returns : goal.returns
returns t c = putting-end _ _ _ _ _ c.loop-node.invariant c.in-None.ensures.steps.0
