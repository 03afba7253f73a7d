-- In a loop over nodes the law of what is left to write takes what the iterator gave, which the check does not hand it.
use native.Mathlib.Omega.{arith}
use Rattle.datatype.specs.Table.{word_at}
use Rattle.display_length.specs.Display.{mode_text}
use Rattle.datatype_display.proofs.Writes.{left_as, left_start, left_fits, left_step, left_last}
use Rattle.datatype_display.proofs.Texts.{struct_parts, union_parts, struct_start, field_level, struct_here, struct_again, struct_end, union_start, union_here, union_again, union_end}
use Rattle.datatype_display.proofs.write.Printer.+types.Goals as goal

pub put_struct-loop-node-init : goal.put_struct-loop-node-init
put_struct-loop-node-init t c =
    let b = c.children-node-items.ensures in
    rw c.into_iter-node-iterator.ensures.into_iter_gives
    (struct_start _ _ _ _ _ _ c.node.result c.node.ensures.whole c.node.ensures.at b.whole b.start b.end c.requires.0 (left_step (left_as (struct_parts _) (left_start c.requires.1)) c.put_mark.ensures))

pub put_struct-put_comma-requires : goal.put_struct-put_comma-requires
put_struct-put_comma-requires t c = left_fits _ (struct_here _ _ _ _ _ _ _ _ c.in-Some.ensures.steps c.below-field.result c.below-field.ensures.of c.below-field.ensures.at c.loop-node.invariant)

pub put_struct-put_field-requires : goal.put_struct-put_field-requires
put_struct-put_field-requires t c =
    let g = c.in-Some.ensures.steps in
    let b = c.below-field.ensures in
    (omega arith, (field_level _ _ _ _ _ _ _ _ g c.below-field.result b.of b.at _ c.loop-node.invariant, left_fits _ (left_step (struct_here _ _ _ _ _ _ _ _ g c.below-field.result b.of b.at c.loop-node.invariant) c.put_comma.ensures)))

pub put_struct-loop-node-preserved : goal.put_struct-loop-node-preserved
put_struct-loop-node-preserved t c = struct_again _ _ _ _ _ _ _ _ c.in-Some.ensures.steps c.below-field.result c.below-field.ensures.of c.below-field.ensures.at c.loop-node.invariant _ _ c.put_comma.ensures c.put_field.ensures

pub put_struct-returns : goal.put_struct-returns
put_struct-returns t c = left_last (struct_end _ _ _ _ _ _ _ c.loop-node.invariant c.in-None.ensures.steps.0) c.put_mark-2.ensures

pub put_union-loop-node-init : goal.put_union-loop-node-init
put_union-loop-node-init t c =
    let b = c.children-node-items.ensures in
    let n = c.args.printed.now in
    let mode = left_step {s = mode_text (word_at n.of.now.whole.tree.rows.now n.at 4)} (left_step (left_as (union_parts _) (left_start c.requires.1)) c.put_mark.ensures) (rw (← c.node.ensures.whole, ← c.node.ensures.at, ← c.row.ensures.rows, ← c.row.ensures.at, ← c.number.ensures, ← c.mode_word.ensures) c.put.ensures) in
    rw c.into_iter-node-iterator.ensures.into_iter_gives (union_start _ _ _ _ _ _ c.node-2.result c.node-2.ensures.whole c.node-2.ensures.at b.whole b.start b.end c.requires.0 mode)

pub put_union-put_union_field-requires : goal.put_union-put_union_field-requires
put_union-put_union_field-requires t c =
    let g = c.in-Some.ensures.steps in
    let b = c.below-field.ensures in
    (omega arith, (field_level _ _ _ _ _ _ _ _ g c.below-field.result b.of b.at _ c.loop-node.invariant, left_fits _ (union_here _ _ _ _ _ _ _ _ g c.below-field.result b.of b.at c.loop-node.invariant)))

pub put_union-loop-node-preserved : goal.put_union-loop-node-preserved
put_union-loop-node-preserved t c = union_again _ _ _ _ _ _ _ _ c.in-Some.ensures.steps c.below-field.result c.below-field.ensures.of c.below-field.ensures.at c.loop-node.invariant _ c.put_union_field.ensures

pub put_union-returns : goal.put_union-returns
put_union-returns t c = left_last (union_end _ _ _ _ _ _ c.loop-node.invariant c.in-None.ensures.steps.0) c.put_mark-2.ensures
