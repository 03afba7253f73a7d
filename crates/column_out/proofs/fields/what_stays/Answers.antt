-- The laws take the field's node, which the goals do not show.
use mathlib.Core.Path.{refl}
use Rattle.column_out.proofs.TakeLaws.{no-struct, no-field, stays-left}
use Rattle.column_out.proofs.fields.what_stays.Goals as goal

pub returns-in_default-fields : goal.returns-in_default-fields
returns-in_default-fields c = no-struct c.in-Some.whole _ c.in-Some.ensures.1 _ c.in_default-fields.ensures

pub returns-in_default-nth : goal.returns-in_default-nth
returns-in_default-nth c = no-field c.in-Some.whole _ c.in-Some.ensures.1 _ _ c.in-Some-fields.ensures c.in_default-nth.ensures

pub returns : goal.returns
returns c =
    stays-left c.in-Some.whole _ c.in-Some.ensures.1 _ _ c.in-Some-fields.ensures c.in-Some-nth.gone c.in-Some-nth.ensures _ c.subtree.ensures _ _ _
    refl refl refl c.packed_length-before.ensures.are c.packed_length-after.ensures.are refl
