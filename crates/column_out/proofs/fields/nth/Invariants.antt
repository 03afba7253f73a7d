use Rattle.std.proofs.Common.{◌≡◌}
use Rattle.column_out.specs.Internal.Stretch.{nth_row}
use Rattle.column_out.proofs.fields.nth.Given as goal

-- The field is as many fields behind the next as are left.
abbrev pub invariant-loop-field : goal.invariant-loop-field
invariant-loop-field l = record {
  of : l.field-iterator.whole ≡ l.fields.whole;
  found : nth_row l.fields.whole.now.tree.rows.now l.field-iterator.start l.field-iterator.end l.left ≡ nth_row l.fields.whole.now.tree.rows.now l.fields.start l.fields.end l.n;
}
