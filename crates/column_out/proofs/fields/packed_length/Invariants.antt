use Rattle.std.proofs.Common.{◌≡◌, ◌+◌, ◌-◌, ◌*◌, ◌≤◌}
use Rattle.datatype.specs.Limits.{max_text}
use Rattle.column_out.specs.Internal.Stretch.{stretch_length}
use Rattle.column_out.proofs.fields.packed_length.Given as goal

-- With what is left to count it is the whole.
abbrev pub invariant-loop-i : goal.invariant-loop-i
invariant-loop-i l = record {
  whole : l.total + stretch_length l.tree.text.now l.tree.names.now l.tree.rows.now l.i (l.end - l.i) ≡ stretch_length l.tree.text.now l.tree.names.now l.tree.rows.now l.from (l.end - l.from);
  few : l.total ≤ 2 * max_text * (l.i - l.from);
}
