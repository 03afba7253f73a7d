use Rattle.std.proofs.Common.{◌≡◌, ◌-◌}
use Rattle.column_out.specs.Internal.Stretch.{put_stretch}
use Rattle.column_out.proofs.pack.put_rows.Given as goal

-- With the rows that are left the stretch is whole.
abbrev pub invariant-loop-i : goal.invariant-loop-i
invariant-loop-i l =
    put_stretch l.tree.text.now l.tree.names.now l.tree.rows.now l.packer l.i (l.end - l.i)
    ≡ put_stretch l.tree.text.now l.tree.names.now l.tree.rows.now l.initial.packer l.from (l.end - l.from)
