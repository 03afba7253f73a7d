use mathlib.Core.Path.{ap, ◌∙◌}
use Rattle.writer.specs.Written.{written}
use Rattle.archive.specs.Internal.Writes.{own_bytes}
use Rattle.archive.proofs.Writing.{written_two}
use Rattle.archive.proofs.write.put_own.Goals as goal

pub returns : goal.returns
unfolding own_bytes
returns c =
    written_two _ _ _ _ _
    (written_two _ _ _ _ _
    (written_two _ _ _ _ _
    (written_two _ _ _ _ _
    (written_two _ _ _ _ _
    (written_two _ _ _ _ _ c.put.ensures
    (c.put-2.ensures ∙ ap (written c.put.new.self) c.to_le_bytes.ensures))
    c.put-3.ensures)
    (c.put-4.ensures ∙ ap (written c.put-3.new.self) c.to_le_bytes-2.ensures))
    c.put_byte.ensures)
    c.put_string.ensures)
    c.put_string-2.ensures
