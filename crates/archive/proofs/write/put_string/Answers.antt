use mathlib.Core.Path.{ap, ◌∙◌}
use Rattle.writer.specs.Written.{written}
use Rattle.archive.proofs.Writing.{written_two}
use Rattle.archive.proofs.write.put_string.Goals as goal

pub returns : goal.returns
returns c = written_two _ _ _ _ _ (c.put.ensures ∙ ap (written c.args.writer.now) c.to_le_bytes.ensures) c.put-2.ensures
