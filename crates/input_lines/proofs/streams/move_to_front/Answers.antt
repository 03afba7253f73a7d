-- The law's conclusion does not show the places that were kept inside the buffer.
use Rattle.input_lines.proofs.Moving.{moved_is}
use Rattle.input_lines.proofs.streams.move_to_front.Goals as goal

pub returns-clause-bytes : goal.returns-clause-bytes
returns-clause-bytes c = moved_is _ _ _ _ _ c.min-end.ensures c.min-start.ensures _ c.copy_within.ensures.after
