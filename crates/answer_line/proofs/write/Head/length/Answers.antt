-- The law of what was written takes the writer before it, which a search for its parts does not.
use mathlib.Core.Path.{refl}
use Rattle.answer_line.proofs.Writing.{head_place}
use Rattle.answer_line.proofs.write.Head.length.Goals as goal

pub returns : goal.returns
returns c = head_place _ _ _ _ c.put.ensures refl c.args.self.now.few c.args.self.now.low
