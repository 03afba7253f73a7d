-- The law of an answer at the start takes the writer before it, which a search for its parts does not.
use mathlib.Core.Path.{refl}
use native.Mathlib.Omega.{arith}
use Rattle.answer_line.proofs.Writing.{line_answers, no_place_short}
use Rattle.parser.specs.Answer.{refusal_in}
use Rattle.answer_line.proofs.write.put_no_at.Goals as goal

pub returns : goal.returns
unfolding refusal_in
returns c = line_answers _ _ _ c.put_no_line.ensures refl (omega (arith, no_place_short c.args.error c.requires)) (omega arith)
