-- By rules alone the clause of the bytes reaches grind's limit of terms.
use Rattle.answer_line.proofs.Whole.{chunk-answers, with-room}
use mathlib.Core.Path.{refl}
use Rattle.answer_line.proofs.answer_line.Goals as goal

pub returns : goal.returns
returns c =
    let first = c.in_ok-first_chunk_mut.ensures.cases in
    let answer = chunk-answers _ _ _ _ _ _ _ first.enough first.same c.answer_in.ensures.room refl c.answer_in.ensures.answer in
    let all = with-room _ _ _ c.if-rows-lt-LINE_WORDS.false first.enough _ _ _ c.answer_in.ensures.contents answer in
    record { answer = all.0; contents = all.1.0; bytes = all.1.1 }
