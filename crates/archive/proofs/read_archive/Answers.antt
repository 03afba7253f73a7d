use mathlib.Core.Path.{sym, ◌∙◌}
use native.Mathlib.Omega.{arith}
use Rattle.archive.proofs.Packing.{read-answer, cleared-rows, cleared-text, read-rows, read-text}
use Rattle.archive.proofs.ReadLaws.{none-read, law-read, law-more}
use Rattle.archive.proofs.read_archive.Goals as goal

pub returns-then-is_err-clause-answer : goal.returns-then-is_err-clause-answer
returns-then-is_err-clause-answer c = read-answer _ _ _ _ _ _ c.pack_sound-read.ensures

pub returns-then-is_err-clause-contents : goal.returns-then-is_err-clause-contents
returns-then-is_err-clause-contents c =
    cleared-rows _ _ _ _ _ _ c.pack_sound-read.ensures (sym c.is_err.ensures.value ∙ c.if-is_err.true) _ (c.fill.ensures.after (λ y h. h)) c.pack_sound-read.auto.rows

pub returns-then-is_err-clause-bytes : goal.returns-then-is_err-clause-bytes
returns-then-is_err-clause-bytes c =
    cleared-text _ _ _ _ _ _ c.pack_sound-read.ensures (sym c.is_err.ensures.value ∙ c.if-is_err.true) _ (c.fill-then-is_err.ensures.after (λ y h. h)) c.pack_sound-read.auto.text

pub returns-else-is_err-clause-answer : goal.returns-else-is_err-clause-answer
returns-else-is_err-clause-answer c = read-answer _ _ _ _ _ _ c.pack_sound-read.ensures

pub returns-else-is_err-clause-contents : goal.returns-else-is_err-clause-contents
returns-else-is_err-clause-contents c = read-rows _ _ _ _ _ _ c.pack_sound-read.ensures (sym c.is_err.ensures.value ∙ c.if-is_err.false)

pub returns-else-is_err-clause-bytes : goal.returns-else-is_err-clause-bytes
returns-else-is_err-clause-bytes c = read-text _ _ _ _ _ _ c.pack_sound-read.ensures (sym c.is_err.ensures.value ∙ c.if-is_err.false)

pub returns-then-is_err-clause-read : goal.returns-then-is_err-clause-read
returns-then-is_err-clause-read c = none-read c.args.image.now c.args.rows.now c.args.text.now _ _ (sym c.is_err.ensures.value ∙ c.if-is_err.true)

pub returns-then-is_err-clause-more_room : goal.returns-then-is_err-clause-more_room
returns-then-is_err-clause-more_room c = law-more _ _ _ _ _ _ c.pack_sound-read.ensures

pub returns-else-is_err-clause-read : goal.returns-else-is_err-clause-read
returns-else-is_err-clause-read c = law-read _ _ _ _ _ _ c.pack_sound-read.ensures (λ i. let h = c.type_inv.image i in omega arith)

pub returns-else-is_err-clause-more_room : goal.returns-else-is_err-clause-more_room
returns-else-is_err-clause-more_room c = law-more _ _ _ _ _ _ c.pack_sound-read.ensures
