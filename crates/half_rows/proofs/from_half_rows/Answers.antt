use Rattle.std.proofs.Common.{sym, ◌∙◌, ◌<◌, ℕ, length, arith}
use Rattle.std.proofs.lemmas.List.Elements.{All-from_get_or}
use Rattle.half_rows.proofs.BackLaws.{keeps-again_as, brings-sound_as}
use Rattle.half_rows.specs.HalfRows.{half}
use Rattle.half_rows.proofs.HalfLaws.{table-long}
use Rattle.half_rows.proofs.Keeping.{from-left, from-unsound, from-full, from-answer, from-words}
use Rattle.half_rows.proofs.from_half_rows.Goals as goal

pub returns-then-halves-count-clause-answer : goal.returns-then-halves-count-clause-answer
returns-then-halves-count-clause-answer c = sym (from-left _ _ _ c.args.rows.now c.if-halves-count.true).0

pub returns-then-halves-count-clause-contents : goal.returns-then-halves-count-clause-contents
returns-then-halves-count-clause-contents c = sym (from-left c.args.text.now c.args.names.now _ c.args.rows.now c.if-halves-count.true).1

pub returns-then-not-is_sound_table-clause-answer : goal.returns-then-not-is_sound_table-clause-answer
returns-then-not-is_sound_table-clause-answer c = sym (from-unsound _ _ _ c.args.rows.now c.if-halves-count.false (sym c.is_sound_table.ensures ∙ c.if-not-is_sound_table.true)).0

pub returns-then-not-is_sound_table-clause-contents : goal.returns-then-not-is_sound_table-clause-contents
returns-then-not-is_sound_table-clause-contents c = sym (from-unsound _ _ _ c.args.rows.now c.if-halves-count.false (sym c.is_sound_table.ensures ∙ c.if-not-is_sound_table.true)).1

pub returns-then-rows-count-clause-answer : goal.returns-then-rows-count-clause-answer
returns-then-rows-count-clause-answer c = sym (from-full _ _ _ c.args.rows.now c.if-halves-count.false (sym c.is_sound_table.ensures ∙ c.if-not-is_sound_table.false) c.if-rows-count.true).0

pub returns-then-rows-count-clause-contents : goal.returns-then-rows-count-clause-contents
returns-then-rows-count-clause-contents c = sym (from-full _ _ _ c.args.rows.now c.if-halves-count.false (sym c.is_sound_table.ensures ∙ c.if-not-is_sound_table.false) c.if-rows-count.true).1

pub put_words-requires-clause-there : goal.put_words-requires-clause-there
put_words-requires-clause-there c = omega (arith, table-long c.args.halves.now)

pub returns-clause-answer : goal.returns-clause-answer
returns-clause-answer c = sym (from-answer _ _ _ c.args.rows.now c.if-halves-count.false (sym c.is_sound_table.ensures ∙ c.if-not-is_sound_table.false) c.if-rows-count.false)

pub returns-clause-contents : goal.returns-clause-contents
returns-clause-contents c = c.put_words.ensures ∙ from-words _ _ _ c.args.rows.now c.if-halves-count.false (sym c.is_sound_table.ensures ∙ c.if-not-is_sound_table.false) c.if-rows-count.false

pub returns-clause-keeps_again : goal.returns-clause-keeps_again
returns-clause-keeps_again c =
    keeps-again_as c.args.text.now c.args.names.now c.args.halves.now c.args.rows.now _ c.put_words.new.rows (All-from_get_or (λ (x : ℕ). x < half) c.args.halves.now 0 (λ (i : ℕ) (h : i < length c.args.halves.now). (c.type_inv.halves i).fits))
    (sym (from-answer _ _ _ c.args.rows.now c.if-halves-count.false (sym c.is_sound_table.ensures ∙ c.if-not-is_sound_table.false) c.if-rows-count.false))
    (c.put_words.ensures ∙ from-words _ _ _ c.args.rows.now c.if-halves-count.false (sym c.is_sound_table.ensures ∙ c.if-not-is_sound_table.false) c.if-rows-count.false)

pub returns-then-halves-count-clause-brings_sound : goal.returns-then-halves-count-clause-brings_sound
returns-then-halves-count-clause-brings_sound c = brings-sound_as c.args.text.now c.args.names.now c.args.halves.now c.args.rows.now _ (returns-then-halves-count-clause-answer c)

pub returns-then-not-is_sound_table-clause-brings_sound : goal.returns-then-not-is_sound_table-clause-brings_sound
returns-then-not-is_sound_table-clause-brings_sound c = brings-sound_as c.args.text.now c.args.names.now c.args.halves.now c.args.rows.now _ (returns-then-not-is_sound_table-clause-answer c)

pub returns-then-rows-count-clause-brings_sound : goal.returns-then-rows-count-clause-brings_sound
returns-then-rows-count-clause-brings_sound c = brings-sound_as c.args.text.now c.args.names.now c.args.halves.now c.args.rows.now _ (returns-then-rows-count-clause-answer c)

pub returns-clause-brings_sound : goal.returns-clause-brings_sound
returns-clause-brings_sound c = brings-sound_as c.args.text.now c.args.names.now c.args.halves.now c.args.rows.now _ (returns-clause-answer c)
