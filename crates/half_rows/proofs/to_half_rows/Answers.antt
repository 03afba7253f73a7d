use Rattle.std.proofs.Common.{sym, subst, ◌∙◌, T}
use Rattle.half_rows.proofs.Keeping.{to-unsound, to-full, to-answer, to-words}
use Rattle.half_rows.proofs.BackLaws.{kept-alike, comes-back_as}
use Rattle.half_rows.proofs.SmallWords.{words-small}
use Rattle.half_rows.proofs.to_half_rows.Goals as goal

pub returns-then-not-is_sound-clause-answer : goal.returns-then-not-is_sound-clause-answer
returns-then-not-is_sound-clause-answer c = sym (to-unsound _ _ _ c.args.halves.now (sym c.is_sound.ensures ∙ c.if-not-is_sound.true)).0

pub returns-then-not-is_sound-clause-contents : goal.returns-then-not-is_sound-clause-contents
returns-then-not-is_sound-clause-contents c = sym (to-unsound _ _ _ c.args.halves.now (sym c.is_sound.ensures ∙ c.if-not-is_sound.true)).1

pub returns-then-halves-count-clause-answer : goal.returns-then-halves-count-clause-answer
returns-then-halves-count-clause-answer c = sym (to-full _ _ _ c.args.halves.now (sym c.is_sound.ensures ∙ c.if-not-is_sound.false) c.if-halves-count.true).0

pub returns-then-halves-count-clause-contents : goal.returns-then-halves-count-clause-contents
returns-then-halves-count-clause-contents c = sym (to-full _ _ _ c.args.halves.now (sym c.is_sound.ensures ∙ c.if-not-is_sound.false) c.if-halves-count.true).1

pub put_halves-requires-clause-small : goal.put_halves-requires-clause-small
put_halves-requires-clause-small c = words-small c.args.tree.text.now c.args.tree.names.now c.args.tree.rows.now (subst T (sym (sym c.is_sound.ensures ∙ c.if-not-is_sound.false)) tt)

pub returns-clause-answer : goal.returns-clause-answer
returns-clause-answer c = sym (to-answer _ _ _ c.args.halves.now (sym c.is_sound.ensures ∙ c.if-not-is_sound.false) c.if-halves-count.false)

pub returns-clause-contents : goal.returns-clause-contents
returns-clause-contents c = c.put_halves.ensures ∙ to-words _ _ _ c.args.halves.now (sym c.is_sound.ensures ∙ c.if-not-is_sound.false) c.if-halves-count.false

pub returns-then-halves-count-clause-kept_alike : goal.returns-then-halves-count-clause-kept_alike
returns-then-halves-count-clause-kept_alike c = kept-alike c.args.tree.text.now c.args.tree.names.now c.args.tree.rows.now

pub returns-clause-comes_back : goal.returns-clause-comes_back
returns-clause-comes_back c =
    comes-back_as c.args.tree.text.now c.args.tree.names.now c.args.tree.rows.now c.args.halves.now _ c.put_halves.new.halves
    (sym (to-answer _ _ _ c.args.halves.now (sym c.is_sound.ensures ∙ c.if-not-is_sound.false) c.if-halves-count.false))
    (c.put_halves.ensures ∙ to-words _ _ _ c.args.halves.now (sym c.is_sound.ensures ∙ c.if-not-is_sound.false) c.if-halves-count.false)

pub returns-clause-kept_alike : goal.returns-clause-kept_alike
returns-clause-kept_alike c = kept-alike c.args.tree.text.now c.args.tree.names.now c.args.tree.rows.now
