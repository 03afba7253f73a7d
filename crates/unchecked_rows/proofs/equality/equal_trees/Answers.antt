-- std's law of `all` takes the closure's test, which the goal does not show: a law that concludes the goal is no shorter.
use Rattle.std.proofs.Common.{◌∙◌, refl, arith, rules, tests}
use Rattle.std.proofs.lemmas.Iterator.{YieldsList-from_range}
use Rattle.std.proofs.lemmas.Iterator.Search.{all_from_yields_List}
use Rattle.unchecked_rows.proofs.EqualLaws.{equal_at, trees_all}
use Rattle.unchecked_rows.proofs.equality.equal_trees.Goals as goal

pub returns-then-n-other : goal.returns-then-n-other
returns-then-n-other c =
    all_from_yields_List (equal_at c.args.one.text.now c.args.one.names.now c.args.other.text.now c.args.other.names.now c.args.one.rows.now c.args.other.rows.now) _ _ c.all.result c.all.ensures.ran (YieldsList-from_range 0 _ _ refl (omega arith)) (λ x r q k. search (rules, tests))
    ∙ trees_all _ _ _ _ _ _ c.if-n-other.true
