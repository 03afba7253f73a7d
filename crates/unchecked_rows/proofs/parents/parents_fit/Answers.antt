-- std's law of `all` takes the closure's test, which the goal does not show.
use Rattle.std.proofs.Common.{◌≡◌, ◌∙◌, refl, arith, rules, tests}
use Rattle.std.proofs.lemmas.Iterator.{YieldsList-from_range}
use Rattle.std.proofs.lemmas.Iterator.Search.{all_from_yields_List}
use Rattle.datatype.specs.Table.{parent_word_at}
use Rattle.unchecked_rows.specs.Parents.{parent_at}
use Rattle.unchecked_rows.proofs.RangeCalls.{serves_after}
use Rattle.unchecked_rows.proofs.ParentSet.{has_parent, table_fit}
use Rattle.unchecked_rows.proofs.parents.parents_fit.Goals as goal

pub all-requires-clause-callable : goal.all-requires-clause-callable
all-requires-clause-callable g c = serves_after _ _ (λ k. parent_word_at (g.T.KeptRows.words c.args.rows) k ≡ parent_at (g.T.KeptRows.words c.args.rows) k) (λ k f h. search (rules, tests)) _ _ (λ k l h. search (rules, tests))

pub returns : goal.returns
returns g c = all_from_yields_List (has_parent (g.T.KeptRows.words c.args.rows)) _ _ c.all.result c.all.ensures.ran (YieldsList-from_range 0 _ _ refl (omega arith)) (λ x r q k. search (rules, tests)) ∙ table_fit (g.T.KeptRows.words c.args.rows)
