-- std's law of `all` takes the closure's test, which the goal does not show.
use mathlib.Core.Path.{◌∙◌}
use lib.Dec.{eqb}
use Rattle.std.proofs.Common.{rules, tests}
use Rattle.std.proofs.lemmas.Iterator.{YieldsList-from_slice}
use Rattle.std.proofs.lemmas.Iterator.Search.{all_from_yields_List}
use Rattle.replay.proofs.Steps.{list_all_is}
use Rattle.replay.proofs.prints.all_are.Goals as goal

pub returns : goal.returns
returns c =
    all_from_yields_List (eqb c.args.value) _ _ c.all.result c.all.ensures.ran (YieldsList-from_slice c.args.bytes.now cc) (λ x b q k. search (rules, tests))
    ∙ list_all_is (eqb c.args.value) c.args.bytes.now
