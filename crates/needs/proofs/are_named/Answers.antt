-- std's law of `all` takes the closure's test, which the goal does not show.
use Rattle.std.proofs.Common.{◌∙◌, not, length, eqb, rules, tests}
use Rattle.std.proofs.lemmas.Iterator.{YieldsList-from_slice}
use Rattle.std.proofs.lemmas.Iterator.Search.{all_from_yields_List}
use Rattle.needs.specs.Needs.{need_name}
use Rattle.needs.proofs.NeedLaws.{named_all}
use Rattle.needs.proofs.are_named.Goals as goal

pub returns : goal.returns
returns c =
    all_from_yields_List (λ n. not (eqb (length (need_name c.args.text.now n)) 0)) _ _ c.all.result c.all.ensures.ran (YieldsList-from_slice _ c.iter.ensures.rest) (λ x r q k. search (rules, tests))
    ∙ named_all c.args.text.now c.args.needs.now
