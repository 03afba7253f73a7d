-- std's law of `position` takes the closure's test, which the goal does not show.
use Rattle.std.proofs.Common.{eqb, rules, tests}
use Rattle.std.proofs.lemmas.Iterator.{YieldsList-from_slice}
use Rattle.std.proofs.lemmas.Iterator.Search.{position_from_yields_List}
use Rattle.input_lines.proofs.Ends.{found_at}
use Rattle.input_lines.proofs.line_end.Goals as goal

pub returns : goal.returns
returns c =
    let part = c.in-Some.ensures.lookup.0 in
    let found = position_from_yields_List (λ b. eqb b 10) _ _ c.position.result c.position.ensures.ran (YieldsList-from_slice c.in-Some.rest.now cc) (λ x b q k. search (rules, tests)) in
    rw c.unwrap_or.ensures (found_at _ _ _ _ part.0 part.2 found)
