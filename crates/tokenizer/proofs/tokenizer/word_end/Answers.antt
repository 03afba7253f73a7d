use Rattle.std.proofs.Common.{rules, tests}
use Rattle.std.proofs.lemmas.Iterator.{YieldsList-from_slice}
use Rattle.std.proofs.lemmas.Iterator.Search.{position_from_yields_List}
use Rattle.tokenizer.specs.Token.{is_separator}
use Rattle.tokenizer.proofs.Runs.{word_found}
use Rattle.tokenizer.proofs.tokenizer.word_end.Goals as goal

pub returns : goal.returns
returns c =
    let part = c.in-Some.ensures.lookup.0 in
    let found = position_from_yields_List is_separator _ _ c.position.result c.position.ensures.ran (YieldsList-from_slice c.in-Some.rest.now cc) (λ x b q k. search (rules, tests)) in
    rw c.unwrap_or.ensures (word_found _ _ _ _ part.0 part.2 found)
