-- `FitsUnsignedBits` is an abbreviation by cases, which a search does not use as a premise.
use borrow.Author.Rules.{rules}
use Rattle.parser.proofs.ZoneLaws.{positive-large, positive-in}
use Rattle.parser.proofs.Parser.parse_unsigned.Goals as goal

pub returns-then-value-most : goal.returns-then-value-most
returns-then-value-most c = positive-large _ _ _ c.in_ok-number.ensures (search rules) _ _ c.in-Ok.ensures c.if-value-most.true _ c.make_error-then-value-most.ensures

pub returns : goal.returns
returns c = positive-in _ _ _ c.in_ok-number.ensures (search rules) _ _ c.in-Ok.ensures c.if-value-most.false
