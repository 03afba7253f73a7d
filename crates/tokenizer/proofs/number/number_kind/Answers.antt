-- one digit more is spelled
use mathlib.Core.Path.{◌∙◌}
use native.Mathlib.Omega.{arith}
use Rattle.std.proofs.lemmas.Bool.Decides.{nat_tests}
use Rattle.tokenizer.specs.Token.{is_digit}
use Rattle.tokenizer.proofs.Numbers.{kind-go}
use Rattle.tokenizer.proofs.number.number_kind.Goals as goal

pub loop-digit-preserved : goal.loop-digit-preserved
unfolding is_digit
loop-digit-preserved c = c.loop-digit.invariant ∙ kind-go _ _ _ _ c.loop-digit-test.true (grind (arith, nat_tests, c.is_ascii_digit.ensures, c.if-not-is_ascii_digit.false))
