use mathlib.Core.Path.{◌≡◌}
use lib.ListN.{drop}
use Rattle.tokenizer.specs.Internal.Digits.{kind_from}
use Rattle.tokenizer.proofs.number.number_kind.Given as goal

-- The digits that are left make the token of the number spelled so far.
abbrev pub invariant-loop-digit : goal.invariant-loop-digit
invariant-loop-digit l = kind_from l.negative 0 l.digits ≡ kind_from l.negative l.magnitude (drop l.digit-index l.digits)
