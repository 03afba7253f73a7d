use mathlib.Core.Path.{◌≡◌}
use mathlib.Core.Bool.{false}
use Rattle.tokenizer.specs.Internal.Ends.{quote_end}
use Rattle.tokenizer.proofs.tokenizer.quote_end.Given as goal

-- The loop keeps where the string ends, as seen from the place reached.
abbrev pub invariant-loop-at : goal.invariant-loop-at
invariant-loop-at l = quote_end l.text l.quote false l.from ≡ quote_end l.text l.quote false l.at
