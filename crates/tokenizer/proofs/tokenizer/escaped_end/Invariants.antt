use mathlib.Core.Path.{◌≡◌}
use mathlib.Core.Bool.{false}
use Rattle.tokenizer.specs.Internal.Ends.{quote_end}
use Rattle.tokenizer.proofs.tokenizer.escaped_end.Given as goal

-- The loop keeps where the string ends, as seen from the place and the escape reached.
abbrev pub invariant-loop-at : goal.invariant-loop-at
invariant-loop-at l = quote_end l.text l.quote false l.from ≡ quote_end l.text l.quote l.escaped l.at
