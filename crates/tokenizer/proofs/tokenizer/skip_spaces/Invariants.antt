use mathlib.Core.Path.{◌≡◌}
use Rattle.tokenizer.specs.Places.{after_spaces}
use Rattle.tokenizer.proofs.tokenizer.skip_spaces.Given as goal

-- The loop keeps where the spaces end, as seen from the place reached.
abbrev pub invariant-loop-at : goal.invariant-loop-at
invariant-loop-at l = after_spaces l.text l.from ≡ after_spaces l.text l.at
