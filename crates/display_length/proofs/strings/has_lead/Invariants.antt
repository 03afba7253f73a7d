use mathlib.Core.Path.{◌≡◌}
use mathlib.Core.Bool.{not, ◌||◌}
use lib.ListN.{drop}
use Rattle.tokenizer.specs.Text.{all}
use Rattle.display_length.specs.Internal.Steps.{no_lead}
use Rattle.display_length.proofs.strings.has_lead.Given as goal

-- what was found and what is left tell of all
abbrev pub invariant-loop-c : goal.invariant-loop-c
invariant-loop-c l = not (all no_lead l.s) ≡ (l.found || not (all no_lead (drop l.c-index l.s)))
