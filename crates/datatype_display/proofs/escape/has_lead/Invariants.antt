use Rattle.std.proofs.Common.{◌≡◌, ◌||◌, not}
use lib.ListN.{drop}
use Rattle.tokenizer.specs.Text.{all}
use Rattle.display_length.specs.Internal.Steps.{no_lead}
use Rattle.datatype_display.proofs.escape.has_lead.Given as goal

-- What was found, or is to be found among the bytes that are left.
abbrev pub invariant-loop-c : goal.invariant-loop-c
invariant-loop-c l = not (all no_lead l.piece) ≡ (l.found || not (all no_lead (drop l.c-index l.piece)))
