use Rattle.std.proofs.Common.{false, length, ◌++◌, ◌∷◌, []}
use Rattle.display_length.specs.Display.{escaped_from}
use Rattle.datatype_display.proofs.Writes.{Left}
use Rattle.datatype_display.proofs.write.Printer.put_rest.Given as goal

-- What is left is written behind what was.
abbrev pub invariant-loop-piece : goal.invariant-loop-piece
invariant-loop-piece l = Left l.initial.self (escaped_from false l.s ++ (34 ∷ [])) (escaped_from l.lead l.rest ++ (34 ∷ [])) l.self

abbrev pub decreases-loop-piece : goal.decreases-loop-piece
decreases-loop-piece l = length l.rest
