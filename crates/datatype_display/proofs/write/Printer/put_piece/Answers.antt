-- The laws take the printer before and the tests' answers, which the goals do not show.
use mathlib.Core.Path.{refl, sym, ◌∙◌}
use mathlib.Core.Bool.{false≢true}
use Rattle.datatype_display.proofs.Escapes.{itself_wrote}
use Rattle.datatype_display.proofs.Writes.{by_store}
use Rattle.datatype_display.proofs.write.Printer.put_piece.Goals as goal
use Rattle.datatype_display.proofs.write.Printer.put_piece.Goals.{then-has_escaped, else-has_escaped}

pub returns-then-lead : goal.returns-then-lead
returns-then-lead c = by_store _ _ _ c.requires c.put_escaped-self.ensures.is c.put_escaped-self.ensures.place refl refl

pub returns-else-has_lead : goal.returns-else-has_lead
returns-else-has_lead c =
    elim c.if-has_escaped.branch [
      | then-has_escaped w ↦ absurd (false≢true (sym c.if-has_lead.false ∙ w.value-is ∙ w.if-has_escaped.true))
      | else-has_escaped w ↦ itself_wrote c.if-lead.false c.has_escaped.ensures w.if-has_escaped.false w.has_lead.ensures (sym w.value-is ∙ c.if-has_lead.false) c.put_whole.ensures
    ]
