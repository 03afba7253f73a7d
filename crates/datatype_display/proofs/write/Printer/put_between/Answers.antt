-- The laws take the printer before and where the run ends, which the goals do not show.
use mathlib.Core.Path.{refl}
use Rattle.datatype_display.proofs.Escapes.{ran_then}
use Rattle.datatype_display.proofs.Writes.{by_store}
use Rattle.datatype_display.proofs.write.Printer.put_between.Goals as goal

pub returns-then-lead : goal.returns-then-lead
returns-then-lead c = by_store _ _ _ c.requires c.put_escaped-self.ensures.is c.put_escaped-self.ensures.place refl refl

pub returns-else-lead : goal.returns-else-lead
returns-else-lead c =
    let w = ran_then _ _ _ _ _ _ c.if-lead.false c.put_run-n.ensures _ _ c.put_escaped-self-else-lead.ensures in
    by_store _ _ _ c.requires w.is w.place refl refl
