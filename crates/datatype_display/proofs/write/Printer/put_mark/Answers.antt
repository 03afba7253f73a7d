-- The law of what a store leaves takes the printer before it, which a search for its parts does not.
use mathlib.Core.Path.{refl}
use Rattle.datatype_display.proofs.Writes.{by_store}
use Rattle.datatype_display.proofs.write.Printer.put_mark.Goals as goal

pub returns : goal.returns
returns c = by_store _ _ _ c.requires c.store_byte-self.ensures.is c.store_byte-self.ensures.place refl refl
