-- The law of what a store leaves takes the printer before it, which a search for its parts does not.
use mathlib.Core.Path.{refl}
use Rattle.datatype_display.proofs.Writes.{by_store, copied}
use Rattle.datatype_display.proofs.write.Printer.put_whole.Goals as goal

pub returns : goal.returns
returns c = by_store _ _ _ c.requires (copied _ _ _ _ c.requires.room c.copy_from_slice.ensures.after) refl refl refl
