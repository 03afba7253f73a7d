-- The law of what a store leaves takes the printer before it, which a search for its parts does not.
use mathlib.Core.Path.{refl}
use native.Mathlib.Omega.{arith}
use borrow.Author.Rules.{rules}
use Rattle.writer.proofs.DigitLaws.{digits_stored}
use Rattle.datatype_display.proofs.Writes.{by_store}
use Rattle.datatype_display.proofs.write.Printer.put_number.Goals as goal

pub returns : goal.returns
returns c =
    let w = c.write_digits.ensures in
    by_store _ _ _ c.requires (digits_stored _ _ _ c.write_digits.result _ (search (rules, arith)) c.requires.room (omega arith) (rw (← c.digits_length.ensures) w.written) w.before) (omega arith) refl refl
