-- The laws take where the run ends, which the goals do not show.
use Rattle.datatype_display.proofs.Escapes.{quoted_rest, quoted_all}
use Rattle.datatype_display.proofs.write.Printer.put_quoted.Goals as goal

pub returns-then-n-s : goal.returns-then-n-s
returns-then-n-s c = quoted_rest c.requires c.put_short-n.ensures c.put_rest.ensures

pub returns-else-n-s : goal.returns-else-n-s
returns-else-n-s c = quoted_all c.requires c.put_short-n.ensures c.if-n-s.false
