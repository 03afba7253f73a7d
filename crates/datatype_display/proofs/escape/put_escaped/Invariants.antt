use lib.ListN.{drop}
use Rattle.display_length.specs.Display.{escaped_from}
use Rattle.datatype_display.proofs.Escapes.{Ahead}
use Rattle.datatype_display.proofs.escape.put_escaped.Given as goal

-- The bytes that are not passed are left to write.
abbrev pub invariant-loop-c : goal.invariant-loop-c
invariant-loop-c l = Ahead l.initial.out l.at (escaped_from l.lead l.s) l.next l.out (escaped_from l.behind (drop l.c-index l.s))
