-- The laws take the sound tree that is made here, which the goals do not show.
use mathlib.Core.Path.{refl}
use native.Mathlib.Omega.{arith}
use Rattle.display_length.proofs.TreeLaws.{root-levels}
use Rattle.datatype_display.proofs.Writes.{same_output}
use Rattle.datatype_display.proofs.Prints.{root-fits, printed-bytes}
use Rattle.datatype_display.proofs.print_sound_tree.Goals as goal

pub put_type-requires : goal.put_type-requires
put_type-requires c = (root-levels c.root.result c.root.ensures.at, root-fits _ _ c.root.ensures.of c.root.ensures.at _ _ c.in_ok-length.ensures _ c.min-room.ensures c.if-room-length.false (omega arith) _ refl refl)

pub returns-clause-out_after : goal.returns-clause-out_after
returns-clause-out_after c = printed-bytes _ _ c.root.ensures.of c.root.ensures.at _ _ c.in_ok-length.ensures _ c.min-room.ensures c.if-room-length.false (omega arith) _ refl refl _ c.put_type.ensures _ (grind (arith, same_output c.put_type.ensures))
