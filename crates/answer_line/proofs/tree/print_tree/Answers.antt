-- By rules alone grind reaches its limits on the part of the answer that is put back.
use native.Mathlib.Omega.{arith}
use mathlib.Core.Path.{refl}
use Rattle.datatype_display.specs.Print.{default_spelling}
use Rattle.answer_line.proofs.Trees.{tree-refused, tree-printed}
use Rattle.answer_line.proofs.tree.print_tree.Goals as goal

pub returns-in-Err : goal.returns-in-Err
unfolding default_spelling
returns-in-Err c = tree-refused _ _ _ _ _ _ _ _ c.length-at.ensures c.told-out (omega arith) _ _ _ refl refl _ c.print_sound_tree.ensures.result_value c.print_sound_tree.ensures.out_after _ c.in-Err.is _ _ c.put_no.ensures

pub returns-in-Ok : goal.returns-in-Ok
unfolding default_spelling
returns-in-Ok c = tree-printed _ _ _ _ _ _ _ _ c.length-at.ensures c.told-out (omega arith) _ _ _ refl refl _ c.print_sound_tree.ensures.result_value c.print_sound_tree.ensures.out_after _ c.in-Ok.is _ _ c.frame.ensures
