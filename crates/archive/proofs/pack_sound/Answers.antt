use mathlib.Core.Path.{sym, ◌∙◌}
use native.Mathlib.Omega.{arith}
use Rattle.std.proofs.lemmas.List.{length-take-le}
use Rattle.archive.proofs.Filling.{handed-on}
use Rattle.archive.proofs.Packing.{sound-lost, few-rows, rows-within, bytes-within, not-sound, is-sound}
use Rattle.archive.proofs.pack_sound.Goals as goal

pub returns-in_err-packed : goal.returns-in_err-packed
returns-in_err-packed c = sound-lost _ _ _ _ _ _ c.pack.ensures _ _ _ _ c.in_err-packed.was (handed-on _ _ c.from_residual.ensures.1)

pub slice_bounds-tree-end : goal.slice_bounds-tree-end
slice_bounds-tree-end c = bytes-within _ _ _ _ _ _ c.pack.ensures _ c.in_ok-packed.was

pub slice_bounds-tree-end-2 : goal.slice_bounds-tree-end-2
slice_bounds-tree-end-2 c = sym (length-take-le _ _ (bytes-within _ _ _ _ _ _ c.pack.ensures _ c.in_ok-packed.was))

pub overflow_mul-tree : goal.overflow_mul-tree
overflow_mul-tree c = omega (arith, few-rows _ _ _ _ _ _ c.pack.ensures _ c.in_ok-packed.was)

pub slice_bounds-tree-end-4 : goal.slice_bounds-tree-end-4
slice_bounds-tree-end-4 c = rows-within _ _ _ _ _ _ c.pack.ensures _ c.in_ok-packed.was

pub slice_bounds-tree-end-5 : goal.slice_bounds-tree-end-5
slice_bounds-tree-end-5 c = sym (length-take-le _ _ (rows-within _ _ _ _ _ _ c.pack.ensures _ c.in_ok-packed.was))

pub returns-then-not-is_sound : goal.returns-then-not-is_sound
returns-then-not-is_sound c = not-sound _ _ _ _ _ _ c.pack.ensures _ c.in_ok-packed.was (sym c.is_sound.ensures ∙ c.if-not-is_sound.true) _ _

pub returns : goal.returns
returns c = is-sound _ _ _ _ _ _ c.pack.ensures _ c.in_ok-packed.was (sym c.is_sound.ensures ∙ c.if-not-is_sound.false)
