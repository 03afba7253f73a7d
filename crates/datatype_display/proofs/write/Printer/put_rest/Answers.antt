-- The laws take what was left before a piece, which the goals do not show.
use mathlib.Core.List.{[], ◌∷◌}
use native.Mathlib.Omega.{arith}
use Rattle.datatype_display.proofs.Escapes.{piece_fits, piece_left}
use Rattle.datatype_display.proofs.Writes.{left_fits, left_step, left_last}
use Rattle.datatype_display.proofs.write.Printer.put_rest.Goals as goal

pub put_piece-requires : goal.put_piece-requires
put_piece-requires c = piece_fits _ _ (34 ∷ []) 16 c.loop-piece.invariant c.in-Some.ensures.cases.0

pub loop-piece-preserved : goal.loop-piece-preserved
loop-piece-preserved c = piece_left _ _ (34 ∷ []) 16 c.loop-piece.invariant 15 (omega arith) c.in-Some.ensures.cases.0 c.in-Some.ensures.cases.1 c.put_piece.ensures

pub put_between-requires : goal.put_between-requires
put_between-requires c = left_fits (34 ∷ []) c.loop-piece.invariant

pub put_mark-requires : goal.put_mark-requires
put_mark-requires c = (left_step c.loop-piece.invariant c.put_between.ensures).fits

pub returns : goal.returns
returns c = left_last (left_step c.loop-piece.invariant c.put_between.ensures) c.put_mark.ensures
