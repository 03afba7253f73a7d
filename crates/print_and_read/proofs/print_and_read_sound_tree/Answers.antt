-- The law of demand 3 takes both buffers, which its conclusion does not show.
use native.Mathlib.Omega.{arith}
use Rattle.std.proofs.lemmas.Grind.{common_steps}
use Rattle.datatype_display.specs.Print.{print_answer, print_bytes}
use Rattle.round_trip.specs.PrintAndRead.{printed_and_read_means, print_and_read_answer, print_and_read_rows}
use Rattle.round_trip.proofs.PrintAndRead.{demand3}
use Rattle.print_and_read.proofs.print_and_read_sound_tree.Goals as goal

pub returns-in_err-bytes-clause-demand3 : goal.returns-in_err-bytes-clause-demand3
unfolding print_answer print_bytes printed_and_read_means print_and_read_answer print_and_read_rows
returns-in_err-bytes-clause-demand3 c = demand3 _ _ _ _ c.args.out.now c.args.back.now _ _ _ (grind (arith, common_steps)) (grind (arith, common_steps)) (grind (arith, common_steps))

pub returns-in_err-rows-clause-demand3 : goal.returns-in_err-rows-clause-demand3
unfolding print_answer print_bytes printed_and_read_means print_and_read_answer print_and_read_rows
returns-in_err-rows-clause-demand3 c = demand3 _ _ _ _ c.args.out.now c.args.back.now _ _ _ (grind (arith, common_steps)) (grind (arith, common_steps)) (grind (arith, common_steps))

pub returns-clause-demand3 : goal.returns-clause-demand3
unfolding print_answer print_bytes printed_and_read_means print_and_read_answer print_and_read_rows
returns-clause-demand3 c = demand3 _ _ _ _ c.args.out.now c.args.back.now _ _ _ (grind (arith, common_steps)) (grind (arith, common_steps)) (grind (arith, common_steps))
