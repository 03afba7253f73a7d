-- The law of demand 3 takes both buffers, which its conclusion does not show.
use native.Mathlib.Omega.{arith}
use Rattle.std.proofs.lemmas.Grind.{common_steps}
use Rattle.datatype_display.specs.Print.{print, print_bytes}
use Rattle.round_trip.specs.PrintAndRead.{printed_and_read_means, print_and_read_answer, print_and_read_rows}
use Rattle.round_trip.proofs.PrintAndRead.{demand3}
use Rattle.print_and_read.proofs.print_and_read.Goals as goal

pub returns-in_default-clause-demand3 : goal.returns-in_default-clause-demand3
unfolding print print_bytes printed_and_read_means print_and_read_answer print_and_read_rows
returns-in_default-clause-demand3 c = demand3 _ _ _ _ c.args.out.now c.args.back.now _ _ _ (grind (arith, common_steps)) (grind (arith, common_steps)) (grind (arith, common_steps))
