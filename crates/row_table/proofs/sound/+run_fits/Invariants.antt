use mathlib.Core.Path.{◌≡◌}
use Prim.Native.Nat.{◌≤◌, ◌-◌}
use Rattle.unchecked_rows.specs.Internal.Run.{run_at}
use Rattle.row_table.specs.Internal.Check.{standing_of, run_fits}
use Rattle.row_table.proofs.sound.+run_fits.Given as goal

abbrev pub invariant-loop-at : goal.invariant-loop-at
invariant-loop-at g l = (l.at ≤ l.fn.run.end) × (run_fits l.text (standing_of l.standing) l.level (run_at (g.T.KeptRows.words l.fn.run.rows) l.fn.run.start (l.fn.run.end - l.fn.run.start)) ≡ run_fits l.text (standing_of l.standing) l.level (run_at (g.T.KeptRows.words l.fn.run.rows) l.at (l.fn.run.end - l.at)))

abbrev pub decreases-loop-at : goal.decreases-loop-at
decreases-loop-at g l = l.fn.run.end - l.at

abbrev pub decreases-run_fits : goal.decreases-run_fits
decreases-run_fits g l = l.level
