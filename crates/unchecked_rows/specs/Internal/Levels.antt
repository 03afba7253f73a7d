-- How the code counts levels, in a stretch of rows. Contracts of private functions cite this; nothing here has to be
-- believed, since no public function's contract does.
use Rattle.std.specs.Prelude.{List, ℕ, suc, ◌-◌}
use Rattle.std.specs.declared.option.Option.{Option}
use Rattle.std.specs.declared.option.Option.TheVariants.{None, Some}
use Rattle.unchecked_rows.specs.Levels.{levels_up_to}
use Rattle.unchecked_rows.specs.Internal.Run.{run_at}

-- How many levels the rows from row `at` up to row `end` have, where they nest and have at most so many; one more than
-- these else.
unfoldable pub levels_in : ℕ → List ℕ → ℕ → ℕ → ℕ
levels_in most table at end = levels_up_to most (run_at table at (end - at))

-- Levels that were found; one more than are allowed where there are more, or the rows do not nest.
abbrev pub levels_or : ℕ → Option ℕ → ℕ
levels_or most None = suc most
levels_or most (Some n) = n
