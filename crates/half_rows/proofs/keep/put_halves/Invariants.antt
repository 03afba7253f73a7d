use Rattle.std.proofs.Common.{◌≡◌}
use Rattle.std.proofs.lemmas.List.Edits.{sets}
use Rattle.half_rows.specs.HalfRows.{halved_rows}
use Rattle.half_rows.proofs.keep.put_halves.Given as goal

-- The rows before stand in halves.
abbrev pub invariant-loop-i : goal.invariant-loop-i
invariant-loop-i l = l.halves ≡ sets l.initial.halves 0 (halved_rows l.i l.rows)
