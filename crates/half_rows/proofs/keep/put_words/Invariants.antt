use Rattle.std.proofs.Common.{◌≡◌, ◌*◌, take}
use Rattle.std.proofs.lemmas.List.Edits.{sets}
use Rattle.datatype.specs.Table.{row_words}
use Rattle.half_rows.specs.HalfRows.{unhalved}
use Rattle.half_rows.proofs.keep.put_words.Given as goal

-- The rows before stand as words.
abbrev pub invariant-loop-i : goal.invariant-loop-i
invariant-loop-i l = l.rows ≡ sets l.initial.rows 0 (take (row_words * l.i) (unhalved l.halves.halves.now))
