-- A stretch of a table's rows, packed row by row. Contracts of private functions cite these; nothing here has to be
-- believed, since no public function's contract does.
use Rattle.std.specs.Prelude.{Option, Some, None, List, ℕ, zero, suc, ◌+◌, length, nat_lt, if◌then◌else◌}
use Rattle.datatype.specs.Tree.{Label, label_of}
use Rattle.datatype.specs.Table.{rows_at, row_at}
use Rattle.packing.specs.Packed.{row_text}
use Rattle.packing.specs.Packer.{put_row}
use Rattle.packing.specs.declared.packer.Packer.{Packer}

-- The row at which the n-th of the trees begins that stand side by side from row at to row end: none where there is none.
unfoldable pub nth_row : List ℕ → ℕ → ℕ → ℕ → Option ℕ
nth_row table at end zero = if nat_lt at end then Some at else None
nth_row table at end (suc n) = if nat_lt at end then nth_row table (at + rows_at table at) end n else None

module _ (text names table : List ℕ) where
  -- What row i says.
  abbrev pub label_at : ℕ → Label
  label_at i = label_of text names (row_at table i)

  -- How many bytes n rows from row i on pack.
  unfoldable pub stretch_length : ℕ → ℕ → ℕ
  stretch_length i zero = 0
  stretch_length i (suc n) = length (row_text (label_at i)) + stretch_length (suc i) n

  -- What a packer holds when n rows from row i on are put, each over as many rows as before.
  unfoldable pub put_stretch : Packer → ℕ → ℕ → Packer
  put_stretch p i zero = p
  put_stretch p i (suc n) = put_stretch (put_row p (label_at i) (rows_at table i)) (suc i) n
