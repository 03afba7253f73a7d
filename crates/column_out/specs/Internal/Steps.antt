-- What the private functions promise; nothing here has to be believed, since no public function's contract cites it.
use Rattle.std.specs.Prelude.{◌≡◌, true, List, ℕ, ◌-◌, ◌/◌, ◌≤◌, length}
use Rattle.tokenizer.specs.Answer.{done}
use Rattle.datatype.specs.Limits.{max_rows}
use Rattle.datatype.specs.Tree.{Forest, Label}
use Rattle.datatype.specs.Table.{row_words}
use Rattle.packing.specs.Packed.{packed_size}
use Rattle.packing.specs.Packer.{put_row, trees_written, trees_fit}
use Rattle.packing.specs.declared.packer.Packer.{Packer}
use Rattle.column_out.specs.declared.fields.Kept.{Kept}
use Rattle.column_out.specs.ColumnOut.{tree_left}
use Rattle.column_out.specs.Internal.Stretch.{label_at, put_stretch}

-- How many rows a table has.
abbrev pub rows_in : List ℕ → ℕ
rows_in table = length table / row_words

-- What stays of a tree without a field, packed: the root, the rows before the field and the rows behind it.
pub record Stays (text names table : List ℕ) (n : ℕ) (kept : Kept) : Type 0 where
  pub left : Forest Label
  pub is : tree_left text names table n ≡ done left
  pub size : kept.packed ≡ packed_size left
  pub few : kept.packed.rows ≤ max_rows
  pub some-rows : 1 ≤ kept.first
  pub ordered : kept.first ≤ kept.end
  pub within : kept.end ≤ rows_in table
  pub put : (p : Packer) → trees_fit p left ≡ true
      → put_stretch text names table (put_stretch text names table (put_row p (label_at text names table 0) kept.packed.rows) 1 (kept.first - 1)) kept.end (rows_in table - kept.end) ≡ trees_written p left
