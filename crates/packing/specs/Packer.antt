-- Rows packed one behind another, each with its name and its zone, into lent rows and a lent text: what a packer then holds.
use Rattle.std.specs.Prelude.{Bool, ◌&&◌, List, [], ◌∷◌, ℕ, ◌+◌, ◌*◌, ◌-◌, min, length, nat_lt, nat_le, if◌then◌else◌}
use Rattle.std.proofs.lemmas.List.Edits.{sets}
use Rattle.datatype.specs.Limits.{max_text}
use Rattle.datatype.specs.Tree.{Forest, ∅, node, count, Label}
use Rattle.datatype.specs.Table.{row_words, words_of, table_of, rows_lent}
use Rattle.unchecked_rows.specs.Parents.{parents_set}
use Rattle.packing.specs.declared.Packed.{Packed}
use Rattle.packing.specs.declared.packer.Packer.{Packer}
use Rattle.packing.specs.Packed.{row_text, packed_text, packed_row, packed_from, size_fits}

-- How many rows and bytes there is room for behind those that are packed: 1,024 rows and 16,384 bytes in all at the most.
unfoldable pub room_of : Packer → Packed
room_of p =
    record {
      rows = rows_lent (length p.rows.now) - p.packed.rows;
      bytes = min (length p.text.now) max_text - p.packed.bytes;
    }

-- The words of so many rows written behind the rows that are packed, bytes behind the text, and both: nothing else changes.
unfoldable pub with_words : Packer → ℕ → List ℕ → Packer
with_words p rows ws =
    record p {
      rows = record p.rows { now = sets p.rows.now (row_words * p.packed.rows) ws };
      packed = record { rows = p.packed.rows + rows; bytes = p.packed.bytes };
    }

unfoldable pub with_bytes : Packer → List ℕ → Packer
with_bytes p s =
    record p {
      text = record p.text { now = sets p.text.now p.packed.bytes s };
      packed = record { rows = p.packed.rows; bytes = p.packed.bytes + length s };
    }

unfoldable pub written : Packer → ℕ → List ℕ → List ℕ → Packer
written p rows ws s = with_bytes (with_words p rows ws) s

-- Whether a row has room, with its name and its zone.
unfoldable pub row_fits : Packer → Label → Bool
row_fits p l =
    let rows = p.packed.rows + 1 in
    let bytes = p.packed.bytes + length (row_text l) in
    size_fits (record { rows = rows; bytes = bytes }) (length p.rows.now) (length p.text.now)

-- One more row written, over a subtree of so many.
unfoldable pub row_written : Packer → Label → ℕ → Packer
row_written p l rows = written p 1 (words_of (packed_row p.packed.bytes l) rows) (row_text l)

-- The same where it has room: where it has none nothing changes.
unfoldable pub put_row : Packer → Label → ℕ → Packer
put_row p l rows = if row_fits p l then row_written p l rows else p

-- The subtree of a row that is packed set: it and all rows packed behind it.
unfoldable pub set_subtree : Packer → ℕ → Packer
set_subtree p row =
    let is_packed = nat_lt row p.packed.rows && nat_le p.packed.rows (rows_lent (length p.rows.now)) in
    let words = sets p.rows.now (row_words * row + 1) ((p.packed.rows - row) ∷ []) in
    if is_packed then record p { rows = record p.rows { now = words } } else p

-- The parents of all packed rows set: what is done last.
unfoldable pub set_parents : Packer → Packer
set_parents p =
    let first = min p.packed.rows (rows_lent (length p.rows.now)) in
    record p { rows = record p.rows { now = parents_set p.rows.now first } }

-- A run of trees put row by row: each row, then the rows below it, and then how many these are.
unfoldable pub put_trees : Packer → Forest Label → Packer
put_trees p ∅ = p
put_trees p (node l kids next) =
    let below = put_trees (put_row p l 0) kids in
    put_trees (set_subtree below p.packed.rows) next

-- ---- at once

-- A run of trees written behind what is packed.
unfoldable pub trees_written : Packer → Forest Label → Packer
trees_written p f = written p (count f) (table_of (packed_from p.packed.bytes f)) (packed_text f)

-- Whether a run has room.
unfoldable pub trees_fit : Packer → Forest Label → Bool
trees_fit p f =
    let rows = p.packed.rows + count f in
    let bytes = p.packed.bytes + length (packed_text f) in
    size_fits (record { rows = rows; bytes = bytes }) (length p.rows.now) (length p.text.now)
