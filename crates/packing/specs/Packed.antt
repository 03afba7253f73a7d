-- Names and zones packed into a text of their own (docs/SCOPE.md, 'Columns taken out'): row order, name
-- before zone, home 1 for each name.
use Rattle.std.specs.Prelude.{Bool, ◌&&◌, List, [], ◌∷◌, ◌++◌, ℕ, ◌+◌, min, length, drop, nat_le}
use Rattle.tokenizer.specs.Answer.{Out, refused, done}
use Rattle.datatype.specs.Limits.{max_text}
use Rattle.datatype.specs.Tree.{Forest, ∅, node, count, Row, Label}
use Rattle.datatype.specs.Table.{table_of, rows_lent}
use Rattle.unchecked_rows.specs.Parents.{parented}
use Rattle.packing.specs.declared.Packed.{Packed}

-- What a row packs: its name and then its zone.
abbrev pub row_text : Label → List ℕ
row_text l = l.name ++ l.zone

-- The packed text of a run of trees, in the order of its rows.
unfoldable pub packed_text : Forest Label → List ℕ
packed_text ∅ = []
packed_text (node l kids next) = row_text l ++ (packed_text kids ++ packed_text next)

-- A word of a name or a zone: 0 where there is none.
abbrev pub if_any : List ℕ → ℕ → ℕ
if_any [] n = 0
if_any (b ∷ s) n = n

-- The row of a label whose name and zone stand at a place of the text.
unfoldable pub packed_row : ℕ → Label → Row
packed_row at l =
    record {
      kind = l.kind;
      role = l.role;
      union_id = l.union_id;
      number = l.number;
      scale = l.scale;
      home = if_any l.name 1;
      name_start = if_any l.name at;
      name_length = length l.name;
      zone_start = if_any l.zone (at + length l.name);
      zone_length = length l.zone;
      parent = 0;
    }

-- The rows of a run of trees whose packed text begins at a place of the text.
unfoldable pub packed_from : ℕ → Forest Label → Forest Row
packed_from at ∅ = ∅
packed_from at (node l kids next) =
    let below = at + length (row_text l) in
    node (packed_row at l) (packed_from below kids) (packed_from (below + length (packed_text kids)) next)

-- The rows of a tree over its packed text.
unfoldable pub packed : Forest Label → Forest Row
packed f = parented (packed_from 0 f)

-- The sum of the lengths of names and zones: the packed length (`packed-length` in proofs/PackedLaws.antt).
abbrev pub sum_of_lengths : Forest Label → ℕ
sum_of_lengths ∅ = 0
sum_of_lengths (node l kids next) = length l.name + length l.zone + sum_of_lengths kids + sum_of_lengths next

-- ---- lent rows and a lent text

-- How many rows a packed tree has, and how long its packed text is.
abbrev pub packed_size : Forest Label → Packed
packed_size f = record { rows = count f; bytes = length (packed_text f) }

-- So many rows and bytes have room in lent rows of so many words and in a lent text of so many bytes, of which 16,384 count.
unfoldable pub size_fits : Packed → ℕ → ℕ → Bool
size_fits size words bytes = nat_le size.rows (rows_lent words) && nat_le size.bytes (min bytes max_text)

-- What lent rows hold when a tree is packed into them: its rows, and past them what they held before.
unfoldable pub packed_rows : Forest Label → List ℕ → List ℕ
packed_rows f before = table_of (packed f) ++ drop (length (table_of (packed f))) before

-- What the lent text then holds.
unfoldable pub packed_bytes : Forest Label → List ℕ → List ℕ
packed_bytes f before = packed_text f ++ drop (length (packed_text f)) before

-- ---- the answer

-- How much was packed, or the refusal.
abbrev pub size_by : Out (Forest Label) → Out Packed
size_by (refused r) = refused r
size_by (done f) = done (packed_size f)

-- The same as two numbers, each 0 where it was refused.
unfoldable pub rows_answered : Out Packed → ℕ
rows_answered (refused r) = 0
rows_answered (done size) = size.rows

unfoldable pub bytes_answered : Out Packed → ℕ
bytes_answered (refused r) = 0
bytes_answered (done size) = size.bytes
