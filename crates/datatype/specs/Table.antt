-- The row table: twelve words a row, parent first (document 01, 'The row table').
use Rattle.std.specs.Prelude.{◌&&◌, List, [], ◌∷◌, ◌++◌, ℕ, zero, suc, ◌+◌, ◌*◌, ◌-◌, ◌/◌, min, length, take, drop, get_or, nat_le, if◌then◌else◌}
use Rattle.std.proofs.Math.Option.{Option, none, some}
use Rattle.datatype.specs.Limits.{max_rows}
use Rattle.datatype.specs.Tree.{Forest, ∅, node, count, Row, Label, labels}

-- How many words a row has.
abbrev pub row_words : ℕ
row_words = 12

-- The words of a row whose subtree has so many rows, itself included.
unfoldable pub words_of : Row → ℕ → List ℕ
words_of r rows =
    r.kind ∷ rows ∷ r.role ∷ r.union_id ∷ r.number ∷ r.scale ∷ r.home ∷ r.name_start ∷ r.name_length ∷ r.zone_start ∷ r.zone_length ∷ r.parent ∷ []

-- The row that a list of words begins with.
unfoldable pub row_of : List ℕ → Row
row_of ws =
    record {
      kind = get_or ws 0 0;
      role = get_or ws 2 0;
      union_id = get_or ws 3 0;
      number = get_or ws 4 0;
      scale = get_or ws 5 0;
      home = get_or ws 6 0;
      name_start = get_or ws 7 0;
      name_length = get_or ws 8 0;
      zone_start = get_or ws 9 0;
      zone_length = get_or ws 10 0;
      parent = get_or ws 11 0;
    }

-- The rows in the subtree of the row that a list of words begins with: its word 1.
abbrev pub rows_word : List ℕ → ℕ
rows_word ws = get_or ws 1 0

-- The table of a run of trees.
unfoldable pub table_of : Forest Row → List ℕ
table_of ∅ = []
table_of (node r kids next) = words_of r (suc (count kids)) ++ (table_of kids ++ table_of next)

abbrev pub join : Row → Option (Forest Row) → Option (Forest Row) → Option (Forest Row)
join r none next = none
join r (some kids) none = none
join r (some kids) (some next) = some (node r kids next)

-- The run of trees that a table holds, if its subtrees nest exactly: each lies within its parent's, and no words are
-- left over. The first number only falls, and never runs out where it is at least the table's length.
unfoldable pub view_with : ℕ → List ℕ → Option (Forest Row)
view_with zero [] = some ∅
view_with zero (w ∷ ws) = none
view_with (suc f) [] = some ∅
view_with (suc f) (w ∷ ws) =
    let rows = rows_word (w ∷ ws) in
    let behind = drop row_words (w ∷ ws) in
    let below = view_with f (take (row_words * (rows - 1)) behind) in
    let beyond = view_with f (drop (row_words * (rows - 1)) behind) in
    let nested = join (row_of (w ∷ ws)) below beyond in
    if nat_le 1 rows && nat_le (row_words * rows) (length (w ∷ ws)) then nested else none

unfoldable pub view_of : List ℕ → Option (Forest Row)
view_of table = view_with (length table) table

-- What a table over a text and a name list says; nothing where it does not nest.
abbrev pub view_labels : List ℕ → List ℕ → Option (Forest Row) → Forest Label
view_labels text names none = ∅
view_labels text names (some f) = labels text names f

unfoldable pub tree_of : List ℕ → List ℕ → List ℕ → Forest Label
tree_of text names table = view_labels text names (view_of table)

-- How many rows a lent buffer of so many words holds: whole rows, and 1,024 at the most.
unfoldable pub rows_lent : ℕ → ℕ
rows_lent words = min (words / row_words) max_rows

-- Word k of row i of a table.
abbrev pub word_at : List ℕ → ℕ → ℕ → ℕ
word_at table i k = get_or table (row_words * i + k) 0

-- Word 1 of row i of a table: the rows in its subtree.
abbrev pub rows_at : List ℕ → ℕ → ℕ
rows_at table i = get_or table (row_words * i + 1) 0

-- Row i of a table, by its words.
unfoldable pub row_at : List ℕ → ℕ → Row
row_at table i =
    record {
      kind = word_at table i 0;
      role = word_at table i 2;
      union_id = word_at table i 3;
      number = word_at table i 4;
      scale = word_at table i 5;
      home = word_at table i 6;
      name_start = word_at table i 7;
      name_length = word_at table i 8;
      zone_start = word_at table i 9;
      zone_length = word_at table i 10;
      parent = word_at table i 11;
    }

-- Word 11 of row i: its parent.
abbrev pub parent_word_at : List ℕ → ℕ → ℕ
parent_word_at table i = get_or table (row_words * i + 11) 0
