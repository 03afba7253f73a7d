-- How many rows to lend for a text (document 02, [13]).
use Rattle.std.specs.Prelude.{ℕ, ◌+◌, ◌/◌, min}
use Rattle.datatype.specs.Limits.{max_rows}

-- The fewest bytes of a row: a leaf's word, of four bytes or more, and the mark behind it.
abbrev pub row_bytes : ℕ
row_bytes = 5

abbrev pub leaf_bytes : ℕ
leaf_bytes = 4

-- The fewest bytes of the word of any other type, as of `Map`; marks and children stand behind it.
abbrev pub word_bytes : ℕ
word_bytes = 3

-- For a text of so many bytes: a row for each five, where the text's last row needs no mark behind it. No text fills
-- more than 1,024.
unfoldable pub rows_to_lend : ℕ → ℕ
rows_to_lend bytes = min ((bytes + 1) / row_bytes) max_rows
