-- The limits of a tree (document 01): bytes of a text, rows and levels.
use Rattle.std.specs.Prelude.{ℕ}

abbrev pub max_text : ℕ
max_text = 16384

abbrev pub max_rows : ℕ
max_rows = 1024

abbrev pub max_levels : ℕ
max_levels = 64
