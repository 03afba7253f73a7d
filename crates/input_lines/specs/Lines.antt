-- The lines of an input (docs/SCOPE.md, 'The line program').
use Rattle.std.specs.Prelude.{List, [], ◌∷◌, ℕ, suc, ◌+◌, min, length, drop, nat_eq, if◌then◌else◌}

-- A last line without a newline counts unless it is empty.
abbrev pub longer : ℕ → List (List ℕ) → List (List ℕ)
longer c [] = (c ∷ []) ∷ []
longer c (l ∷ ls) = (c ∷ l) ∷ ls

unfoldable pub lines_of : List ℕ → List (List ℕ)
lines_of [] = []
lines_of (c ∷ s) = let rest = lines_of s in if nat_eq c 10 then [] ∷ rest else longer c rest

-- How many bytes stand before the first newline: all of them where there is none.
unfoldable pub before_newline : List ℕ → ℕ
before_newline [] = 0
before_newline (c ∷ s) = let more = suc (before_newline s) in if nat_eq c 10 then 0 else more

-- Where the line that begins at a place ends: at the first newline there or behind it, else at the end of the input.
unfoldable pub line_end : List ℕ → ℕ → ℕ
line_end input from = min (from + before_newline (drop from input)) (length input)
