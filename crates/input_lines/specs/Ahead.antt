-- The lines that are still to come of an input that is read piece by piece: whatever follows, they stay the same.
use Rattle.std.specs.Prelude.{◌≡◌, Bool, true, false, List, ◌∷◌, ◌++◌, ℕ, suc, ◌+◌, ◌-◌, ◌≤◌, ◌<◌, min, length, take, drop, nat_lt, if◌then◌else◌}
use Rattle.datatype.specs.Limits.{max_text}
use Rattle.input_lines.specs.Lines.{lines_of, before_newline, line_end}
use Rattle.input_lines.specs.declared.Place.{Place}
use Rattle.input_lines.specs.declared.NextLine.{NextLine}
use Rattle.input_lines.specs.declared.NextLine.TheVariants.{Whole, Long, Unfinished}

-- The lines of what comes next. The rest of a line that was taken already is skipped.
unfoldable pub lines_ahead : Bool → List ℕ → List (List ℕ)
lines_ahead false s = lines_of s
lines_ahead true s = lines_of (drop (suc (before_newline s)) s)

-- The same from a place of what was read, with what follows.
unfoldable pub lines_at : List ℕ → Place → List ℕ → List (List ℕ)
lines_at input p rest = lines_ahead p.skip (drop p.from input ++ rest)

-- Where a line begins, and where the rest of one is skipped.
abbrev pub begins : ℕ → Place
begins from = record { from = from; skip = false }

abbrev pub skips : ℕ → Place
skips from = record { from = from; skip = true }

-- What is left is part of one line, and not too long for a text.
pub record Partial (s : List ℕ) : Type 0 where
  pub one_line : before_newline s ≡ length s
  pub short : length s ≤ max_text

-- What comes next where a line begins: it is whole, or too long for a text, or what is left is part of it.
unfoldable pub line_from : List ℕ → ℕ → NextLine
line_from input start =
    let part = if nat_lt max_text (length input - start) then Long start else Unfinished (begins start) in
    if nat_lt (line_end input start) (length input) then Whole start (line_end input start) else part

-- The same at a place, where the rest of a line may have to be skipped first. Behind the input's end nothing is left.
unfoldable pub next_of : List ℕ → Place → NextLine
next_of input p =
    let from = min p.from (length input) in
    let behind = line_from input (line_end input from + 1) in
    let skipped = if nat_lt (line_end input from) (length input) then behind else Unfinished (skips (length input)) in
    if p.skip then skipped else line_from input from

-- What comes next, whatever follows: a whole line and what is behind its newline; a line that is too long, as it begins, and
-- the rest of it to be skipped; or only part of a line, or the rest of one that is skipped.
abbrev pub Comes : List ℕ → Place → NextLine → Type 0
Comes input p (Whole start end) =
    (p.from ≤ start) × (start ≤ end) × (end < length input)
    × ((rest : List ℕ) → lines_at input p rest ≡ take (end - start) (drop start input) ∷ lines_at input (begins (end + 1)) rest)
Comes input p (Long start) =
    (p.from ≤ start) × (max_text < length input - start)
    × ((rest : List ℕ) → lines_at input p rest ≡ (drop start input ++ take (before_newline rest) rest) ∷ lines_at input (skips (length input)) rest)
Comes input p (Unfinished q) =
    (q.from ≤ length input) × Partial (drop q.from input)
    × ((rest : List ℕ) → lines_at input p rest ≡ lines_at input q rest)
