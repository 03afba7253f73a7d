-- What the functions that count promise: whatever follows in the input, the counts at last stay the same.
use Rattle.std.specs.Prelude.{◌≡◌, Bool, false, List, [], ◌++◌, ℕ, ◌≤◌, ◌<◌, length, take, drop, Option, Result, Ok, Err}
use Rattle.std.specs.Io.KnownBytes.{Consumes, Keeps, IsAtEnd}
use Rattle.input_lines.specs.Ahead.{lines_ahead, lines_at, Partial}
use Rattle.input_lines.specs.declared.Place.{Place}
use Rattle.input_lines.specs.declared.failure.Failure.{Failure}
use Rattle.input_lines.specs.declared.failure.Failure.TheVariants.{Reading, Writing}
use Rattle.tally.specs.Tally.{Counts, tally, together, max_lines}
use Rattle.tally.specs.declared.NotCounted.{NotCounted}
use Rattle.type_counts.specs.declared.Left.{Left}
use Rattle.type_counts.specs.declared.Turn.{Turn}
use Rattle.type_counts.specs.declared.Turn.TheVariants.{MoreRead, Ended, TooManyLines}

-- The counts at last, with these lines still to come; with those from a place of what was read on, and what follows.
abbrev pub at_last : Counts → List (List ℕ) → Counts
at_last t ls = together t (tally ls)

unfoldable pub counts_at : Counts → List ℕ → Place → List ℕ → Counts
counts_at t input p rest = at_last t (lines_at input p rest)

-- No line has begun that is not counted, where so many are that no more are.
abbrev pub NoneBegun : Counts → Bool → List ℕ → Type 0
NoneBegun t skip left = max_lines ≤ t.lines → skip ≡ false → length left ≡ 0

-- ---- the lines in a buffer

-- What can be counted is counted: what is left is part of one line, or the rest of one that is counted.
pub record CountsTo (t : Counts) (input : List ℕ) (p : Place) (q : Place) (t' : Counts) : Type 0 where
  pub inside : q.from ≤ length input
  pub left : Partial (drop q.from input)
  pub begun : NoneBegun t' q.skip (drop q.from input)
  pub same : (rest : List ℕ) → counts_at t input p rest ≡ counts_at t' input q rest

-- A line more has begun than are counted.
abbrev pub Over : (List ℕ → Counts) → Type 0
Over counts = (rest : List ℕ) → max_lines < (counts rest).lines

abbrev pub CountsLines : Counts → List ℕ → Place → Result Place NotCounted → Counts → Type 0
CountsLines t input p (Ok q) t' = CountsTo t input p q t'
CountsLines t input p (Err e) t' = Over (counts_at t input p)

-- What is left at the end of the input is counted; or it is a line more than are counted.
abbrev pub LastMeans : Counts → List ℕ → Bool → Result (Unit {0}) NotCounted → Counts → Type 0
LastMeans t line skip (Ok u) t' = at_last t (lines_ahead skip line) ≡ at_last t' []
LastMeans t line skip (Err e) t' = Over (λ rest. at_last t (lines_ahead skip (line ++ rest)))

-- ---- a turn

-- The counts at last, where so many bytes are left in the buffer.
unfoldable pub ahead : Counts → List ℕ → Left → List ℕ → Counts
ahead t input left rest = at_last t (lines_ahead left.skip (take left.size input ++ rest))

-- What is left is part of one line, the buffer has room behind it, and no line has begun that is not counted.
pub record Waiting (t : Counts) (input : List ℕ) (left : Left) : Type 0 where
  pub room : left.size < length input
  pub part : Partial (take left.size input)
  pub begun : NoneBegun t left.skip (take left.size input)

-- Bytes were read, and what could be counted is counted.
pub record Reads (t : Counts) (input : List ℕ) (left : Left) (read : List ℕ) (t' : Counts) (input' : List ℕ) (left' : Left) : Type 0 where
  pub some : 0 < length read
  pub waits : Waiting t' input' left'
  pub same : (rest : List ℕ) → ahead t input left (read ++ rest) ≡ ahead t' input' left' rest

-- A turn reads once. More may follow; or the reader is at its end, and what was left is counted; or a line more has begun than
-- are counted.
abbrev pub TurnMeans : Counts → List ℕ → Left → Option (List ℕ) → Result Turn Failure → Counts → List ℕ → Option (List ℕ) → Type 0
TurnMeans t input left reader (Ok (MoreRead left')) t' input' reader' =
    (read : List ℕ) × Consumes reader reader' read × Reads t input left read t' input' left'
TurnMeans t input left reader (Ok Ended) t' input' reader' =
    Consumes reader reader' [] × IsAtEnd reader' × (ahead t input left [] ≡ at_last t' [])
TurnMeans t input left reader (Ok TooManyLines) t' input' reader' =
    (read : List ℕ) × Consumes reader reader' read × Over (λ rest. ahead t input left (read ++ rest))
TurnMeans t input left reader (Err (Reading e)) t' input' reader' = Keeps reader reader'
TurnMeans t input left reader (Err (Writing e)) t' input' reader' = ⊥
