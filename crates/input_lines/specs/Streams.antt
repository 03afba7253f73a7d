-- What is read and written in pieces, of streams whose bytes are known: what a reader has left to give, and what a writer holds.
use Rattle.std.specs.Prelude.{◌≡◌, List, ◌++◌, ℕ, ◌-◌, ◌≤◌, ◌<◌, length, take, drop, Option, Result, Ok, Err}
use Rattle.std.specs.Io.KnownBytes.{Consumes, Keeps, Appends, IsAtEnd}
use Rattle.input_lines.specs.declared.failure.Failure.{Failure}
use Rattle.input_lines.specs.declared.failure.Failure.TheVariants.{Reading, Writing}

-- A part of a buffer at its front; behind that, nothing has changed.
unfoldable pub moved : List ℕ → ℕ → ℕ → List ℕ
moved bytes from to = let part = drop from (take to bytes) in part ++ drop (length part) bytes

-- The bytes left in a buffer are those that there were.
pub record Stays (input : List ℕ) (left : ℕ) (input' : List ℕ) : Type 0 where
  pub size : length input' ≡ length input
  pub kept : take left input' ≡ take left input

-- What was read stands behind the bytes left, and the reader has it no more. Where there was room for it, it is nothing only
-- at the reader's end.
pub record Gave (reader reader' : Option (List ℕ)) (input : List ℕ) (left n : ℕ) (input' : List ℕ) : Type 0 where
  pub stays : Stays input left input'
  pub fits : n ≤ length input - left
  pub gave : Consumes reader reader' (take n (drop left input'))
  pub ended : n ≡ 0 → left < length input → IsAtEnd reader'

-- A read that failed is told as one, and the reader has what it had.
abbrev pub ReadsBehind : Option (List ℕ) → Option (List ℕ) → List ℕ → ℕ → Result ℕ Failure → List ℕ → Type 0
ReadsBehind reader reader' input left (Ok n) input' = Gave reader reader' input left n input'
ReadsBehind reader reader' input left (Err (Reading e)) input' = Stays input left input' × Keeps reader reader'
ReadsBehind reader reader' input left (Err (Writing e)) input' = ⊥

-- The first of the bytes were written, and not all of them.
abbrev pub WritesPart : Option (List ℕ) → Option (List ℕ) → List ℕ → Type 0
WritesPart writer writer' bytes = (n : ℕ) × (n < length bytes) × Appends writer writer' (take n bytes)

-- A write that failed is told as one, and by then the bytes are not all written.
abbrev pub WritesOut : {A : Type 0} → Option (List ℕ) → Option (List ℕ) → List ℕ → Result A Failure → Type 0
WritesOut writer writer' bytes (Ok done) = Appends writer writer' bytes
WritesOut writer writer' bytes (Err (Writing e)) = WritesPart writer writer' bytes
WritesOut writer writer' bytes (Err (Reading e)) = ⊥

-- ---- what a program does to both

-- What is known of the two: the bytes that the reader has left to give, and those that the writer holds.
pub record Streams : Type 0 where
  pub reader : Option (List ℕ)
  pub writer : Option (List ℕ)

abbrev pub streams : Option (List ℕ) → Option (List ℕ) → Streams
streams reader writer = record { reader = reader; writer = writer }

-- The reader gave these bytes, and the writer gained those.
pub record Transfers (s s' : Streams) (read written : List ℕ) : Type 0 where
  pub gave : Consumes s.reader s'.reader read
  pub gained : Appends s.writer s'.writer written
