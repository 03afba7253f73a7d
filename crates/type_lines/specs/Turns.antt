-- What a turn of the program promises, and all of them together: which bytes of its buffers were read and written, what that
-- did to the streams, and how the turns are tied to one another.
use Rattle.std.specs.Prelude.{◌≡◌, Bool, false, List, [], ◌++◌, ℕ, suc, ◌+◌, ◌-◌, ◌≤◌, ◌<◌, length, take, drop, Option, Some, None, Result, Ok, Err}
use Rattle.type_lines.specs.Run.{output_from, Unfinished, Behind}
use Rattle.type_lines.specs.declared.Turn.{Turn}
use Rattle.std.specs.declared.ops.ControlFlow.{ControlFlow}
use Rattle.std.specs.declared.ops.ControlFlow.TheVariants.{Continue, Break}
use Rattle.std.specs.Io.KnownBytes.{Consumes, Keeps, Appends, IsAtEnd}
use Rattle.input_lines.specs.declared.failure.Failure.{Failure}
use Rattle.input_lines.specs.declared.failure.Failure.TheVariants.{Reading, Writing}
use Rattle.answer_line.specs.Line.{output}
use Rattle.input_lines.specs.Streams.{Streams, Transfers}
use Rattle.type_lines.specs.Streams.{ReadFails, WriteFails, Answered}

-- ---- a turn

-- The bytes that it wrote, and those that it read.
abbrev pub written_in : Turn → List ℕ → List ℕ
written_in t out = take t.written out

abbrev pub read_in : Turn → List ℕ → List ℕ
read_in t input = drop (t.filled - t.read) (take t.filled input)

-- The bytes of the input that it left in the buffer.
abbrev pub left_in : Turn → List ℕ → List ℕ
left_in t input = take (t.filled - t.read) input

-- What is still to be printed: for the bytes from the place on, and for what follows them.
unfoldable pub ahead : Turn → List ℕ → List ℕ → List ℕ
ahead t input rest = output_from t.skip (drop t.from (take t.filled input) ++ rest)

-- The place lies in the bytes read, and these in the buffer.
pub record Running (input : List ℕ) (t : Turn) : Type 0 where
  pub fits : t.filled ≤ length input
  pub place : t.from ≤ t.filled

-- From one turn to the next. Whatever follows in the input, what was written and what is still to be printed stay the
-- same; the bytes left are those that there were, but for some at the front; and before it reads, no line waits.
pub record Turned (t : Turn) (input out : List ℕ) (t' : Turn) (input' out' : List ℕ) : Type 0 where
  pub same : (rest : List ℕ) → ahead t input (read_in t' input' ++ rest) ≡ written_in t' out' ++ ahead t' input' rest
  pub behind : Behind out 0 t'.written out'
  pub gone : ℕ
  pub left : left_in t' input' ≡ drop gone (take t.filled input)
  pub waits : 0 < t'.read → Unfinished (left_in t' input')
  pub reads : t'.read ≤ t'.filled
  pub fits : t'.filled ≤ length input'
  pub place : t'.from ≤ t'.filled

-- After a turn there is another, if bytes were read or written; or the reader is at its end, and a last line is left. Where
-- a call failed, nothing was read.
abbrev pub GoesOn : Turn → List ℕ → List ℕ → Streams → Result (ControlFlow Turn Turn) Failure
    → List ℕ → List ℕ → Streams → Type 0
GoesOn t input out s (Ok (Continue t')) input' out' s' =
    Turned t input out t' input' out' × (0 < t'.read + t'.written)
    × Transfers s s' (read_in t' input') (written_in t' out')
GoesOn t input out s (Ok (Break t')) input' out' s' =
    Turned t input out t' input' out' × (t'.read ≡ 0) × (t'.from ≡ 0) × Unfinished (take t'.filled input')
    × Transfers s s' [] (written_in t' out') × IsAtEnd s'.reader
GoesOn t input out s (Err (Reading e)) input' out' s' =
    Keeps s.reader s'.reader × ReadFails (ahead t input) s.writer s'.writer
GoesOn t input out s (Err (Writing e)) input' out' s' =
    Keeps s.reader s'.reader × WriteFails (ahead t input []) s.writer s'.writer

-- ---- its parts

-- What was read stands behind the bytes left; skipping and the bytes written are handed on.
pub record Reads (input : List ℕ) (left : ℕ) (skip : Bool) (wrote : ℕ) (t : Turn) (input' : List ℕ) : Type 0 where
  pub is : t ≡ record { filled = left + t.read; from = 0; skip = skip; written = wrote; read = t.read }
  pub fits : t.filled ≤ length input'
  pub kept : take left input' ≡ take left input

abbrev pub ReadOn : Result (ControlFlow Turn Turn) Failure → List ℕ → ℕ → Bool → ℕ → List ℕ
    → Option (List ℕ) → Option (List ℕ) → Type 0
ReadOn (Ok (Continue t)) input left skip wrote input' reader reader' =
    Reads input left skip wrote t input' × (0 < t.read)
    × Consumes reader reader' (take t.read (drop left input'))
ReadOn (Ok (Break t)) input left skip wrote input' reader reader' =
    Reads input left skip wrote t input' × (t.read ≡ 0) × Consumes reader reader' [] × IsAtEnd reader'
ReadOn (Err (Reading e)) input left skip wrote input' reader reader' = Keeps reader reader'
ReadOn (Err (Writing e)) input left skip wrote input' reader reader' = ⊥

-- The last line: what is written is all that is still to be printed.
abbrev pub LastLine : List ℕ → Bool → Option (List ℕ) → Result ℕ Failure → List ℕ
    → Option (List ℕ) → Type 0
LastLine line skip writer (Ok n) out' writer' =
    (take n out' ≡ output_from skip line) × Appends writer writer' (take n out')
LastLine line skip writer (Err (Writing e)) out' writer' = WriteFails (output_from skip line) writer writer'
LastLine line skip writer (Err (Reading e)) out' writer' = ⊥

-- ---- all turns

-- So many turns from the start on, with what was read and what was written in them; each read or wrote a byte.
pub data Turns : ℕ → Turn → List ℕ → List ℕ → List ℕ → Type 0 where
  start : (input : List ℕ) → Turns 0 (record { filled = 0; from = 0; skip = false; written = 0; read = 0 }) input [] []
  turn : {n : ℕ} {t : Turn} {input read written : List ℕ} → Turns n t input read written → (t' : Turn) (out input' out' : List ℕ)
      → Turned t input out t' input' out' → 0 < t'.read + t'.written → Turns (suc n) t' input' (read ++ read_in t' input') (written ++ written_in t' out')

pub record History : Type 0 where
  pub count : ℕ
  pub last : Turn
  pub input : List ℕ
  pub read : List ℕ
  pub written : List ℕ
  pub turns : Turns count last input read written

-- The input has ended: behind a last turn, which read nothing, all that was still to be printed was written.
pub record Ended (h : History) (n : ℕ) (out : List ℕ) : Type 0 where
  pub last : Turn
  pub input : List ℕ
  pub before : List ℕ
  pub behind : List ℕ
  pub turned : Turned h.last h.input before last input behind
  pub none : last.read ≡ 0
  pub rest : take n out ≡ ahead last input []

-- How the program ends: with the input; after 2⁶⁴ - 1 turns; or because a read or a write failed. The bytes read are what the
-- reader gave, whatever the pieces.
abbrev pub Closes : History → Result (Option ℕ) Failure → List ℕ → Streams → Streams → Type 0
Closes h (Ok (Some n)) out s s' = Ended h n out × Answered s s' h.read
Closes h (Ok None) out s s' =
    (h.count ≡ 18446744073709551615) × Transfers s s' h.read h.written
Closes h (Err (Reading e)) out s s' =
    Consumes s.reader s'.reader h.read × ReadFails (λ rest. output (h.read ++ rest)) s.writer s'.writer
Closes h (Err (Writing e)) out s s' =
    Consumes s.reader s'.reader h.read × WriteFails (output h.read) s.writer s'.writer

abbrev pub Ran : Result (Option ℕ) Failure → List ℕ → Streams → Streams → Type 0
Ran r out s s' = (h : History) × Closes h r out s s'
