-- What the program does to its streams, where their bytes are known, by how it ends; and the status that it ends with.
use Rattle.std.specs.Prelude.{◌≡◌, List, [], ◌++◌, ℕ, ◌≤◌, ◌<◌, length, Option, Some, None, Result, Ok, Err, OnOk}
use Rattle.std.specs.Io.KnownBytes.{Consumes, Keeps, Appends, IsAtEnd}
use Rattle.std.specs.declared.env.FillError.{FillError}
use Rattle.std.specs.declared.env.FillError.TheVariants.{NotPresent, TooLong}
use Rattle.tokenizer.specs.Text.{bytes}
use Rattle.input_lines.specs.Lines.{lines_of}
use Rattle.input_lines.specs.Messages.{argument_line}
use Rattle.input_lines.specs.Streams.{WritesPart, WritesOut, Streams}
use Rattle.input_lines.specs.declared.failure.Failure.{Failure}
use Rattle.input_lines.specs.declared.failure.Failure.TheVariants.{Reading, Writing}
use Rattle.tally.specs.Tally.{Counts, tally, max_lines, report, report_of}
use Rattle.tally.specs.Laws.{IsTally}
use Rattle.type_counts.specs.Counting.{at_last}
use Rattle.type_counts.specs.declared.Printed.{Printed}
use Rattle.type_counts.specs.declared.Printed.TheVariants.{Report, TooMany}
use Rattle.type_counts.specs.declared.Ending.{Ending}
use Rattle.type_counts.specs.declared.Ending.TheVariants.{Argument, Lines}

-- What the program is called.
abbrev pub program : List ℕ
program = bytes "type_counts"

-- The greatest number of turns.
abbrev pub all_turns : ℕ
all_turns = 18446744073709551615

-- ---- counting

-- The input is counted: the reader gave these bytes, and is at its end; or it gave these, and a line more has begun than are
-- counted, whatever follows; or so many bytes at least were read that no more turns are left; or a read failed.
abbrev pub Counted : Option (List ℕ) → Result (Option Printed) Failure → Option (List ℕ) → Counts → List ℕ → Type 0
Counted reader (Ok (Some Report)) reader' t read = Consumes reader reader' read × IsAtEnd reader' × (tally (lines_of read) ≡ at_last t [])
Counted reader (Ok (Some TooMany)) reader' t read =
    Consumes reader reader' read × ((rest : List ℕ) → max_lines < length (lines_of (read ++ rest)))
Counted reader (Ok None) reader' t read = Consumes reader reader' read × (all_turns ≤ length read)
Counted reader (Err (Reading e)) reader' t read = Consumes reader reader' read
Counted reader (Err (Writing e)) reader' t read = ⊥

abbrev pub CountsAll : Option (List ℕ) → Result (Option Printed) Failure → Option (List ℕ) → Counts → Type 0
CountsAll reader r reader' t = (read : List ℕ) × Counted reader r reader' t read

-- ---- printing

-- What is printed.
abbrev pub printed_of : Counts → Printed → List ℕ
printed_of t Report = report t
printed_of t TooMany = bytes "no 24\n"

abbrev pub Prints : Option (List ℕ) → Counts → Printed → Result (Unit {0}) Failure → Option (List ℕ) → Type 0
Prints writer t printed r writer' = IsTally t × WritesOut writer writer' (printed_of t printed) r

-- ---- the streams

-- What the reader gave, by how the program ends, and what the writer gained. Where the input ended it is the report of all that
-- was read; where the program stopped at 24, that of what was read and of whatever may follow; and before that nothing is
-- written. A write that failed has written a beginning of it.
abbrev pub Runs : Streams → Result (Option Printed) Failure → Streams → List ℕ → Type 0
Runs s (Ok (Some Report)) s' read =
    Consumes s.reader s'.reader read × IsAtEnd s'.reader × Appends s.writer s'.writer (report_of read)
Runs s (Ok (Some TooMany)) s' read =
    Consumes s.reader s'.reader read × ((rest : List ℕ) → Appends s.writer s'.writer (report_of (read ++ rest)))
Runs s (Ok None) s' read = Consumes s.reader s'.reader read × (all_turns ≤ length read) × Keeps s.writer s'.writer
Runs s (Err (Reading e)) s' read = Consumes s.reader s'.reader read × Keeps s.writer s'.writer
Runs s (Err (Writing e)) s' read = Consumes s.reader s'.reader read × WritesPart s.writer s'.writer (report_of read)

abbrev pub Ran : Streams → Result (Option Printed) Failure → Streams → Type 0
Ran s r s' = (read : List ℕ) × Runs s r s' read

-- ---- an argument

-- With an argument: input and output stay as they were, so that nothing is read or printed, and the line that an argument gets
-- is all that is new on standard error, unless it could not be written.
abbrev pub TakesNone : {I O : Type 0} → Ending → I → I → O → O → Option (List ℕ) → Option (List ℕ) → Type 0
TakesNone (Argument w) stdin stdin' stdout stdout' stderr stderr' =
    (stdin' ≡ stdin) × (stdout' ≡ stdout) × OnOk w (Appends stderr stderr' (argument_line program))
TakesNone (Lines r) stdin stdin' stdout stdout' stderr stderr' = ⊥

-- Without one: the lines are counted, and standard error stays as it was.
abbrev pub CountsInput : Ending → Streams → Streams → Option (List ℕ) → Option (List ℕ) → Type 0
CountsInput (Argument w) s s' stderr stderr' = ⊥
CountsInput (Lines r) s s' stderr stderr' = Ran s r s' × (stderr' ≡ stderr)

-- By what `arg` answers behind the program's name: `NotPresent`, or an argument, be it longer than the bytes lent.
abbrev pub Starts : {I O : Type 0} → Result ℕ FillError → Ending → I → I → O → O → Streams → Streams → Option (List ℕ) → Option (List ℕ) → Type 0
Starts (Err NotPresent) e stdin stdin' stdout stdout' s s' stderr stderr' = CountsInput e s s' stderr stderr'
Starts (Err TooLong) e stdin stdin' stdout stdout' s s' stderr stderr' = TakesNone e stdin stdin' stdout stdout' stderr stderr'
Starts (Ok n) e stdin stdin' stdout stdout' s s' stderr stderr' = TakesNone e stdin stdin' stdout stdout' stderr stderr'

-- The exit status: 0 behind a report, 1 behind `no 24`, and 2 else: after an argument, whatever became of its line, after a read or
-- a write that failed, and after so many turns that there is no more.
abbrev pub status_of : Ending → ℕ
status_of (Lines (Ok (Some Report))) = 0
status_of (Lines (Ok (Some TooMany))) = 1
status_of (Lines (Ok None)) = 2
status_of (Lines (Err e)) = 2
status_of (Argument w) = 2
