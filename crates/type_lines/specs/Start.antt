-- What the program does first: it looks for an argument, and takes none. And the status that it ends with.
use Rattle.std.specs.Prelude.{◌≡◌, List, ℕ, Option, Some, None, Result, Ok, Err, OnOk}
use Rattle.std.specs.Io.KnownBytes.{Appends}
use Rattle.std.specs.declared.env.FillError.{FillError}
use Rattle.std.specs.declared.env.FillError.TheVariants.{NotPresent, TooLong}
use Rattle.tokenizer.specs.Text.{bytes}
use Rattle.input_lines.specs.Streams.{Streams}
use Rattle.type_lines.specs.Turns.{Ran}
use Rattle.type_lines.specs.declared.Ending.{Ending}
use Rattle.type_lines.specs.declared.Ending.TheVariants.{Argument, Lines}

-- The line that an argument gets.
abbrev pub argument_line : List ℕ
argument_line = bytes "type_lines: takes no argument; the lines come from standard input, as in: type_lines < FILE\n"

-- With an argument: input and output stay as they were, so that nothing is read or printed, and the line is all that is
-- new on standard error, unless it could not be written.
abbrev pub TakesNone : {I O : Type 0} → Ending → I → I → O → O → Option (List ℕ) → Option (List ℕ) → Type 0
TakesNone (Argument w) stdin stdin' stdout stdout' stderr stderr' = (stdin' ≡ stdin) × (stdout' ≡ stdout) × OnOk w (Appends stderr stderr' argument_line)
TakesNone (Lines r) stdin stdin' stdout stdout' stderr stderr' = ⊥

-- Without one: the lines are answered, and standard error stays as it was.
abbrev pub AnswersLines : Ending → List ℕ → Streams → Streams → Option (List ℕ) → Option (List ℕ) → Type 0
AnswersLines (Argument w) out s s' stderr stderr' = ⊥
AnswersLines (Lines r) out s s' stderr stderr' = Ran r out s s' × (stderr' ≡ stderr)

-- By what `arg` answers behind the program's name: `NotPresent`, or an argument, be it longer than the bytes lent.
abbrev pub Starts : {I O : Type 0} → Result ℕ FillError → Ending → List ℕ → I → I → O → O
    → Streams → Streams → Option (List ℕ) → Option (List ℕ) → Type 0
Starts (Err NotPresent) e out stdin stdin' stdout stdout' s s' stderr stderr' =
    AnswersLines e out s s' stderr stderr'
Starts (Err TooLong) e out stdin stdin' stdout stdout' s s' stderr stderr' =
    TakesNone e stdin stdin' stdout stdout' stderr stderr'
Starts (Ok n) e out stdin stdin' stdout stdout' s s' stderr stderr' =
    TakesNone e stdin stdin' stdout stdout' stderr stderr'

-- The exit status: 0 if the input was read to its end and every answer was written. Else 2: after an argument, whatever became
-- of its line, after a read or a write that failed, and after so many turns that there is no more.
abbrev pub status_of : Ending → ℕ
status_of (Lines (Ok (Some n))) = 0
status_of (Lines (Ok None)) = 2
status_of (Lines (Err e)) = 2
status_of (Argument w) = 2
