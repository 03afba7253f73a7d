-- What a program that reads lines says on standard error, given what it is called.
use Rattle.std.specs.Prelude.{List, ◌++◌, ℕ, Option}
use Rattle.std.specs.Io.KnownBytes.{Appends}
use Rattle.tokenizer.specs.Text.{bytes}
use Rattle.input_lines.specs.declared.failure.Failure.{Failure}
use Rattle.input_lines.specs.declared.failure.Failure.TheVariants.{Reading, Writing}

-- The line that an argument gets.
abbrev pub argument_line : List ℕ → List ℕ
argument_line program =
    program ++ (bytes ": takes no argument; the lines come from standard input, as in: " ++ (program ++ bytes " < FILE\n"))

-- What failed.
abbrev pub failed_call : Failure → List ℕ
failed_call (Reading e) = bytes ": reading standard input: "
failed_call (Writing e) = bytes ": writing standard output: "

-- The line about a failure is new on standard error: what the program is called, what failed, and why. How the system says
-- why is not stated.
abbrev pub Tells : Option (List ℕ) → Option (List ℕ) → List ℕ → Failure → Type 0
Tells stderr stderr' program failure =
    (reason : List ℕ) × Appends stderr stderr' (program ++ (failed_call failure ++ (reason ++ bytes "\n")))
