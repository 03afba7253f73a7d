-- What a private function promises.
use Rattle.std.specs.Prelude.{List, ℕ, ◌≤◌, ◌<◌, length, take, Option, Result, Ok, Err}
use Rattle.std.specs.Io.KnownBytes.{Keeps, Appends}
use Rattle.input_lines.specs.declared.failure.Failure.{Failure}
use Rattle.input_lines.specs.declared.failure.Failure.TheVariants.{Reading, Writing}

-- Some of the bytes were written, one at least; or none, and the failure is told as that of a write.
abbrev pub WritesSome : Option (List ℕ) → Option (List ℕ) → List ℕ → Result ℕ Failure → Type 0
WritesSome writer writer' bytes (Ok n) = (0 < n) × (n ≤ length bytes) × Appends writer writer' (take n bytes)
WritesSome writer writer' bytes (Err (Writing e)) = Keeps writer writer'
WritesSome writer writer' bytes (Err (Reading e)) = ⊥
