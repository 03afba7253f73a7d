-- What the program does to its streams, where their bytes are known, by how it ends.
use Rattle.std.specs.Prelude.{◌≡◌, Bool, List, ◌++◌, ℕ, ◌<◌, length, Option}
use Rattle.std.specs.Io.KnownBytes.{Consumes, Appends, IsAtEnd}
use Rattle.answer_line.specs.Line.{output}
use Rattle.input_lines.specs.Streams.{Streams}
use Rattle.type_lines.specs.Run.{output_from, Unfinished}

-- The reader gave these bytes and is at its end, and the writer gained the answers to their lines.
pub record Answered (s s' : Streams) (read : List ℕ) : Type 0 where
  pub gave : Consumes s.reader s'.reader read
  pub ended : IsAtEnd s'.reader
  pub gained : Appends s.writer s'.writer (output read)

-- A read failed. By what is printed for any bytes that may have followed: what was written is its beginning, and what is not
-- written is for part of one line and for what follows it. So each whole line that was read has its answer.
pub record ReadFails (printed : List ℕ → List ℕ) (writer writer' : Option (List ℕ)) : Type 0 where
  pub written : List ℕ
  pub gained : Appends writer writer' written
  pub skip : Bool
  pub left : List ℕ
  pub waits : Unfinished left
  pub same : (rest : List ℕ) → printed rest ≡ written ++ output_from skip (left ++ rest)

-- A write failed. What was written is a beginning of what is printed, and not all of it.
pub record WriteFails (printed : List ℕ) (writer writer' : Option (List ℕ)) : Type 0 where
  pub written : List ℕ
  pub gained : Appends writer writer' written
  pub more : List ℕ
  pub begins : printed ≡ written ++ more
  pub short : 0 < length more
