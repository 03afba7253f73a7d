-- What the functions that answer lines promise: whatever follows in the input, what is printed at last stays the same.
use Rattle.std.specs.Prelude.{◌≡◌, Bool, true, false, List, ◌++◌, ℕ, suc, ◌+◌, ◌≤◌, length, take, drop}
use Rattle.answer_line.specs.Line.{line_answer, output, answer_bytes}
use Rattle.input_lines.specs.Lines.{before_newline}
use Rattle.type_lines.specs.declared.Progress.{Progress}
use Rattle.datatype.specs.Limits.{max_text}

-- ---- what is printed

-- What is printed for what comes next in the input. The rest of a line that is answered already is skipped.
unfoldable pub output_from : Bool → List ℕ → List ℕ
output_from false s = output s
output_from true s = output (drop (suc (before_newline s)) s)

-- What is printed at last: the answers in the output, then those for the input from the place on and for what follows.
unfoldable pub printed_at : List ℕ → Progress → List ℕ → List ℕ → List ℕ
printed_at input p out rest = take p.wrote out ++ output_from p.skip (drop p.from input ++ rest)

-- A place where a line begins.
abbrev pub line_at : ℕ → ℕ → Progress
line_at from wrote = record { from = from; wrote = wrote; skip = false }

-- ---- the buffers

-- A place lies in the input and in the output.
pub record Inside (input : List ℕ) (p : Progress) (out : List ℕ) : Type 0 where
  pub read : p.from ≤ length input
  pub answers : p.wrote ≤ length out

-- ---- answering

-- So many bytes of the output are answers, no fewer than before; what lies behind them stays as it was.
pub record Behind (out : List ℕ) (wrote next : ℕ) (out' : List ℕ) : Type 0 where
  pub more : wrote ≤ next
  pub fits : next ≤ length out'
  pub rest : drop next out' ≡ drop next out

-- The answer to a line stands behind the answers that were in the output.
pub record Wrote (line out : List ℕ) (wrote next : ℕ) (out' : List ℕ) : Type 0 where
  pub behind : Behind out wrote next out'
  pub answers : take next out' ≡ take wrote out ++ line_answer line

-- From one place to another: whatever follows in the input, what is printed at last stays the same.
pub record Goes (input : List ℕ) (p : Progress) (out : List ℕ) (q : Progress) (out' : List ℕ) : Type 0 where
  pub inside : Inside input q out'
  pub behind : Behind out p.wrote q.wrote out'
  pub same : (rest : List ℕ) → printed_at input p out rest ≡ printed_at input q out' rest

-- What is left is part of one line, and not too long for a text.
pub record Unfinished (s : List ℕ) : Type 0 where
  pub partial : before_newline s ≡ length s
  pub short : length s ≤ max_text

-- The output is short of room for an answer, or only an unfinished line is left.
pub record Halts (input : List ℕ) (p : Progress) (out : List ℕ) : Type 0 where
  pub left : p.wrote + answer_bytes ≤ length out → Unfinished (drop p.from input)

-- Where the input ends, the output holds all that is still to be printed.
pub record Ends (line : List ℕ) (skip : Bool) (out : List ℕ) (next : ℕ) (out' : List ℕ) : Type 0 where
  pub behind : Behind out 0 next out'
  pub answers : take next out' ≡ output_from skip line
