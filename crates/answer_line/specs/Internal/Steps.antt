-- What the private functions promise; nothing here has to be believed, since no public function's contract cites it.
use Rattle.std.specs.Prelude.{◌≡◌, List, ◌∷◌, ◌++◌, ℕ, ◌+◌, ◌/◌, ◌≤◌, length, take, drop}
use Rattle.tokenizer.specs.Text.{bytes}
use Rattle.tokenizer.specs.Answer.{Out, refused, done}
use Rattle.datatype.specs.Limits.{max_text}
use Rattle.datatype.specs.Tree.{depth}
use Rattle.datatype.specs.Table.{row_words, tree_of}
use Rattle.writer.specs.Digits.{digits}
use Rattle.datatype_display.specs.Print.{default_spelling, print}
use Rattle.answer_line.specs.Line.{no_line}

-- The bytes s stand at the start of the buffer, and past them what it held before.
pub record Answers (s before : List ℕ) (size : ℕ) (after : List ℕ) : Type 0 where
  pub counted : size ≡ length s
  pub stored : after ≡ s ++ drop (length s) before

-- `ok`, rows, depth, each with a space behind it.
unfoldable pub ok_head : ℕ → ℕ → List ℕ
ok_head rows levels = bytes "ok " ++ (digits rows ++ (bytes " " ++ (digits levels ++ bytes " ")))

pub record HeadLength (rows levels r : ℕ) : Type 0 where
  pub is : r ≡ length (ok_head rows levels)
  pub short : r ≤ 11

-- A head stands at the start of the buffer, and a newline so many bytes behind it; what lies between has not changed.
pub record Framed (head : List ℕ) (size : ℕ) (before : List ℕ) (end : ℕ) (after : List ℕ) : Type 0 where
  pub place : end ≡ length head + size + 1
  pub stored : after ≡ head ++ (take size (drop (length head) before) ++ (10 ∷ drop (length head + size + 1) before))

-- The answer to a tree of so many rows and levels, by what printing it comes to.
unfoldable pub tree_line : ℕ → ℕ → Out (List ℕ) → List ℕ
tree_line rows levels (refused r) = no_line r
tree_line rows levels (done printed) = ok_head rows levels ++ (printed ++ bytes "\n")

-- The answer to a text that was read into a table.
unfoldable pub table_line : List ℕ → List ℕ → List ℕ → List ℕ
table_line text names table = tree_line (length table / row_words) (depth (tree_of text names table)) (print default_spelling text names table max_text)
