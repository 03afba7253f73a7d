-- The public reader (document 01, 'Types' and 'Numbers a caller may get'): a whole text, and the words lent for its rows.
use Rattle.std.specs.Prelude.{Bool, ◌&&◌, List, ◌++◌, ℕ, length, drop, replicate, nat_eq, if◌then◌else◌}
use Rattle.tokenizer.specs.Answer.{Out, refused, done, refuse_at, ◌>>=◌}
use Rattle.tokenizer.specs.Token.{token_at, value_of, no_token}
use Rattle.datatype.specs.Tree.{Forest, count, Row}
use Rattle.datatype.specs.Table.{table_of, rows_lent}
use Rattle.unchecked_rows.specs.Parents.{parented}
use Rattle.parser.specs.Parse.{single, place_at, stands, first_type}

-- The text ends here, but for spaces.
unfoldable pub text_over : List ℕ → ℕ → Bool
text_over text at = stands text no_token at && nat_eq (value_of (token_at text at).kind) 5

-- The tree of a text, with so many rows lent, or the refusal. The whole text is a type: nothing but spaces follows it, or it
-- is refused where that begins.
unfoldable pub parse : List ℕ → ℕ → Out (Forest Row)
parse text rows = do
  t ← first_type text rows
  if text_over text t.next then done (parented (single t)) else refuse_at 16 (place_at text t.next)

-- What reading a text into lent words answers: the row count, or the refusal.
abbrev pub row_count : Out (Forest Row) → Out ℕ
row_count (refused r) = refused r
row_count (done f) = done (count f)

unfoldable pub parse_answer : List ℕ → List ℕ → Out ℕ
parse_answer text before = row_count (parse text (rows_lent (length before)))

-- What the lent words hold behind it: the rows, and past them what they held before; all zeros on a refusal.
abbrev pub filled : List ℕ → Out (Forest Row) → List ℕ
filled before (refused r) = replicate (length before) 0
filled before (done f) = table_of f ++ drop (length (table_of f)) before

unfoldable pub parse_rows : List ℕ → List ℕ → List ℕ
parse_rows text before = filled before (parse text (rows_lent (length before)))
