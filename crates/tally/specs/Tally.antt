-- The monthly count of column types (docs/SCOPE.md, 'The monthly count').
use Rattle.std.specs.Prelude.{Bool, true, false, List, [], ◌∷◌, ◌++◌, map, ℕ, zero, suc, ◌+◌, max, length, sum_by, count_by, nat_eq, nat_le, nat_lt, if◌then◌else◌}
use Rattle.std.specs.List.{range_with_len}
use Rattle.tokenizer.specs.Text.{bytes}
use Rattle.tokenizer.specs.Answer.{Out, refused, done, refuse}
use Rattle.datatype.specs.Kind.{kinds}
use Rattle.datatype.specs.Limits.{max_rows}
use Rattle.datatype.specs.Tree.{Forest, ∅, node, depth, Row}
use Rattle.input_lines.specs.Lines.{lines_of}
use Rattle.writer.specs.Digits.{digits}
use Rattle.datatype_parse.specs.Parse.{parse, parse_rows}
use Rattle.tally.specs.declared.NotCounted.{NotCounted}
use Rattle.tally.specs.declared.NotCounted.TheVariants.{TooManyLines}

-- ---- a line

-- What a line is, by the reader with 1,024 rows: accepted means read, printed or not.
unfoldable pub read : List ℕ → Out (Forest Row)
read line = parse line max_rows

abbrev pub is_accepted : Out (Forest Row) → Bool
is_accepted (refused r) = false
is_accepted (done f) = true

abbrev pub is_refused_by : ℕ → Out (Forest Row) → Bool
is_refused_by n (refused r) = nat_eq r.number n
is_refused_by n (done f) = false

-- The rows of a run of trees, parents first.
abbrev pub rows_in : Forest Row → List Row
rows_in ∅ = []
rows_in (node r kids next) = r ∷ (rows_in kids ++ rows_in next)

-- The rows and the levels of an accepted line; of a refused one none.
abbrev pub rows_of : Out (Forest Row) → List Row
rows_of (refused r) = []
rows_of (done f) = rows_in f

abbrev pub levels : Out (Forest Row) → ℕ
levels (refused r) = 0
levels (done f) = depth f

abbrev pub rows_of_kind : ℕ → Out (Forest Row) → ℕ
rows_of_kind k o = count_by (λ r. nat_eq r.kind k) (rows_of o)

-- ---- the counts of a list of lines

-- The greatest value of a list's elements; 0 where there is none.
abbrev pub greatest_by : {A : Type 0} → (A → ℕ) → List A → ℕ
greatest_by f [] = 0
greatest_by f (x ∷ xs) = max (f x) (greatest_by f xs)

-- A value for each of so many numbers from the first on.
unfoldable pub each_from : ℕ → ℕ → (ℕ → ℕ) → List ℕ
each_from first n f = map f (range_with_len first n)

-- Lines; accepted lines; refused lines by number, 1 to 16; rows of accepted lines by kind, 0 to 40; and the deepest level of
-- the accepted lines.
pub record Counts : Type 0 where
  pub lines : ℕ
  pub ok : ℕ
  pub refused : List ℕ
  pub kinds : List ℕ
  pub deep : ℕ

-- The numbers that the reader refuses with are 1 to this.
abbrev pub refusals : ℕ
refusals = 16

unfoldable pub tally : List (List ℕ) → Counts
tally ls =
    record {
      lines = length ls;
      ok = count_by (λ l. is_accepted (read l)) ls;
      refused = each_from 1 refusals (λ n. count_by (λ l. is_refused_by n (read l)) ls);
      kinds = each_from 0 kinds (λ k. sum_by (λ l. rows_of_kind k (read l)) ls);
      deep = greatest_by (λ l. levels (read l)) ls;
    }

-- ---- more lines

-- Two lists of counts, added.
abbrev pub added : List ℕ → List ℕ → List ℕ
added [] ns = []
added (m ∷ ms) [] = []
added (m ∷ ms) (n ∷ ns) = (m + n) ∷ added ms ns

-- The counts of some lines and of others, together.
unfoldable pub together : Counts → Counts → Counts
together t u =
    record {
      lines = t.lines + u.lines;
      ok = t.ok + u.ok;
      refused = added t.refused u.refused;
      kinds = added t.kinds u.kinds;
      deep = max t.deep u.deep;
    }

-- So many lines are counted, and no more.
abbrev pub max_lines : ℕ
max_lines = 1000000

-- What a line more does to counts: nothing where so many lines are counted already, which is refused with 24.
unfoldable pub tally_after : Counts → List ℕ → Counts
tally_after t line = if nat_lt t.lines max_lines then together t (tally (line ∷ [])) else t

unfoldable pub add_answer : Counts → Out (Unit {0})
add_answer t = if nat_lt t.lines max_lines then done tt else refuse 24

-- What the lent rows hold behind it: what reading the line leaves in them, or what they held.
unfoldable pub rows_after : Counts → List ℕ → List ℕ → List ℕ
rows_after t line rows = if nat_lt t.lines max_lines then parse_rows line rows else rows

-- ---- the report

-- A line: a word, a space and a count.
abbrev pub count_line : List ℕ → ℕ → List ℕ
count_line word n = word ++ (bytes " " ++ (digits n ++ bytes "\n"))

-- The same with a number behind the word.
abbrev pub number_line : List ℕ → ℕ → ℕ → List ℕ
number_line word i n = word ++ (bytes " " ++ count_line (digits i) n)

-- A line for each count of a list but 0, with its number, which rises from the first on.
unfoldable pub count_lines : List ℕ → ℕ → List ℕ → List ℕ
count_lines word i [] = []
count_lines word i (zero ∷ ns) = count_lines word (suc i) ns
count_lines word i (suc n ∷ ns) = number_line word i (suc n) ++ count_lines word (suc i) ns

unfoldable pub report : Counts → List ℕ
report t =
    count_line (bytes "lines") t.lines
    ++ (count_line (bytes "ok") t.ok
    ++ (count_lines (bytes "no") 1 t.refused
    ++ (count_lines (bytes "kind") 0 t.kinds
    ++ count_line (bytes "deep") t.deep)))

-- The bytes that the longest report takes, and some more.
abbrev pub report_bytes : ℕ
report_bytes = 1024

-- What the program prints for an input.
unfoldable pub report_of : List ℕ → List ℕ
report_of input = let ls = lines_of input in if nat_le (length ls) max_lines then report (tally ls) else bytes "no 24\n"

-- ---- the answers of the code

-- The number of each refusal.
abbrev pub number_of : NotCounted → ℕ
number_of TooManyLines = 24
