-- What holds of the counts of every list of lines: the contracts of `Tally` cite it.
use Rattle.std.specs.Prelude.{◌≡◌, ◌≤◌, ◌<◌, ◌^◌, List, ◌∷◌, ◌++◌, ℕ, ◌+◌, length, sum, sum_by, All, Any, IsTrue}
use Rattle.std.specs.List.Sorted.{IsPermutation}
use Rattle.tally.specs.Tally.{read, is_accepted, rows_of, levels, Counts, tally, max_lines, report, report_bytes}

abbrev pub all_counts : Counts → List ℕ
all_counts t = t.lines ∷ t.ok ∷ t.deep ∷ (t.refused ++ t.kinds)

pub record CountsOf (ls : List (List ℕ)) (t : Counts) : Type 0 where
  -- Each line is accepted, or refused with one of the numbers.
  pub each_line : t.ok + sum t.refused ≡ length ls
  -- The kinds sum to the rows of the accepted lines.
  pub each_row : sum t.kinds ≡ sum_by (λ l. length (rows_of (read l))) ls
  -- No line is deeper, and one of the accepted lines is as deep; where none is accepted the deepest level is 0.
  pub deepest : All (λ l. levels (read l) ≤ t.deep) ls
  pub as_deep : 0 < t.ok → Any (λ l. IsTrue (is_accepted (read l)) × (levels (read l) ≡ t.deep)) ls
  pub none_deep : t.ok ≡ 0 → t.deep ≡ 0
  -- The order of the lines does not count.
  pub any_order : (ms : List (List ℕ)) → IsPermutation ls ms → tally ms ≡ t
  -- Of so many lines each count fits 32 bits, and the report its buffer.
  pub small : length ls ≤ max_lines → All (λ n. n < 2 ^ 32) (all_counts t)
  pub fits : length ls ≤ max_lines → length (report t) ≤ report_bytes

-- Counts that are those of a list of lines, of no more than are counted.
pub record IsTally (t : Counts) : Type 0 where
  pub of : List (List ℕ)
  pub few : length of ≤ max_lines
  pub is : t ≡ tally of
