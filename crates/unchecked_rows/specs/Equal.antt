-- Equal trees (document 01, 'The row table'): equal words 0 to 5, equal name bytes and equal zone bytes, row by row.
use Rattle.std.specs.Prelude.{Bool, true, false, ◌&&◌, List, [], ◌∷◌, ℕ, zero, suc, ◌/◌, length, take, drop}
use Rattle.tokenizer.specs.Text.{same}
use Rattle.datatype.specs.Tree.{label_of}
use Rattle.datatype.specs.Table.{row_words, row_of}

-- So many rows of a table, each as its words.
abbrev pub first_rows : ℕ → List ℕ → List (List ℕ)
first_rows zero ws = []
first_rows (suc n) ws = take row_words ws ∷ first_rows n (drop row_words ws)

-- The whole rows of a table.
unfoldable pub whole_rows : List ℕ → List (List ℕ)
whole_rows table = first_rows (length table / row_words) table

module _ (text names text' names' : List ℕ) where
  -- two rows, given as their words
  unfoldable pub equal_row : List ℕ → List ℕ → Bool
  equal_row ws ws' =
      let l = label_of text names (row_of ws) in
      let l' = label_of text' names' (row_of ws') in
      same (take 6 ws) (take 6 ws') && same l.name l'.name && same l.zone l'.zone

  unfoldable pub equal_rows : List (List ℕ) → List (List ℕ) → Bool
  equal_rows [] [] = true
  equal_rows [] (r ∷ rs) = false
  equal_rows (r ∷ rs) [] = false
  equal_rows (r ∷ rs) (r' ∷ rs') = equal_row r r' && equal_rows rs rs'

  -- two trees, each with its text, its name list and its row words
  unfoldable pub equal_trees : List ℕ → List ℕ → Bool
  equal_trees table table' = equal_rows (whole_rows table) (whole_rows table')
