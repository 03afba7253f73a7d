-- Words that a half word holds. Contracts of private functions cite these; nothing here has to be believed, since no public
-- function's contract does.
use Rattle.std.specs.Prelude.{List, [], ◌∷◌, ℕ, ◌^◌, ◌<◌}
use Rattle.datatype.specs.Table.{word_at}
use Rattle.half_rows.specs.HalfRows.{half}

-- Row i's words but word 4 are half words, and word 4 has 31 bits.
pub record IsSmall (table : List ℕ) (i : ℕ) : Type 0 where
  pub kind : word_at table i 0 < half
  pub rows : word_at table i 1 < half
  pub role : word_at table i 2 < half
  pub union_id : word_at table i 3 < half
  pub number : word_at table i 4 < 2 ^ 31
  pub scale : word_at table i 5 < half
  pub home : word_at table i 6 < half
  pub name_start : word_at table i 7 < half
  pub name_length : word_at table i 8 < half
  pub zone_start : word_at table i 9 < half
  pub zone_length : word_at table i 10 < half
  pub parent : word_at table i 11 < half

-- So are those of the first n rows.
abbrev pub AllSmall : List ℕ → ℕ → Type 0
AllSmall table n = (i : ℕ) → i < n → IsSmall table i

-- Row i's words, one by one.
abbrev pub row_of_words : List ℕ → ℕ → List ℕ
row_of_words table i =
    word_at table i 0 ∷ word_at table i 1 ∷ word_at table i 2 ∷ word_at table i 3 ∷ word_at table i 4 ∷ word_at table i 5
    ∷ word_at table i 6 ∷ word_at table i 7 ∷ word_at table i 8 ∷ word_at table i 9 ∷ word_at table i 10 ∷ word_at table i 11 ∷ []
