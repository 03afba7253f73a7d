-- Equal trees, row by row: what the functions of `equality.rt` look at.
use mathlib.Core.Path.{◌≡◌, refl, sym, ap, ◌∙◌}
use mathlib.Core.Bool.{Bool, true, false, ◌&&◌}
use mathlib.Core.List.{List, [], ◌∷◌}
use Prim.Native.Nat.{ℕ, zero, suc, ◌+◌, ◌-◌, ◌*◌, ◌/◌, ◌<◌}
use native.Mathlib.Omega.{arith}
use lib.ListN.{length, take, drop, get_or}
use lib.Seq.{take-take, drop-drop, get_or-take, get_or-drop}
use lib.Dec.{T}
use Rattle.tokenizer.specs.Text.{same}
use Rattle.tokenizer.proofs.Basics.{and_r}
use Rattle.datatype.specs.Tree.{name_of, zone_of, label_of}
use Rattle.datatype.specs.Table.{row_words, row_of}
use Rattle.unchecked_rows.specs.Equal.{first_rows, whole_rows, equal_row, equal_rows, equal_trees}
use Rattle.std.specs.List.{list_all, range_with_len}
use Rattle.unchecked_rows.specs.Internal.Run.{words_at}
use Rattle.datatype.proofs.Tests.{false_of}

-- ---- one row

-- a word of the row that stands from place `at` on
word_in : (table : List ℕ) (at k : ℕ) → k < row_words → get_or (take row_words (drop at table)) k 0 ≡ get_or table (at + k) 0
word_in table at k h = get_or-take row_words (drop at table) k 0 h ∙ get_or-drop at table k 0

-- two rows, as the code compares them: their first six words, then the names and the zones that their words say
module _ (t n t' n' s s' : List ℕ) (at : ℕ) where
  abbrev here : Bool
  here = equal_row t n t' n' (take row_words (drop at s)) (take row_words (drop at s'))

  abbrev words : Bool
  words = same (take (at + 6 - at) (drop at s)) (take (at + 6 - at) (drop at s'))

  abbrev name : Bool
  name = same (name_of t n (get_or s (at + 6) 0) (get_or s (at + 7) 0) (get_or s (at + 8) 0)) (name_of t' n' (get_or s' (at + 6) 0) (get_or s' (at + 7) 0) (get_or s' (at + 8) 0))

  abbrev zone : Bool
  zone = same (zone_of t (get_or s (at + 9) 0) (get_or s (at + 10) 0)) (zone_of t' (get_or s' (at + 9) 0) (get_or s' (at + 10) 0))

  row_equal : here ≡ (words && name && zone)
  unfolding equal_row label_of row_of
  row_equal =
      let e : at + 6 - at ≡ 6 = omega arith in
      rw (
        e,
        take-take 6 row_words (drop at s) (omega arith),
        take-take 6 row_words (drop at s') (omega arith),
        word_in s at 6 (omega arith),
        word_in s at 7 (omega arith),
        word_in s at 8 (omega arith),
        word_in s at 9 (omega arith),
        word_in s at 10 (omega arith),
        word_in s' at 6 (omega arith),
        word_in s' at 7 (omega arith),
        word_in s' at 8 (omega arith),
        word_in s' at 9 (omega arith),
        word_in s' at 10 (omega arith),
      )

  pub words_differ : words ≡ false → here ≡ false
  words_differ w = rw (row_equal, w)

  pub names_differ : words ≡ true → name ≡ false → here ≡ false
  names_differ w m = rw (row_equal, w, m)

  pub by_zones : words ≡ true → name ≡ true → here ≡ zone
  by_zones w m = rw (row_equal, w, m)

pub ruleset row_cases = (words_differ, names_differ, by_zones)

-- ---- all rows

length_first : (n : ℕ) (ws : List ℕ) → length (first_rows n ws) ≡ n
length_first zero ws = refl
length_first (suc n) ws = ap suc (length_first n (drop row_words ws))

module _ (t n t' n' : List ℕ) where
  -- equal runs of rows are equally long
  equally_long : (rs rs' : List (List ℕ)) → T (equal_rows t n t' n' rs rs') → length rs ≡ length rs'
  unfolding equal_rows
  equally_long [] [] q = refl
  equally_long [] (r ∷ rs) q = absurd q
  equally_long (r ∷ rs) [] q = absurd q
  equally_long (r ∷ rs) (r' ∷ rs') q = ap suc (equally_long rs rs' (and_r (equal_row t n t' n' r r') (equal_rows t n t' n' rs rs') q))

  pub fewer_rows : (s s' : List ℕ) → (length s / row_words ≡ length s' / row_words → ⊥) → equal_trees t n t' n' s s' ≡ false
  unfolding equal_trees whole_rows
  fewer_rows s s' d =
      sym (false_of (equal_rows t n t' n' (first_rows (length s / row_words) s) (first_rows (length s' / row_words) s'))
      (λ q. d (sym (length_first (length s / row_words) s) ∙ equally_long (first_rows (length s / row_words) s) (first_rows (length s' / row_words) s') q ∙ length_first (length s' / row_words) s')))

  module _ (s s' : List ℕ) where
    -- row i of both
    abbrev pub equal_at : ℕ → Bool
    equal_at i = equal_row t n t' n' (words_at s i) (words_at s' i)

    rows_all : (i k : ℕ) → list_all equal_at (range_with_len i k) ≡ equal_rows t n t' n' (first_rows k (drop (row_words * i) s)) (first_rows k (drop (row_words * i) s'))
    unfolding equal_rows
    rows_all i zero = refl
    rows_all i (suc k) =
        let e : row_words * (i + 1) ≡ row_words * i + row_words = omega arith in
        rw (rows_all (i + 1) k, e, ← drop-drop row_words (row_words * i) s, ← drop-drop row_words (row_words * i) s')

    pub trees_all : length s / row_words ≡ length s' / row_words → list_all equal_at (range_with_len 0 (length s / row_words)) ≡ equal_trees t n t' n' s s'
    unfolding equal_trees whole_rows
    trees_all e = rows_all 0 (length s / row_words) ∙ rw e
