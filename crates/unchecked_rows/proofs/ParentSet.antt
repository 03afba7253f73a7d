-- Parents set row by row, and looked at row by row.
--   set-length, set-size, set_word   a table whose first parents are set: its length, its words 1, its words 11
--   set-climbs                       its next parent can be climbed to
--   lent                             what the loop of `set_first_parents` goes by
--   table_fit                        `parents_fit`, as `all` over the rows asks it
use mathlib.Core.Path.{◌≡◌, refl, sym, ap, ◌∙◌}
use mathlib.Core.Bool.{Bool}
use mathlib.Core.List.{List}
use Prim.Native.Nat.{ℕ, zero, suc, ◌+◌, ◌*◌, ◌/◌, ◌≤◌, ◌<◌}
use native.Mathlib.Omega.{arith}
use native.Mathlib.Decide.{dec_lt}
use lib.ListN.{length, get_or, set, length-set}
use lib.Seq.{get_or-set_same, get_or-set_other}
use lib.Dec.{eqb}
use Rattle.std.specs.List.{list_all, range_with_len}
use Rattle.datatype.specs.Table.{row_words, rows_lent, rows_at, parent_word_at}
use Rattle.unchecked_rows.specs.Parents.{parent_at, parents_set, fit_from, parents_fit}
use Rattle.unchecked_rows.specs.Internal.Climb.{Climbs}
use Rattle.unchecked_rows.proofs.ParentClimb.{holder-none, holder-low, holder_same}

module _ (table : List ℕ) where
  pub set-length : (n : ℕ) → length (parents_set table n) ≡ length table
  unfolding parents_set
  set-length zero = refl
  set-length (suc i) = length-set (parents_set table i) (row_words * i + 11) (parent_at table i) ∙ set-length i

  pub set-size : (n k : ℕ) → rows_at (parents_set table n) k ≡ rows_at table k
  unfolding parents_set
  set-size zero k = refl
  set-size (suc i) k = get_or-set_other (parents_set table i) (row_words * i + 11) (row_words * k + 1) (parent_at table i) 0 (λ e. omega arith) ∙ set-size i k

  pub set-parent : (n i : ℕ) → parent_at (parents_set table n) i ≡ parent_at table i
  set-parent n i = holder_same (parents_set table n) table i i (λ q l. set-size n q)

  pub set_word : (n k : ℕ) → row_words * n ≤ length table → k < n → parent_word_at (parents_set table n) k ≡ parent_at table k
  unfolding parents_set
  set_word zero k r l = absurd (omega arith)
  set_word (suc i) k r l =
      elim (dec_lt k i) [
        | yes h ↦ get_or-set_other (parents_set table i) (row_words * i + 11) (row_words * k + 11) (parent_at table i) 0 (λ e. omega arith) ∙ set_word i k (omega arith) h
        | no h ↦
            let e : k ≡ i = omega arith in
            ap (λ (n : ℕ). get_or (set (parents_set table i) (row_words * i + 11) (parent_at table i)) (row_words * n + 11) 0) e
            ∙ get_or-set_same (parents_set table i) (row_words * i + 11) (parent_at table i) 0 (omega (arith, set-length i))
            ∙ ap (λ (n : ℕ). parent_at table n) (sym e)
      ]

  pub set-climbs : (n : ℕ) → row_words * n ≤ length table → Climbs (parents_set table n) n
  set-climbs n r = record { right = λ k l. set_word n k r l ∙ sym (set-parent n k) }

-- ---- the loop of `set_first_parents`

pub lent_room : (words : ℕ) → row_words * rows_lent words ≤ words
unfolding rows_lent
lent_room words = omega arith

pub lent_small : (words : ℕ) → rows_lent words ≤ 1024
unfolding rows_lent
lent_small words = omega arith

module _ (table : List ℕ) where
  pub set_none : parents_set table 0 ≡ table
  unfolding parents_set
  set_none = refl

  pub set_next : (i : ℕ) → parents_set table (i + 1) ≡ set (parents_set table i) (row_words * i + 11) (parent_at (parents_set table i) i)
  set_next i =
      let e : i + 1 ≡ suc i = omega arith in
      rw (e, set-parent table i i) (unfold parents_set in refl)

  pub parent_low : (i : ℕ) → parent_at table i ≤ i
  parent_low zero = omega (arith, holder-none table 0)
  parent_low (suc i) = omega (arith, holder-low table (suc i) i)

pub ruleset lent = (lent_room, lent_small, set_none, set_next, set-climbs, parent_low)

-- ---- `parents_fit`
module _ (table : List ℕ) where
  -- row i has its parent
  abbrev pub has_parent : ℕ → Bool
  has_parent i = eqb (parent_word_at table i) (parent_at table i)

  fit_all : (i n : ℕ) → list_all has_parent (range_with_len i n) ≡ fit_from table i n
  unfolding fit_from
  fit_all i zero = refl
  fit_all i (suc n) = let e : i + 1 ≡ suc i = omega arith in rw (fit_all (i + 1) n, e)

  pub table_fit : list_all has_parent (range_with_len 0 (length table / row_words)) ≡ parents_fit table
  unfolding parents_fit
  table_fit = fit_all 0 (length table / row_words)
