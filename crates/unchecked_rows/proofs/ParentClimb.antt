-- The climb to a row's parent: from the row before, through parents that are right already.
--   holder-yes, holder-no   the row passed last holds row i, or it does not
--   climb                   what holds no row j before row i holds no row i either: go on from row j's parent
--   holder_same             only words 1 count
--   climbs                  what the loop of `parent_of` goes by
use mathlib.Core.Path.{◌≡◌, refl, ◌∙◌}
use mathlib.Core.List.{List}
use Prim.Native.Nat.{ℕ, zero, suc, ◌+◌, ◌≤◌, ◌<◌}
use native.Mathlib.Omega.{arith}
use native.Mathlib.Decide.{dec_lt}
use lib.Dec.{ltb}
use borrow.Author.Tests.{lt-ltb, le-ltb}
use Rattle.tokenizer.proofs.Basics.{if_same}
use Rattle.unchecked_rows.specs.Parents.{holder, parent_at}
use Rattle.datatype.specs.Table.{rows_at}

module _ (table : List ℕ) (i : ℕ) where
  pub holder-none : holder table i 0 ≡ 0
  unfolding holder
  holder-none = refl

  pub holder-first : holder table i 1 ≡ 0
  unfolding holder
  holder-first = if_same (ltb i (0 + rows_at table 0)) 0

  pub holder-yes : (p : ℕ) → i < p + rows_at table p → holder table i (suc p) ≡ p
  unfolding holder
  holder-yes p h = rw (lt-ltb i (p + rows_at table p) h)

  pub holder-no : (p : ℕ) → p + rows_at table p ≤ i → holder table i (suc p) ≡ holder table i p
  unfolding holder
  holder-no p h = rw (le-ltb i (p + rows_at table p) h)

  pub holder-low : (p : ℕ) → holder table i (suc p) ≤ p
  holder-low zero = omega (arith, holder-first)
  holder-low (suc p) =
      elim (dec_lt i (suc p + rows_at table (suc p))) [
        | yes h ↦ omega (arith, holder-yes (suc p) h)
        | no h ↦ omega (arith, holder-no (suc p) (omega arith), holder-low p)
      ]

pub climb : (table : List ℕ) (i j k : ℕ) → j ≤ i → holder table i k ≡ holder table i (suc (holder table j k))
climb table i j zero h = rw (holder-none table j, holder-none table i, holder-first table i)
climb table i j (suc k) h =
    elim (dec_lt j (k + rows_at table k)) [
      | yes l ↦ rw (holder-yes table j k l)
      | no l ↦ rw (holder-no table j k (omega arith), holder-no table i k (omega arith)) (climb table i j k h)
    ]

pub holder_same : (table table' : List ℕ) (i k : ℕ) → ((q : ℕ) → q < k → rows_at table q ≡ rows_at table' q) → holder table i k ≡ holder table' i k
unfolding holder
holder_same table table' i zero h = refl
holder_same table table' i (suc k) h = rw (h k (omega arith), holder_same table table' i k (λ q l. h q (omega arith)))

-- ---- the loop of `parent_of`

-- what it holds: no row behind row p holds row i
pub record ClimbSo (table : List ℕ) (i p : ℕ) : Type 0 where
  pub below : p < i
  pub so : parent_at table i ≡ holder table i (suc p)

module _ (table : List ℕ) where
  -- a row's parent stands before it
  pub parent_before : (p : ℕ) → 0 < p → holder table p p < p
  parent_before zero h = absurd (omega arith)
  parent_before (suc p) h = omega (arith, holder-low table (suc p) p)

  -- and is asked next
  pub climb_on : (i p : ℕ) → p + rows_at table p ≤ i → holder table i (suc p) ≡ holder table i (suc (holder table p p))
  climb_on i p h = holder-no table i p h ∙ climb table i p p (omega arith)

pub ruleset climbs = (holder-none, holder-low, holder-yes, parent_before, climb_on)
