-- Rows that stand side by side: the first of them and the rest, and what they are where the rows nest.
--   beside_end, beside_outside, beside_empty, beside_next   no row before the end; a row that is not in the table, or has
--                                                           no rows; one, and those behind its subtree
--   beside_roots                                            where the rows nest they are the roots of their trees
use Rattle.std.specs.Prelude.{if◌then◌else◌}
use mathlib.Core.Path.{◌≡◌, refl, sym, ap, ◌∙◌}
use mathlib.Core.Bool.{Bool, true, false, ◌&&◌, and-false}
use mathlib.Core.List.{List, [], ◌∷◌, map}
use mathlib.Core.Option
use mathlib.Core.Option.{none, some}
use Prim.Native.Nat.{ℕ, zero, suc, ◌+◌, ◌*◌, ◌-◌, ◌≤◌, ◌<◌}
use native.Mathlib.Decide.{dec_lt}
use native.Mathlib.Omega.{arith}
use lib.ListN.{length, get_or}
use lib.Dec.{leb}
use borrow.Author.Tests.{le-leb, lt-leb, leb-true}
use Rattle.std.proofs.lemmas.Bool.Decides.{nat_tests}
use Rattle.datatype.specs.Tree.{roots, Row}
use Rattle.datatype.specs.Table.{row_words, rows_at}
use Rattle.unchecked_rows.specs.Siblings.{siblings}
use Rattle.unchecked_rows.specs.Internal.Beside.{beside}
use Rattle.unchecked_rows.specs.Internal.Run.{row_at, forest_at, Nests}
use Rattle.unchecked_rows.proofs.Runs.{Turn, turn, forest_none}

module _ (k : ℕ) (table : List ℕ) where
  sibling_end : (f at end : ℕ) → end ≤ at → siblings f k table at end ≡ some []
  unfolding siblings
  sibling_end zero at end h = rw (le-leb end at h)
  sibling_end (suc f) at end h = rw (le-leb end at h)

  -- more turns than rows change nothing
  enough : (f g at end : ℕ) → end - at ≤ f → end - at ≤ g → siblings f k table at end ≡ siblings g k table at end
  unfolding siblings
  enough zero g at end a b = sibling_end 0 at end (omega arith) ∙ sym (sibling_end g at end (omega arith))
  enough (suc f) zero at end a b = sibling_end (suc f) at end (omega arith) ∙ sym (sibling_end 0 at end (omega arith))
  enough (suc f) (suc g) at end a b =
      elim (dec_lt at end) [
        | yes l ↦ step (leb 1 (rows_at table at)) refl l (λ s. enough f g (at + rows_at table at) end (omega arith) (omega arith))
        | no l ↦ sibling_end (suc f) at end (omega arith) ∙ sym (sibling_end (suc g) at end (omega arith))
      ]
    where
      step : (t : Bool) → leb 1 (rows_at table at) ≡ t → at < end
          → (1 ≤ rows_at table at → siblings f k table (at + rows_at table at) end ≡ siblings g k table (at + rows_at table at) end)
          → siblings (suc f) k table at end ≡ siblings (suc g) k table at end
      step true e l later = rw (later (leb-true 1 (rows_at table at) e))
      step false e l later = rw (e, and-false (leb (row_words * (at + 1)) (length table)))

  module _ (at end : ℕ) where
    pub beside_end : end ≤ at → beside k table at end ≡ some []
    unfolding beside
    beside_end h = sibling_end (end - at) at end h

    module _ (l : at < end) where
      turned : beside k table at end
          ≡ (if leb (row_words * (at + 1)) (length table) && leb 1 (rows_at table at) then Option.map (λ ws. get_or table (row_words * at + k) 0 ∷ ws) (siblings (end - at - 1) k table (at + rows_at table at) end) else none)
      unfolding beside siblings
      turned =
          let e : end - at ≡ suc (end - at - 1) = omega arith in
          ap (λ (f : ℕ). siblings f k table at end) e ∙ rw (lt-leb end at l)

      pub beside_outside : length table < row_words * (at + 1) → beside k table at end ≡ none
      beside_outside h = rw (turned, lt-leb (row_words * (at + 1)) (length table) h)

      pub beside_empty : rows_at table at ≡ 0 → beside k table at end ≡ none
      beside_empty z = turned ∙ rw (z, and-false (leb (row_words * (at + 1)) (length table)))

      pub beside_next : row_words * (at + 1) ≤ length table → 1 ≤ rows_at table at
          → beside k table at end ≡ Option.map (λ ws. get_or table (row_words * at + k) 0 ∷ ws) (beside k table (at + rows_at table at) end)
      unfolding beside
      beside_next m s = rw (turned, le-leb (row_words * (at + 1)) (length table) m, le-leb 1 (rows_at table at) s, enough (end - at - 1) (end - (at + rows_at table at)) (at + rows_at table at) end (omega arith) (omega arith))

pub ruleset beside_steps = (nat_tests, beside_end, beside_outside, beside_empty, beside_next)

-- ---- where the rows nest

module _ (k : ℕ) (table : List ℕ) (field : Row → ℕ) (is : (i : ℕ) → field (row_at table i) ≡ get_or table (row_words * i + k) 0) where
  abbrev root_words : ℕ → ℕ → List ℕ
  root_words at end = map field (roots (forest_at table at (end - at)))

  roots_none : (at end : ℕ) → end ≤ at → beside k table at end ≡ some (root_words at end)
  roots_none at end h = let e : end - at ≡ 0 = omega arith in beside_end k table at end h ∙ rw (e, forest_none table at)

  roots_more : (at end : ℕ) → Nests table at (end - at) → at < end → Turn table at end → (Nests table (at + rows_at table at) (end - (at + rows_at table at)) → at + rows_at table at ≤ end → end - (at + rows_at table at) ≤ end - at - 1 → beside k table (at + rows_at table at) end ≡ some (root_words (at + rows_at table at) end))
      → beside k table at end ≡ some (root_words at end)
  roots_more at end n z t later =
      let m = n.room in
      let s = t.some-rows in
      let w = t.within in
      beside_next k table at end z (omega arith) s ∙ rw (later t.rest w (omega arith), t.is, is at)

  roots_from : (f at end : ℕ) → Nests table at (end - at) → at ≤ end → end - at ≤ f → beside k table at end ≡ some (root_words at end)
  roots_from zero at end n l h = roots_none at end (omega arith)
  roots_from (suc f) at end n l h = elim (dec_lt at end) [ yes z ↦ roots_more at end n z (turn table at end n z) (λ u v w. roots_from f (at + rows_at table at) end u v (omega arith)) | no z ↦ roots_none at end (omega arith) ]

  pub beside_roots : (at end : ℕ) → Nests table at (end - at) → at ≤ end → beside k table at end ≡ some (root_words at end)
  beside_roots at end n l = roots_from (end - at) at end n l (omega arith)
