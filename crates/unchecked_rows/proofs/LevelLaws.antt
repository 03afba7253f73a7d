-- Levels: turn by turn as `levels.rt` walks over rows that may not nest, and of a whole table.
use Rattle.std.specs.Prelude.{if◌then◌else◌}
use mathlib.Core.Path.{◌≡◌, refl}
use mathlib.Core.List.{List}
use mathlib.Core.Option.{Option, none, some}
use Prim.Native.Nat.{ℕ, suc, ◌+◌, ◌-◌, ◌*◌, ◌/◌, ◌≤◌, ◌<◌, min, max}
use native.Mathlib.Decide.{dec_lt}
use native.Mathlib.Omega.{arith}
use lib.ListN.{length}
use lib.Dec.{leb}
use borrow.Author.Tests.{le-leb}
use Rattle.std.proofs.lemmas.Bool.Decides.{nat_tests}
use Rattle.datatype.specs.Tree.{Forest, depth, Row}
use Rattle.datatype.specs.Table.{row_words, join, view_of, rows_at}
use Rattle.unchecked_rows.specs.Levels.{levels_up_to, levels_of}
use Rattle.unchecked_rows.specs.Internal.Run.{row_at, run_at}
use Rattle.unchecked_rows.specs.Internal.Levels.{levels_in}
use Rattle.unchecked_rows.proofs.Runs.{run_step, run_none, no_rows, run_all, view_rows}

-- ---- the walk

module _ (most : ℕ) where
  -- the first tree has too many levels, or does not nest
  too_deep : (r : Row) (k n : Option (Forest Row)) → most ≤ levels_up_to (most - 1) k → levels_up_to most (join r k n) ≡ suc most
  unfolding levels_up_to
  too_deep r none n h = refl
  too_deep r (some k) none h = refl
  too_deep r (some k) (some n) h = omega arith

  -- the first tree has its levels, and the rest too
  first_rest : (r : Row) (k n : Option (Forest Row)) → levels_up_to (most - 1) k < most → levels_up_to most (join r k n) ≡ max (levels_up_to (most - 1) k + 1) (levels_up_to most n)
  unfolding levels_up_to
  first_rest r none n h = absurd (omega arith)
  first_rest r (some k) none h = omega arith
  first_rest r (some k) (some n) h = omega arith

  module _ (table : List ℕ) (at end : ℕ) where
    pub levels_end : end ≤ at → levels_in most table at end ≡ 0
    unfolding levels_in levels_up_to
    levels_end h = let e : end - at ≡ 0 = omega arith in rw (e, no_rows table at) (omega arith)

    module _ (room : row_words * end ≤ length table) (l : at < end) where
      unnested : (1 ≤ rows_at table at → rows_at table at ≤ end - at → ⊥) → levels_in most table at end ≡ suc most
      unfolding levels_in levels_up_to
      unnested h = rw (run_none table at (end - at) (omega arith) (omega arith) h)

      pub levels_empty : rows_at table at ≡ 0 → levels_in most table at end ≡ suc most
      levels_empty z = unnested (λ a b. omega arith)

      pub levels_long : end - at < rows_at table at → levels_in most table at end ≡ suc most
      levels_long h = unnested (λ a b. omega arith)

      nested : 1 ≤ rows_at table at → rows_at table at ≤ end - at
          → run_at table at (end - at) ≡ join (row_at table at) (run_at table (at + 1) (at + rows_at table at - (at + 1))) (run_at table (at + rows_at table at) (end - (at + rows_at table at)))
      nested s w =
          let a : at + rows_at table at - (at + 1) ≡ rows_at table at - 1 = omega arith in
          let b : end - (at + rows_at table at) ≡ end - at - rows_at table at = omega arith in
          rw (a, b) (run_step table at (end - at) (omega arith) (omega arith) s w)

      pub levels_deep : 1 ≤ rows_at table at → rows_at table at ≤ end - at → most ≤ levels_in (most - 1) table (at + 1) (at + rows_at table at) → levels_in most table at end ≡ suc most
      unfolding levels_in
      levels_deep s w h = rw (nested s w) (too_deep (row_at table at) _ _ h)

      pub levels_next : 1 ≤ rows_at table at → rows_at table at ≤ end - at → levels_in (most - 1) table (at + 1) (at + rows_at table at) < most
          → levels_in most table at end ≡ max (levels_in (most - 1) table (at + 1) (at + rows_at table at) + 1) (levels_in most table (at + rows_at table at) end)
      unfolding levels_in
      levels_next s w h = rw (nested s w) (first_rest (row_at table at) _ _ h)

      -- no level is allowed
      pub levels_none : most ≡ 0 → levels_in most table at end ≡ suc most
      levels_none z = elim (dec_lt 0 (rows_at table at)) [
        | yes s ↦ elim (dec_lt (end - at) (rows_at table at)) [
          | yes h ↦ levels_long h
          | no h ↦ levels_deep s (omega arith) (omega arith)
        ]
        | no h ↦ levels_empty (omega arith)
      ]

pub ruleset levels = (levels_end, levels_empty, levels_long, levels_deep, levels_next, levels_none)

-- what the loop holds: the deepest level met and the levels of the rest are those of the whole
pub record LevelsSo (table : List ℕ) (most start end deepest at : ℕ) : Type 0 where
  pub upto : at ≤ end
  pub small : deepest ≤ most
  pub so : levels_in most table start end ≡ max deepest (levels_in most table at end)

-- ---- a table

module _ (table : List ℕ) where
  pub levels_left : (length table ≡ row_words * (length table / row_words) → ⊥) → levels_of table ≡ 0
  levels_left h = go (view_of table) refl
    where
      go : (o : Option (Forest Row)) → view_of table ≡ o → levels_of table ≡ 0
      go none e = unfold levels_of levels_up_to in rw e
      go (some f) e = absurd (h (let r = view_rows table f e in omega arith))

  pub levels_whole : length table ≡ row_words * (length table / row_words)
      → levels_of table ≡ (let n = levels_in 64 table 0 (length table / row_words) in if leb n 64 then n else 0)
  unfolding levels_of levels_in
  levels_whole e = let z : length table / row_words - 0 ≡ length table / row_words = omega arith in rw (z, run_all table (length table / row_words) e)

pub ruleset tables = (nat_tests, levels_left, levels_whole)

-- what they come to is at most 64
pub levels_few : (table : List ℕ) → levels_of table ≤ 64
unfolding levels_of
levels_few table = grind (arith, nat_tests)

pub levels_tree : (table : List ℕ) (f : Forest Row) → view_of table ≡ some f → depth f ≤ 64 → levels_of table ≡ depth f
unfolding levels_of levels_up_to
levels_tree table f e h =
    let m : min (depth f) 65 ≡ depth f = omega arith in
    rw (e, m, le-leb (depth f) 64 h)
