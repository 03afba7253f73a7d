-- Trees side by side, and the n-th of them cut out.
--   fewer            there is no n-th
--   Cut, cut         there is: the rows before it and behind it, put one behind the other, are the others written at once
use Rattle.std.specs.Prelude.{Some, None}
use Rattle.std.specs.declared.option.Option.{Option}
use mathlib.Core.Path.{◌≡◌, ap, ◌∙◌, subst}
use mathlib.Core.Bool.{true}
use mathlib.Core.List.{List, ◌++◌}
use Prim.Native.Nat.{ℕ, zero, suc, ◌+◌, ◌-◌, ◌≤◌, ◌<◌}
use native.Mathlib.Decide.{dec_lt}
use native.Mathlib.Omega.{arith}
use lib.ListN.{length, length-append}
use borrow.Author.Tests.{lt-ltb, le-ltb}
use Rattle.datatype.specs.Tree.{Forest, node, count, roots, Label, labels}
use Rattle.datatype.specs.Table.{rows_at}
use Rattle.unchecked_rows.specs.Rows.{forest_at}
use Rattle.unchecked_rows.specs.Internal.Run.{Nests}
use Rattle.unchecked_rows.proofs.Runs.{Turn, turn, forest_none, count_forest}
use Rattle.unchecked_rows.proofs.RowList.{count_labels}
use Rattle.row_table.proofs.Walks.{labels-turn}
use Rattle.packing.specs.Packed.{row_text, packed_text}
use Rattle.packing.specs.Packer.{row_written, trees_written, trees_fit}
use Rattle.packing.specs.declared.packer.Packer.{Packer}
use Rattle.packing.proofs.PackerRuns.{fits_next, node-written}
use Rattle.column_out.specs.ColumnOut.{without}
use Rattle.column_out.specs.Internal.Stretch.{nth_row, label_at, stretch_length, put_stretch}
use Rattle.column_out.proofs.Stretches.{run, put_split, length_split, RunPacks, run_packs, kids-count, node_long, node_put}

module _ (text names table : List ℕ) where
  no-trees : (at end : ℕ) → (at < end → ⊥) → length (roots (run text names table at end)) ≡ 0
  unfolding labels
  no-trees at end h = let z : end - at ≡ 0 = omega arith in rw (z, forest_none table at)

  one-more : (at end : ℕ) → Turn table at end → length (roots (run text names table at end)) ≡ suc (length (roots (run text names table (at + rows_at table at) end)))
  one-more at end t = rw (labels-turn text names table at end t)

  pub fewer : (n at end : ℕ) → Nests table at (end - at) → nth_row table at end n ≡ None → length (roots (run text names table at end)) ≤ n
  unfolding nth_row
  fewer zero at end h e = elim (dec_lt at end) [ yes l ↦ absurd (let z : ◌≡◌ {A = Option ℕ} (Some at) None = rw (lt-ltb at end l) at e in cc) | no l ↦ omega (arith, no-trees at end l) ]
  fewer (suc n) at end h e = elim (dec_lt at end) [ yes l ↦ some l (turn table at end h l) (fewer n (at + rows_at table at) end) | no l ↦ omega (arith, no-trees at end l) ]
    where
      some : at < end → Turn table at end → (Nests table (at + rows_at table at) (end - (at + rows_at table at)) → nth_row table (at + rows_at table at) end n ≡ None → length (roots (run text names table (at + rows_at table at) end)) ≤ n)
          → length (roots (run text names table at end)) ≤ suc n
      some l t f = omega (arith, one-more at end t, f t.rest (rw (lt-ltb at end l) at e))

  -- The n-th of the trees from row at to row end begins at row first.
  pub record Cut (at end n first : ℕ) : Type 0 where
    pub begins : at ≤ first
    pub some-rows : 1 ≤ rows_at table first
    pub within : first + rows_at table first ≤ end
    pub there : n < length (roots (run text names table at end))
    pub rows : count (without n (run text names table at end)) ≡ (first - at) + (end - (first + rows_at table first))
    pub long : stretch_length text names table at (first - at) + stretch_length text names table (first + rows_at table first) (end - (first + rows_at table first)) ≡ length (packed_text (without n (run text names table at end)))
    pub put : (p : Packer) → trees_fit p (without n (run text names table at end)) ≡ true
        → put_stretch text names table (put_stretch text names table p at (first - at)) (first + rows_at table first) (end - (first + rows_at table first)) ≡ trees_written p (without n (run text names table at end))

  module _ (at end : ℕ) (t : Turn table at end) where
    abbrev next : ℕ
    next = at + rows_at table at

    abbrev own : Label
    own = label_at text names table at

    abbrev kids : Forest Label
    kids = run text names table (at + 1) next

    whole : run text names table at end ≡ node own kids (run text names table next end)
    whole = labels-turn text names table at end t

    below : RunPacks text names table (at + 1) next
    below = run_packs text names table (at + 1) next t.kids

    cut-first : Cut at end 0 at
    unfolding put_stretch stretch_length
    cut-first =
        let r = run_packs text names table next end t.rest in
        let z : at - at ≡ 0 = omega arith in
        record {
          begins = omega arith;
          some-rows = t.some-rows;
          within = t.within;
          there = rw whole (omega arith);
          rows = rw whole (omega (arith, count_labels text names (forest_at table next (end - next)), count_forest table next (end - next) t.rest));
          long = rw (whole, z) (omega (arith, r.long));
          put = rw (whole, z) r.put;
        }

    module _ (n first : ℕ) (c : Cut next end n first) where
      abbrev rest : Forest Label
      rest = without n (run text names table next end)

      abbrev behind : ℕ
      behind = first + rows_at table first

      before : first - at ≡ rows_at table at + (first - next)
      before = let b = c.begins in omega arith

      later-long : stretch_length text names table at (first - at) + stretch_length text names table behind (end - behind) ≡ length (packed_text (node own kids rest))
      unfolding packed_text
      later-long =
          rw (before, length_split text names table (rows_at table at) (first - next) at)
          (omega (arith, node_long text names table at end t below, c.long, length-append (row_text own) (packed_text kids ++ packed_text rest), length-append (packed_text kids) (packed_text rest)))

      later-put : (p : Packer) → trees_fit p (node own kids rest) ≡ true → put_stretch text names table (put_stretch text names table p at (first - at)) behind (end - behind) ≡ trees_written p (node own kids rest)
      later-put p h =
          let q = row_written p own (suc (count kids)) in
          ap (λ (k : ℕ). put_stretch text names table (put_stretch text names table p at k) behind (end - behind)) before
          ∙ ap (λ (x : Packer). put_stretch text names table x behind (end - behind)) (put_split text names table (rows_at table at) (first - next) at p)
          ∙ ap (λ (x : Packer). put_stretch text names table (put_stretch text names table x next (first - next)) behind (end - behind)) (node_put text names table at end t below p rest h)
          ∙ c.put (trees_written q kids) (fits_next p own (suc (count kids)) kids rest h)
          ∙ node-written p own kids rest

      cut-later : Cut at end (suc n) first
      cut-later =
          let b = c.begins in
          let s = t.some-rows in
          record {
            begins = omega arith;
            some-rows = c.some-rows;
            within = c.within;
            there = let l = c.there in rw whole (omega arith);
            rows = let r = c.rows in let w = kids-count text names table at end t in rw whole (omega arith);
            long = rw whole later-long;
            put = rw whole later-put;
          }

  pub cut : (n at end first : ℕ) → Nests table at (end - at) → nth_row table at end n ≡ Some first → Cut at end n first
  unfolding nth_row
  cut zero at end first h e =
      elim (dec_lt at end) [
        | yes l ↦ (let z : ◌≡◌ {A = Option ℕ} (Some at) (Some first) = rw (lt-ltb at end l) at e in let s : at ≡ first = cc in subst (λ (k : ℕ). Cut at end 0 k) s (cut-first at end (turn table at end h l)))
        | no l ↦ absurd (let z : ◌≡◌ {A = Option ℕ} None (Some first) = rw (le-ltb at end (omega arith)) at e in cc)
      ]
  cut (suc n) at end first h e =
      elim (dec_lt at end) [
        | yes l ↦ some l (turn table at end h l) (cut n (at + rows_at table at) end first)
        | no l ↦ absurd (let z : ◌≡◌ {A = Option ℕ} None (Some first) = rw (le-ltb at end (omega arith)) at e in cc)
      ]
    where
      some : at < end → Turn table at end → (Nests table (at + rows_at table at) (end - (at + rows_at table at)) → nth_row table (at + rows_at table at) end n ≡ Some first → Cut (at + rows_at table at) end n first) → Cut at end (suc n) first
      some l t f = cut-later at end t n first (f t.rest (rw (lt-ltb at end l) at e))
