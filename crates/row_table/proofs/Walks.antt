-- A walk over the rows of a sound tree, for other crates: what the row at a place says, and what is known of the runs
-- below it and behind it.
--   labels-turn   the labels of a run: its first row's, its children's, those of the run behind
--   placed-turn   where names and zones stand, for the same three
use mathlib.Core.Path.{◌≡◌}
use mathlib.Core.Bool.{◌&&◌}
use mathlib.Core.List.{List}
use Prim.Native.Nat.{ℕ, ◌+◌, ◌-◌}
use lib.Dec.{T}
use Rattle.tokenizer.proofs.Basics.{and_l, and_r}
use Rattle.datatype.specs.Tree.{Forest, node, Row, Label, label_of, labels}
use Rattle.datatype.specs.Table.{rows_at}
use Rattle.row_table.specs.Sound.{name_placed, zone_placed, placed}
use Rattle.unchecked_rows.specs.Internal.Run.{row_at, forest_at}
use Rattle.unchecked_rows.proofs.Runs.{Turn}

module _ (text names table : List ℕ) (at end : ℕ) (t : Turn table at end) where
  abbrev kids_run : Forest Row
  kids_run = forest_at table (at + 1) (at + rows_at table at - (at + 1))

  abbrev rest_run : Forest Row
  rest_run = forest_at table (at + rows_at table at) (end - (at + rows_at table at))

  abbrev label : Label
  label = label_of text names (row_at table at)

  pub labels-turn : labels text names (forest_at table at (end - at)) ≡ node label (labels text names kids_run) (labels text names rest_run)
  unfolding labels
  labels-turn = rw t.is

  pub placed-turn : T (placed text (forest_at table at (end - at)))
      → T (name_placed text (row_at table at)) × T (zone_placed text (row_at table at)) × T (placed text kids_run) × T (placed text rest_run)
  placed-turn h = parts (row_at table at) kids_run rest_run (rw t.is at h)
    where
      parts : (r : Row) (k n : Forest Row) → T (placed text (node r k n)) → T (name_placed text r) × T (zone_placed text r) × T (placed text k) × T (placed text n)
      parts r k n p = apart (unfold placed in p)
        where
          apart : T (name_placed text r && zone_placed text r && placed text k && placed text n) → T (name_placed text r) × T (zone_placed text r) × T (placed text k) × T (placed text n)
          apart q =
              let a = name_placed text r in
              let b = zone_placed text r in
              let c = placed text k in
              let d = placed text n in
              (and_l a b (and_l (a && b) c (and_l (a && b && c) d q)), and_r a b (and_l (a && b) c (and_l (a && b && c) d q)), and_r (a && b) c (and_l (a && b && c) d q), and_r (a && b && c) d q)
