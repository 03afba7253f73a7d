-- Stretches of a table's rows that are trees side by side, packed.
--   put_split, length_split   a stretch in two parts
--   node_put, node_long       a tree, whose rows below its first are known
--   run_packs                 trees side by side: put row by row they are written at once
use mathlib.Core.Path.{◌≡◌, sym, ap, ◌∙◌}
use mathlib.Core.Bool.{true}
use mathlib.Core.List.{List, ◌++◌}
use Prim.Native.Nat.{ℕ, zero, suc, ◌+◌, ◌-◌, ◌≤◌, ◌<◌}
use native.Mathlib.Decide.{dec_lt}
use native.Mathlib.Omega.{arith}
use lib.ListN.{length, length-append}
use Rattle.datatype.specs.Tree.{Forest, node, count, Label, labels}
use Rattle.datatype.specs.Table.{rows_at}
use Rattle.unchecked_rows.specs.Rows.{forest_at}
use Rattle.unchecked_rows.specs.Internal.Run.{Nests}
use Rattle.unchecked_rows.proofs.Runs.{Turn, turn, forest_none, count_forest}
use Rattle.unchecked_rows.proofs.RowList.{count_labels}
use Rattle.row_table.proofs.Walks.{labels-turn}
use Rattle.packing.specs.Packed.{row_text, packed_text}
use Rattle.packing.specs.Packer.{put_row, row_written, trees_written, trees_fit}
use Rattle.packing.specs.declared.packer.Packer.{Packer}
use Rattle.packing.proofs.PackerRuns.{fits_row, fits_kids, fits_next, node-written, none-written}
use Rattle.column_out.specs.Internal.Stretch.{label_at, stretch_length, put_stretch}

module _ (text names table : List ℕ) where
  -- what the trees say that stand side by side from row at to row end
  abbrev pub run : ℕ → ℕ → Forest Label
  run at end = labels text names (forest_at table at (end - at))

  pub put_split : (a b i : ℕ) (p : Packer) → put_stretch text names table p i (a + b) ≡ put_stretch text names table (put_stretch text names table p i a) (i + a) b
  unfolding put_stretch
  put_split zero b i p =
      let e : 0 + b ≡ b = omega arith in
      let f : i + 0 ≡ i = omega arith in
      rw (e, f)
  put_split (suc a) b i p =
      let e : suc a + b ≡ suc (a + b) = omega arith in
      let f : i + suc a ≡ suc i + a = omega arith in
      rw (e, f) (put_split a b (suc i) (put_row p (label_at text names table i) (rows_at table i)))

  pub length_split : (a b i : ℕ) → stretch_length text names table i (a + b) ≡ stretch_length text names table i a + stretch_length text names table (i + a) b
  unfolding stretch_length
  length_split zero b i =
      let e : 0 + b ≡ b = omega arith in
      let f : i + 0 ≡ i = omega arith in
      rw (e, f) (omega arith)
  length_split (suc a) b i =
      let e : suc a + b ≡ suc (a + b) = omega arith in
      let f : i + suc a ≡ suc i + a = omega arith in
      rw (e, f) (omega (arith, length_split a b (suc i)))

  -- The rows from row at to row end are the trees that they say: as long, and put row by row these are written at once.
  pub record RunPacks (at end : ℕ) : Type 0 where
    pub long : stretch_length text names table at (end - at) ≡ length (packed_text (run at end))
    pub put : (p : Packer) → trees_fit p (run at end) ≡ true → put_stretch text names table p at (end - at) ≡ trees_written p (run at end)

  module _ (at end : ℕ) (t : Turn table at end) where
    abbrev below : ℕ
    below = at + rows_at table at

    abbrev own : Label
    own = label_at text names table at

    abbrev kids : Forest Label
    kids = run (at + 1) below

    pub kids-count : rows_at table at ≡ suc (count (run (at + 1) (at + rows_at table at)))
    kids-count =
        let s = t.some-rows in
        omega (arith, count_labels text names (forest_at table (at + 1) (below - (at + 1))), count_forest table (at + 1) (below - (at + 1)) t.kids)

    module _ (k : RunPacks (at + 1) (at + rows_at table at)) where
      pub node_long : stretch_length text names table at (rows_at table at) ≡ length (row_text (label_at text names table at)) + length (packed_text (run (at + 1) (at + rows_at table at)))
      unfolding stretch_length
      node_long =
          let s = t.some-rows in
          let e : rows_at table at ≡ suc (below - (at + 1)) = omega arith in
          let f : suc at ≡ at + 1 = omega arith in
          ap (stretch_length text names table at) e ∙ (λ j. length (row_text own) + stretch_length text names table (f j) (below - (at + 1))) ∙ ap (λ (n : ℕ). length (row_text own) + n) k.long

      pub node_put : (p : Packer) (next : Forest Label) → trees_fit p (node (label_at text names table at) (run (at + 1) (at + rows_at table at)) next) ≡ true
          → put_stretch text names table p at (rows_at table at) ≡ trees_written (row_written p (label_at text names table at) (suc (count (run (at + 1) (at + rows_at table at))))) (run (at + 1) (at + rows_at table at))
      unfolding put_stretch
      node_put p next h =
          let s = t.some-rows in
          let e : rows_at table at ≡ suc (below - (at + 1)) = omega arith in
          let f : suc at ≡ at + 1 = omega arith in
          let r : put_row p own (rows_at table at) ≡ row_written p own (suc (count kids)) = ap (put_row p own) kids-count ∙ (unfold put_row in rw (fits_row p own kids next h)) in
          ap (put_stretch text names table p at) e
          ∙ (λ j. put_stretch text names table (r j) (f j) (below - (at + 1)))
          ∙ k.put (row_written p own (suc (count kids))) (fits_kids p own (suc (count kids)) kids next h)

    module _ (k : RunPacks (at + 1) (at + rows_at table at)) (r : RunPacks (at + rows_at table at) end) where
      abbrev rest : Forest Label
      rest = run below end

      parts : end - at ≡ rows_at table at + (end - below)
      parts = let w = t.within in omega arith

      whole : run at end ≡ node own kids rest
      whole = labels-turn text names table at end t

      whole-long : stretch_length text names table at (end - at) ≡ length (packed_text (node own kids rest))
      unfolding packed_text
      whole-long =
          ap (stretch_length text names table at) parts ∙ length_split (rows_at table at) (end - below) at
          ∙ omega (arith, node_long k, r.long, length-append (row_text own) (packed_text kids ++ packed_text rest), length-append (packed_text kids) (packed_text rest))

      whole-put : (p : Packer) → trees_fit p (node own kids rest) ≡ true → put_stretch text names table p at (end - at) ≡ trees_written p (node own kids rest)
      whole-put p h =
          ap (put_stretch text names table p at) parts
          ∙ put_split (rows_at table at) (end - below) at p
          ∙ ap (λ (q : Packer). put_stretch text names table q below (end - below)) (node_put k p rest h)
          ∙ r.put (trees_written (row_written p own (suc (count kids))) kids) (fits_next p own (suc (count kids)) kids rest h)
          ∙ node-written p own kids rest

      turn_packs : RunPacks at end
      turn_packs = record { long = rw whole whole-long; put = rw whole whole-put }

  none_packs : (at end : ℕ) → end ≤ at → RunPacks at end
  unfolding labels put_stretch stretch_length packed_text
  none_packs at end h =
      let e : end - at ≡ 0 = omega arith in
      record { long = rw (e, forest_none table at); put = rw (e, forest_none table at) (λ p t. sym (none-written p)) }

  packs : (m at end : ℕ) → end - at ≤ m → Nests table at (end - at) → RunPacks at end
  packs zero at end h n = none_packs at end (omega arith)
  packs (suc m) at end h n = elim (dec_lt at end) [ yes l ↦ some at end m h l (turn table at end n l) (packs m (at + 1)) (packs m (at + rows_at table at) end) | no l ↦ none_packs at end (omega arith) ]
    where
      some : (at end m : ℕ) → end - at ≤ suc m → at < end → Turn table at end
          → ((to : ℕ) → to - (at + 1) ≤ m → Nests table (at + 1) (to - (at + 1)) → RunPacks (at + 1) to)
          → (end - (at + rows_at table at) ≤ m → Nests table (at + rows_at table at) (end - (at + rows_at table at)) → RunPacks (at + rows_at table at) end) → RunPacks at end
      some at end m h l t kids rest =
          let s = t.some-rows in
          let w = t.within in
          turn_packs at end t (kids (at + rows_at table at) (omega arith) t.kids) (rest (omega arith) t.rest)

  pub run_packs : (at end : ℕ) → Nests table at (end - at) → RunPacks at end
  run_packs at end n = packs (end - at) at end (omega arith) n
