-- The field of a number, by the nodes of a sound tree; and rows put one by one.
--   none-there, here, behind   whether it is the next node, or one behind it
--   all_put, next_put          a stretch, by its first row
use Rattle.std.specs.Prelude.{Some, None}
use mathlib.Core.Path.{◌≡◌}
use mathlib.Core.List.{List}
use Prim.Native.Nat.{ℕ, zero, suc, ◌+◌, ◌-◌, ◌≤◌, ◌<◌}
use native.Mathlib.Omega.{arith}
use borrow.Author.Tests.{lt-ltb, le-ltb}
use Rattle.datatype.specs.Table.{rows_at}
use Rattle.row_table.specs.declared.nodes.Node.{Node}
use Rattle.row_table.specs.declared.nodes.Nodes.{Nodes}
use Rattle.row_table.specs.Nodes.{IsFirst}
use Rattle.packing.specs.Packer.{put_row}
use Rattle.packing.specs.declared.packer.Packer.{Packer}
use Rattle.column_out.specs.Internal.Stretch.{nth_row, label_at, put_stretch}

pub none-there : (table : List ℕ) (at end n : ℕ) → at ≡ end → nth_row table at end n ≡ None
unfolding nth_row
none-there table at end zero e = rw (le-ltb at end (omega arith))
none-there table at end (suc n) e = rw (le-ltb at end (omega arith))

module _ (table : List ℕ) (ns left : Nodes) (field : Node) (f : IsFirst ns field left) (of : ns.whole.now.tree.rows.now ≡ table) where
  some : ns.start < ns.end
  some =
      let a = f.at in
      let s = f.start in
      let e = f.end in
      let o = left.ordered in
      let r = field.some_rows in
      omega arith

  pub here : (n : ℕ) → n ≡ 0 → nth_row table ns.start ns.end n ≡ Some field.at
  unfolding nth_row
  here n z = rw (z, lt-ltb ns.start ns.end some, f.at)

  pub behind : (n m : ℕ) → m + 1 ≡ n → nth_row table left.start left.end m ≡ nth_row table ns.start ns.end n
  unfolding nth_row
  behind zero m h = absurd (omega arith)
  behind (suc n) m h =
      let e : m ≡ n = omega arith in
      rw (e, lt-ltb ns.start ns.end some, f.start, f.end, f.at, f.of, of)

-- ---- a stretch, row by row

module _ (text names table : List ℕ) (p : Packer) (i end : ℕ) where
  pub all_put : end ≤ i → put_stretch text names table p i (end - i) ≡ p
  unfolding put_stretch
  all_put h = let e : end - i ≡ 0 = omega arith in rw e

  pub next_put : i < end → put_stretch text names table (put_row p (label_at text names table i) (rows_at table i)) (i + 1) (end - (i + 1)) ≡ put_stretch text names table p i (end - i)
  unfolding put_stretch
  next_put h =
      let e : end - i ≡ suc (end - (i + 1)) = omega arith in
      let f : i + 1 ≡ suc i = omega arith in
      rw (e, f)

pub ruleset putting = (all_put, next_put)
