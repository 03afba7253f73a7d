-- The walk of `tree.rt`: what is counted, and what is left to count.
use mathlib.Core.Path.{◌≡◌, refl, ◌∙◌}
use mathlib.Core.Bool.{Bool, false}
use Prim.Native.Nat.{ℕ, ◌+◌, ◌-◌, ◌*◌, ◌≤◌, ◌<◌}
use native.Mathlib.Omega.{arith}
use lib.Dec.{T, eqb}
use borrow.Author.Tests.{eq-eqb, ne_eqb}
use Rattle.datatype.specs.Kind.{Shape, kinds, shape_of, is_word}
use Rattle.datatype.proofs.KindShapes.{word_leaf}
use Rattle.datatype.specs.Tree.{∅, node, roots, depth, labels}
use Rattle.datatype.specs.Table.{tree_of, rows_at, word_at}
use Rattle.row_table.specs.Sound.{bare}
use Rattle.unchecked_rows.proofs.Runs.{forest_none}
use Rattle.row_table.proofs.SoundTree.{SoundTree, sound-labels}
use Rattle.row_table.specs.declared.nodes.SoundTree.{SoundTree as Whole}
use Rattle.row_table.specs.declared.nodes.Node.{Node}
use Rattle.row_table.specs.declared.nodes.Nodes.{Nodes}
use Rattle.row_table.specs.Nodes.{labels_in, IsFirst}
use Rattle.row_table.specs.Internal.Nodes.{rows_in}
use Rattle.row_table.proofs.NodeLaws.{none-left, first_labels, levels_left, levels_first, tree, few_rows, row_kind, root-at, levels-at}
use Rattle.display_length.specs.declared.printed.Printed.{Printed}
use Rattle.display_length.specs.declared.printed.PrintedNode.{PrintedNode}
use Rattle.display_length.specs.Display.{display_length}
use Rattle.display_length.specs.PrintedLength.{quotes_names}
use Rattle.display_length.specs.Internal.Steps.{word_length, behind_length, row_length, around_length, children_length, type_length}
use Rattle.display_length.specs.Internal.Nodes.{label_in, children_in, levels_below, length_in}
use Rattle.display_length.proofs.LengthLaws.{type_length_lem}

-- ---- the children's lengths

-- how many rows a node is
abbrev size : PrintedNode → ℕ
size n = rows_at n.of.now.whole.tree.rows.now n.at

-- what the loop holds: the bytes counted and the rest are the whole
pub record Counting (s : Shape) (q : Bool) (level : ℕ) (n : PrintedNode) (total : ℕ) (left : Nodes) : Type 0 where
  pub of : left.whole.now ≡ n.of.now.whole
  pub upto : left.end ≡ n.at + size n
  pub few : left.end ≤ 1024
  pub behind : n.at + 1 ≤ left.start
  pub flat : depth (rows_in left) < level
  pub most : total + 100000 ≤ 200000 * (left.start - n.at)
  pub so : total + children_length n.of.now.spelling s q (eqb left.start (n.at + 1)) (labels_in left) ≡ length_in n

module _ (s : Shape) (q : Bool) (level : ℕ) (n : PrintedNode) (total : ℕ) where
  pub counting-start : (m : Node) → m.whole.now ≡ n.of.now.whole → m.at ≡ n.at → (kids : Nodes) → kids.whole ≡ m.whole → kids.start ≡ m.at + 1 → kids.end ≡ m.at + rows_at m.whole.now.tree.rows.now m.at
      → levels_below n < level → s ≡ shape_of (label_in n).kind → q ≡ quotes_names s (roots (labels_in kids)) → total ≡ row_length n.of.now.spelling (label_in n) → total ≤ 100000 → Counting s q level n total kids
  counting-start m in_tree place kids of st en flat sh quotes own l =
      let below : kids.whole.now ≡ n.of.now.whole = rw of in_tree in
      let start : kids.start ≡ n.at + 1 = rw place at st in
      let upto : kids.end ≡ n.at + size n = rw (in_tree, place) at en in
      let ls : labels_in kids ≡ children_in n = rw (below, start, upto) refl in
      let ds : depth (rows_in kids) ≡ levels_below n = rw (below, start, upto) refl in
      let f = few_rows n.of.now.whole.tree.text.now n.of.now.whole.tree.names.now n.of.now.whole.tree.rows.now n.of.now.whole.sound in
      let r = n.nests.room in
      let o = n.some_rows in
      record {
        of = below;
        upto = upto;
        few = omega arith;
        behind = omega arith;
        flat = omega arith;
        most = omega arith;
        so = rw (own, quotes, sh, ls, start, eq-eqb (n.at + 1) (n.at + 1) refl) (unfold length_in type_length in refl);
      }

  module _ (left : Nodes) (v : Counting s q level n total left) where
    -- all children are counted
    pub counting-end : left.start ≡ left.end → total ≡ length_in n
    unfolding children_length
    counting-end e = let z : total + children_length n.of.now.spelling s q (eqb left.start (n.at + 1)) ∅ ≡ length_in n = rw (none-left left e) at v.so in omega arith

    -- a child and what stands around its type are counted
    module _ (row : Node) (next : Nodes) (f : IsFirst left row next) (child : PrintedNode) (same : child.of ≡ n.of) (place : child.at ≡ row.at) (a : ℕ) (l : a ≤ 100000) (b : ℕ) (m : b + 100000 ≤ 200000 * size child) where
      in_tree : row.whole.now ≡ child.of.now.whole
      in_tree = rw (same, f.of) v.of

      pub counting-next : (first : Bool) → first ≡ eqb row.at (n.at + 1) → a ≡ around_length s q first (label_in child) → b ≡ length_in child → Counting s q level n (total + a + b) next
      unfolding children_length length_in type_length
      counting-next first is x y =
          let o = row.some_rows in
          let u = v.upto in
          let k = v.few in
          let h = v.behind in
          let c = v.most in
          let d = levels_left left row next f in
          let w = v.flat in
          let t = f.at in
          let r = f.start in
          let e = f.end in
          let z : size child ≡ rows_at row.whole.now.tree.rows.now row.at = rw (place, ← in_tree) refl in
          record {
            of = rw f.of_left v.of;
            upto = omega arith;
            few = omega arith;
            behind = omega arith;
            flat = omega arith;
            most = omega arith;
            so = rw (ne_eqb next.start (n.at + 1) (λ z. omega arith)) (omega (arith, whole));
          }
        where
          here : children_length n.of.now.spelling s q (eqb left.start (n.at + 1)) (labels_in left) ≡ a + b + children_length n.of.now.spelling s q false (labels_in next)
          here = rw (first_labels left row next f, x, y, is, place, in_tree, same, f.at)

          whole : total + (a + b + children_length n.of.now.spelling s q false (labels_in next)) ≡ length_in n
          whole = rw here at v.so

-- a node's kind is a kind
pub printed_kind : (n : PrintedNode) → word_at n.of.now.whole.tree.rows.now n.at 0 < kinds
printed_kind n = let r = n.nests.room in let s = n.some_rows in row_kind n.of.now.whole n.at (omega arith)

-- a node's children have fewer levels than it, as nodes that are printed
pub child-levels : (of : Whole) (left : Nodes) → left.whole.now ≡ of → (row : Node) (next : Nodes) → IsFirst left row next → (child : PrintedNode) → child.of.now.whole ≡ of → child.at ≡ row.at → levels_below child < depth (rows_in left)
child-levels of left tree row next f child same place =
    let w : row.whole.now ≡ of = rw f.of tree in
    let l = levels_first left row next f in
    rw (same, place, ← w) (omega arith)

-- a node with nothing below it
module _ (n : PrintedNode) (one : size n ≡ 1) (r : ℕ) where
  pub single_length : r ≡ row_length n.of.now.spelling (label_in n) → r ≡ length_in n
  unfolding length_in type_length children_length labels
  single_length e =
      let z : n.at + size n - (n.at + 1) ≡ 0 = omega arith in
      e ∙ rw (z, forest_none n.of.now.whole.tree.rows.now (n.at + 1)) (omega arith)

  -- one that is written by its word alone
  pub single_word : (kind : ℕ) → kind ≡ (label_in n).kind → T (is_word kind) → r ≡ word_length kind → r ≡ length_in n
  unfolding row_length behind_length
  single_word kind so w e = single_length (e ∙ rw (← so, word_leaf kind w) (omega arith))

-- ---- the whole tree

module _ (p : PrintedNode) (first : p.at ≡ 0) where
  pub root-levels : levels_below p < 64
  root-levels = rw first (levels-at p.of.now.whole)

  module _ (t : Printed) (of : p.of.now ≡ t) where
    pub root-says : tree_of t.whole.tree.text.now t.whole.tree.names.now t.whole.tree.rows.now ≡ node (label_in p) (children_in p) ∅
    root-says = rw (of, first) (root-at t.whole)

    pub tree-length : length_in p ≡ display_length t.spelling (tree_of t.whole.tree.text.now t.whole.tree.names.now t.whole.tree.rows.now)
    unfolding length_in labels
    tree-length =
        let w : Whole = t.whole in
        let s : SoundTree w.tree.text.now w.tree.names.now w.tree.rows.now = tree w.tree.text.now w.tree.names.now w.tree.rows.now w.sound in
        let e : p.of.now.spelling ≡ t.spelling = rw of refl in
        rw (e, root-says)
        (type_length_lem t.spelling bare (label_in p) (children_in p) (rw (← root-says, sound-labels w.tree.text.now w.tree.names.now w.tree.rows.now s) s.fits))
