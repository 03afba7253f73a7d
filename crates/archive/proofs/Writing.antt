-- Writing the records of nodes.
use mathlib.Core.Path.{◌≡◌, refl, sym, ap, subst, ◌∙◌}
use mathlib.Core.List.{List, [], ◌∷◌, ◌++◌}
use Prim.Native.Nat.{ℕ, ◌+◌, ◌-◌, ◌/◌, ◌≤◌, ◌<◌}
use native.Mathlib.Omega.{arith}
use lib.ListN.{length, length-append}
use lib.Seq.{sets}
use lib.Dec.{T}
use Rattle.std.specs.Int.{w32, to_le_bytes}
use Rattle.datatype.specs.Tree.{Forest, node, depth, Label, label_of, labels}
use Rattle.datatype.specs.Table.{row_words, rows_at, row_at, tree_of}
use Rattle.unchecked_rows.specs.Rows.{forest_at}
use Rattle.row_table.specs.Sound.{is_sound}
use Rattle.writer.specs.declared.Writer.{Writer}
use Rattle.writer.specs.Written.{last_place, written}
use Rattle.writer.proofs.Written.{counted_all, written_then, written_none, written_place, written_sets}
use Rattle.row_table.specs.declared.nodes.Node.{Node}
use Rattle.row_table.specs.declared.nodes.Nodes.{Nodes}
use Rattle.row_table.specs.Nodes.{label_in, children_in, labels_in, IsFirst}
use Rattle.row_table.specs.Internal.Nodes.{rows_in}
use Rattle.row_table.proofs.NodeLaws.{all_labels, none-left, first_labels, levels_left}
use Rattle.archive.proofs.Writables.{tree-writable, tree-few}
use Rattle.archive.proofs.Overwrites.{over}
use Rattle.archive.proofs.ImageLaws.{record-length}
use Rattle.archive.specs.Archive.{record_of, image_of}
use Rattle.archive.specs.Internal.Writes.{Small, Writables, most_bytes, said_bytes, own_bytes, patched}

pub written_two : (w w' w'' : Writer) (s t : List ℕ) → w' ≡ written w s → w'' ≡ written w' t → w'' ≡ written w (s ++ t)
written_two w w' w'' s t e f = f ∙ ap (λ (x : Writer). written x t) e ∙ written_then w s t

-- ---- one record

written-all : (w : Writer) (s : List ℕ) → w.at + length s ≤ last_place → written w s ≡ record w { out = record w.out { now = sets w.out.now w.at s }; at = w.at + length s }
unfolding written
written-all w s h = ap (λ (l : List ℕ). record w { out = record w.out { now = sets w.out.now w.at l }; at = w.at + length l }) (counted_all w.at s h)

-- a record, but for the bytes of its length
own-length : (l : Label) (below : List ℕ) → length (own_bytes l ++ below) ≡ length (record_of l below)
unfolding own_bytes record_of
own-length l below = refl

own-over : (xs : List ℕ) (i : ℕ) (l : Label) (below : List ℕ) → sets (sets xs i (own_bytes l ++ below)) i (to_le_bytes w32 (length (record_of l below))) ≡ sets xs i (record_of l below)
unfolding own_bytes
own-over xs i l below =
    over xs i (0 ∷ 0 ∷ 0 ∷ 0 ∷ []) (to_le_bytes w32 (length (record_of l below))) (said_bytes l ++ below) refl
    ∙ ap (sets xs i) spelled
  where
    spelled : to_le_bytes w32 (length (record_of l below)) ++ (said_bytes l ++ below) ≡ record_of l below
    spelled = ap (λ (n : ℕ). to_le_bytes w32 n ++ (said_bytes l ++ below)) (record-length l below) ∙ unfold record_of in refl

module _ (w w1 w2 w3 : Writer) (l : Label) (below : List ℕ) (own : w1 ≡ written w (own_bytes l)) (kids : w2 ≡ written w1 below) (length-put : w3 ≡ patched w2 w.at) (few : w.at + length (record_of l below) < most_bytes) where
  both : w2 ≡ written w (own_bytes l ++ below)
  both = written_two w w1 w2 (own_bytes l) below own kids

  both-all : w2 ≡ record w { out = record w.out { now = sets w.out.now w.at (own_bytes l ++ below) }; at = w.at + length (record_of l below) }
  both-all =
      both ∙ written-all w (own_bytes l ++ below) (omega (arith, own-length l below))
      ∙ ap (λ (n : ℕ). record w { out = record w.out { now = sets w.out.now w.at (own_bytes l ++ below) }; at = w.at + n }) (own-length l below)

  pub record-written : w3 ≡ written w (record_of l below)
  unfolding patched
  record-written =
      let n : w.at + length (record_of l below) - w.at ≡ length (record_of l below) = omega arith in
      length-put
      ∙ ap (λ (x : Writer). patched x w.at) both-all
      ∙ (λ j. record w { out = record w.out { now = sets (sets w.out.now w.at (own_bytes l ++ below)) w.at (to_le_bytes w32 (n j)) }; at = w.at + length (record_of l below) })
      ∙ ap (λ (s : List ℕ). record w { out = record w.out { now = s }; at = w.at + length (record_of l below) }) (own-over w.out.now w.at l below)
      ∙ sym (written-all w (record_of l below) (omega arith))

-- the place while a record is written
module _ (w w1 w2 : Writer) (l : Label) (below : List ℕ) (own : w1 ≡ written w (own_bytes l)) (few : w.at + length (record_of l below) < most_bytes) where
  own-place : w1.at + length below ≡ w.at + length (record_of l below)
  own-place =
      let a = length-append (own_bytes l) below in
      let b = own-length l below in
      omega (arith, ap (λ (x : Writer). x.at) own, written_place w (own_bytes l) (omega arith))

  pub kids-few : w1.at + length below < most_bytes
  kids-few = omega (arith, own-place)

  pub kids-place : w2 ≡ written w1 below → (w.at ≤ w2.at) × (w2.at - w.at < most_bytes)
  kids-place k =
      let a = own-place in
      let p : w2.at ≡ w1.at + length below = ap (λ (x : Writer). x.at) k ∙ written_place w1 below (omega arith) in
      (omega arith, omega arith)

-- ---- the loop over nodes side by side

-- What it keeps: the records of the nodes that are left, written behind what stands, make the whole.
pub record Putting (level : ℕ) (first : Writer) (nodes : Nodes) (w : Writer) (left : Nodes) : Type 0 where
  pub flat : depth (rows_in left) ≤ level
  pub writable : Writables (labels_in left)
  pub few : w.at + length (image_of (labels_in left)) < most_bytes
  pub so : written w (image_of (labels_in left)) ≡ written first (image_of (labels_in nodes))

module _ (level : ℕ) (first : Writer) (nodes : Nodes) (w : Writer) (left : Nodes) (p : Putting level first nodes w left) where
  pub putting-end : left.start ≡ left.end → w ≡ written first (image_of (labels_in nodes))
  unfolding image_of
  putting-end e = sym (written_none w) ∙ ap (λ (f : Forest Label). written w (image_of f)) (sym (none-left left e)) ∙ p.so

  module _ (n : Node) (next : Nodes) (f : IsFirst left n next) where
    here : labels_in left ≡ node (label_in n) (children_in n) (labels_in next)
    here = first_labels left n next f

    fits : (Small (label_in n) × (length (record_of (label_in n) (image_of (children_in n))) < most_bytes)) × (Writables (children_in n) × Writables (labels_in next))
    fits = subst Writables here p.writable

    image-here : image_of (labels_in left) ≡ record_of (label_in n) (image_of (children_in n)) ++ image_of (labels_in next)
    unfolding image_of
    image-here = ap image_of here

    few-here : w.at + length (record_of (label_in n) (image_of (children_in n))) + length (image_of (labels_in next)) < most_bytes
    few-here =
        let g = p.few in
        omega (arith, ap length image-here, length-append (record_of (label_in n) (image_of (children_in n))) (image_of (labels_in next)))

    pub putting-small : (l : Label) → l ≡ label_in n → Small l
    putting-small l e = subst Small (sym e) fits.0.0

    module _ (kids : Nodes) (of : kids.whole ≡ n.whole) (start : kids.start ≡ n.at + 1) (end : kids.end ≡ n.at + rows_at n.whole.now.tree.rows.now n.at) where
      kids-are : labels_in kids ≡ children_in n
      kids-are = rw (of, start, end) refl

      pub putting-kids : Writables (labels_in kids)
      putting-kids = subst Writables (sym kids-are) fits.1.0

      module _ (l : Label) (e : l ≡ label_in n) (w1 : Writer) (own : w1 ≡ written w (own_bytes l)) where
        own-is : w1 ≡ written w (own_bytes (label_in n))
        own-is = own ∙ ap (λ (x : Label). written w (own_bytes x)) e

        one-few : w.at + length (record_of (label_in n) (image_of (children_in n))) < most_bytes
        one-few = let h = few-here in omega arith

        pub putting-few : w1.at + length (image_of (labels_in kids)) < most_bytes
        putting-few = rw kids-are (kids-few w w1 w1 (label_in n) (image_of (children_in n)) own-is one-few)

        module _ (w2 : Writer) (k : w2 ≡ written w1 (image_of (labels_in kids))) where
          kids-is : w2 ≡ written w1 (image_of (children_in n))
          kids-is = k ∙ ap (λ (x : Forest Label). written w1 (image_of x)) kids-are

          pub putting-place : (w.at ≤ w2.at) × (w2.at - w.at < most_bytes)
          putting-place = kids-place w w1 w2 (label_in n) (image_of (children_in n)) own-is one-few kids-is

          pub putting-next : (w3 : Writer) → w3 ≡ patched w2 w.at → Putting level first nodes w3 next
          putting-next w3 z =
              let r = record-written w w1 w2 w3 (label_in n) (image_of (children_in n)) own-is kids-is z one-few in
              let h = few-here in
              record {
                flat = let a = levels_left left n next f in let b = p.flat in omega arith;
                writable = fits.1.1;
                few = omega (arith, ap (λ (x : Writer). x.at) r, written_place w (record_of (label_in n) (image_of (children_in n))) (omega arith));
                so =
                    ap (λ (x : Writer). written x (image_of (labels_in next))) r
                    ∙ written_then w (record_of (label_in n) (image_of (children_in n))) (image_of (labels_in next))
                    ∙ ap (written w) (sym image-here)
                    ∙ p.so;
              }

-- what a row says is what its node does
pub said-in : (n : Node) (l : Label) (rows : List ℕ) (at : ℕ) → l ≡ label_of n.whole.now.tree.text.now n.whole.now.tree.names.now (row_at rows at) → rows ≡ n.whole.now.tree.rows.now → at ≡ n.at → l ≡ label_in n
said-in n l rows at e r a = e ∙ (λ j. label_of n.whole.now.tree.text.now n.whole.now.tree.names.now (row_at (r j) (a j)))

-- ---- the whole tree

module _ (text names table : List ℕ) (sound : T (is_sound text names table)) where
  abbrev all-nodes : Forest Label
  all-nodes = labels text names (forest_at table 0 (length table / row_words - 0))

  pub all-writable : Writables all-nodes
  all-writable = subst Writables (all_labels text names table sound) (tree-writable text names table sound)

  pub all-few : 0 + length (image_of all-nodes) < most_bytes
  all-few = omega (arith, ap (λ (f : Forest Label). length (image_of f)) (all_labels text names table sound), tree-few text names table sound)

  module _ (w w' : Writer) (start : w.at ≡ 0) (put : w' ≡ written w (image_of all-nodes)) where
    image-put : w' ≡ written w (image_of (tree_of text names table))
    image-put = put ∙ ap (λ (f : Forest Label). written w (image_of f)) (sym (all_labels text names table sound))

    pub image-place : w'.at ≡ length (image_of (tree_of text names table))
    image-place =
        let f = tree-few text names table sound in
        omega (arith, ap (λ (x : Writer). x.at) image-put, written_place w (image_of (tree_of text names table)) (omega arith))

    pub image-bytes : w'.out.now ≡ sets w.out.now 0 (image_of (tree_of text names table))
    image-bytes =
        let f = tree-few text names table sound in
        ap (λ (x : Writer). x.out.now) image-put
        ∙ written_sets w (image_of (tree_of text names table)) (omega arith)
        ∙ ap (λ (i : ℕ). sets w.out.now i (image_of (tree_of text names table))) start

    pub same-output : w'.out.ghost_name ≡ w.out.ghost_name
    unfolding written
    same-output = ap (λ (x : Writer). x.out.ghost_name) put
