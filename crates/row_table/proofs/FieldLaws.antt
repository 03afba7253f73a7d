-- The fields of a Struct: the nodes below the root of a sound tree.
--   not-sound               17, where the tree is not sound
--   no-struct, fields-are   25, or the fields, of a sound tree
--   equal-fields            equal sound trees have the same
use mathlib.Core.Path.{◌≡◌, sym, ap, ◌∙◌}
use mathlib.Core.Bool.{false}
use mathlib.Core.List.{List}
use Prim.Native.Nat.{ℕ, ◌+◌}
use native.Mathlib.Omega.{arith}
use lib.Dec.{T, eqb}
use borrow.Author.Tests.{eq-eqb, ne_eqb}
use Rattle.tokenizer.specs.Answer.{refuse}
use Rattle.tokenizer.proofs.Basics.{is_true}
use Rattle.datatype.specs.Kind.{struct_kind}
use Rattle.datatype.specs.Tree.{Forest, ∅, node, Row, label_of}
use Rattle.datatype.proofs.Table.{table_view}
use Rattle.unchecked_rows.specs.Equal.{equal_trees}
use Rattle.unchecked_rows.proofs.Equivalence.{equal-labels}
use Rattle.row_table.proofs.SoundTree.{SoundTree, sound_tree, sound-labels}
use Rattle.datatype.specs.Table.{tree_of, rows_at, word_at}
use Rattle.datatype.specs.Table.{row_at}
use Rattle.row_table.specs.declared.nodes.SoundTree.{SoundTree as Whole}
use Rattle.row_table.specs.declared.nodes.Node.{Node}
use Rattle.row_table.specs.declared.nodes.Nodes.{Nodes}
use Rattle.row_table.specs.Sound.{is_sound, is_struct, fields_of, struct_fields}
use Rattle.row_table.specs.Nodes.{label_in, children_in}
use Rattle.row_table.specs.Fields.{AreFields}
use Rattle.row_table.proofs.NodeLaws.{root_all, root-tree}

pub not-sound : (text names table : List ℕ) → is_sound text names table ≡ false → struct_fields text names table ≡ refuse 17
unfolding struct_fields
not-sound text names table e = rw e

-- the root of a sound tree, and its kind
module _ (w : Whole) (root : Node) (of : root.whole.now ≡ w) (first : root.at ≡ 0) (rows : List ℕ) (i : ℕ) (in_rows : rows ≡ root.whole.now.tree.rows.now) (at : i ≡ root.at) (kind : ℕ) (is : kind ≡ word_at rows i 0) where
  root-kind : (label_in root).kind ≡ kind
  unfolding label_of row_at
  root-kind = sym (is ∙ rw (in_rows, at))

  struct_is : is_struct (tree_of w.tree.text.now w.tree.names.now w.tree.rows.now) ≡ eqb kind struct_kind
  struct_is = ap is_struct (root-tree root first w of) ∙ ap (λ (k : ℕ). eqb k struct_kind) root-kind

  fields_are : fields_of (tree_of w.tree.text.now w.tree.names.now w.tree.rows.now) ≡ children_in root
  fields_are = ap fields_of (root-tree root first w of)

  pub no-struct : (kind ≡ struct_kind → ⊥) → struct_fields w.tree.text.now w.tree.names.now w.tree.rows.now ≡ refuse 25
  unfolding struct_fields
  no-struct d = rw (is_true _ w.sound, struct_is, ne_eqb kind struct_kind d)

  pub fields-are : kind ≡ struct_kind → (ns : Nodes) → ns.whole ≡ root.whole → ns.start ≡ root.at + 1 → ns.end ≡ root.at + rows_at root.whole.now.tree.rows.now root.at → AreFields w ns
  unfolding struct_fields
  fields-are e ns over start end =
      let all = root_all w.tree.text.now w.tree.names.now w.tree.rows.now w.sound in
      record {
        of = rw over of;
        start = rw first at start;
        end = rw (end, of, first) (omega (arith, all));
        say = rw (is_true _ w.sound, struct_is, eq-eqb kind struct_kind e, fields_are, over, start, end);
      }

-- ---- equal trees

module _ (text names table text' names' table' : List ℕ) where
  says-alike : SoundTree text names table → SoundTree text' names' table' → T (equal_trees text names text' names' table table') → tree_of text names table ≡ tree_of text' names' table'
  says-alike s s' t =
      let f : Forest Row = node s.root s.kids ∅ in
      let f' : Forest Row = node s'.root s'.kids ∅ in
      sound-labels text names table s
      ∙ equal-labels text names text' names' f f' (rw (table_view table f s.view, table_view table' f' s'.view) t)
      ∙ sym (sound-labels text' names' table' s')

  module _ (sound : T (is_sound text names table)) (sound' : T (is_sound text' names' table')) (equal : T (equal_trees text names text' names' table table')) where
    pub equal-fields : struct_fields text names table ≡ struct_fields text' names' table'
    unfolding struct_fields
    equal-fields = rw (is_true _ sound, is_true _ sound', says-alike (sound_tree text names table sound) (sound_tree text' names' table' sound') equal)
