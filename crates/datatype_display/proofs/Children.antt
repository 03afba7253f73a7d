-- The types below a node, one behind another.
--   shown-none, shown-first   nodes side by side: they are over, or the first of them and those that are left
--   first_found, too-few, one-child, has-two   the first type below a node's, and the first two
--   root-text   the printed text of a whole tree
use Rattle.std.specs.declared.option.Option.{Option}
use Rattle.std.specs.declared.option.Option.TheVariants.{None, Some}
use mathlib.Core.Path.{◌≡◌, refl, ap, ◌∙◌}
use mathlib.Core.List.{List, [], ◌∷◌}
use Prim.Native.Nat.{◌+◌, ◌<◌}
use native.Mathlib.Omega.{arith}
use lib.ListN.{length}
use Rattle.datatype.specs.Tree.{depth}
use Rattle.datatype.specs.Table.{tree_of, rows_at}
use Rattle.row_table.specs.declared.nodes.Node.{Node}
use Rattle.row_table.specs.declared.nodes.Nodes.{Nodes}
use Rattle.row_table.specs.Nodes.{IsFirst, GivesNode}
use Rattle.row_table.specs.Internal.Nodes.{rows_in}
use Rattle.row_table.proofs.NodeLaws.{none-left, first_labels, levels_left, given, ended}
use Rattle.display_length.specs.declared.printed.Printed.{Printed}
use Rattle.display_length.specs.declared.printed.PrintedNode.{PrintedNode}
use Rattle.display_length.proofs.TreeLaws.{child-levels, root-says}
use Rattle.display_length.specs.declared.words.Spelling.{Spelling}
use Rattle.display_length.specs.Display.{Shown, shown, display}
use Rattle.display_length.specs.Internal.Nodes.{levels_below}
use Rattle.datatype_display.specs.Internal.Steps.{HasFirst, HasTwo, fields_in, text_in, shown_in, all_shown}

module _ (spelling : Spelling) (ns : Nodes) where
  pub shown-none : ns.start ≡ ns.end → all_shown spelling ns ≡ []
  unfolding shown
  shown-none e = rw (none-left ns e)

  pub shown-first : (row : Node) (left : Nodes) → IsFirst ns row left → (n : PrintedNode) → n.of.now.whole ≡ ns.whole.now → n.at ≡ row.at → n.of.now.spelling ≡ spelling → all_shown spelling ns ≡ shown_in n ∷ all_shown spelling left
  unfolding shown text_in
  shown-first row left f n same place alike = rw (first_labels ns row left f, alike, place, same, f.of)

-- the nodes right below one
module _ (n : PrintedNode) (m : Node) (in_tree : m.whole.now ≡ n.of.now.whole) (there : m.at ≡ n.at) (kids : Nodes) (of : kids.whole ≡ m.whole) (start : kids.start ≡ m.at + 1) (end : kids.end ≡ m.at + rows_at m.whole.now.tree.rows.now m.at) where
  pub below-tree : kids.whole.now ≡ n.of.now.whole
  below-tree = rw of in_tree

  pub below-start : kids.start ≡ n.at + 1
  below-start = rw there at start

  below-end : kids.end ≡ n.at + rows_at n.of.now.whole.tree.rows.now n.at
  below-end = rw (in_tree, there) at end

  pub below-levels : depth (rows_in kids) ≡ levels_below n
  below-levels = rw (below-tree, below-start, below-end) refl

  pub below-shown : all_shown n.of.now.spelling kids ≡ fields_in n
  below-shown = rw (below-tree, below-start, below-end) refl

  -- what the iterator gives first
  module _ (r : Option Node) (left : Nodes) (g : GivesNode kids r left) where
    pub none : r ≡ None → fields_in n ≡ []
    none e = rw (← below-shown) (shown-none n.of.now.spelling kids (ended kids r left g e))

    pub too-few : r ≡ None → length (fields_in n) < 2
    too-few e = rw (none e) (omega arith)

    module _ (row : Node) (is : r ≡ Some row) where
      first : IsFirst kids row left
      first = given kids r left g row is

      -- it is of the same tree
      pub first-tree : row.whole.now ≡ n.of.now.whole
      first-tree = rw first.of below-tree

      left-tree : left.whole.now ≡ n.of.now.whole
      left-tree = rw first.of_left below-tree

      pub second-tree : (q : Option Node) (more : Nodes) → GivesNode left q more → (other : Node) → q ≡ Some other → other.whole.now ≡ n.of.now.whole
      second-tree q more h other so = let f = given left q more h other so in rw f.of left-tree

      module _ (child : PrintedNode) (same : child.of ≡ n.of) (place : child.at ≡ row.at) where
        tree-same : child.of.now.whole ≡ n.of.now.whole
        tree-same = rw same refl

        levels : levels_below child < levels_below n
        levels = omega (arith, below-levels, child-levels n.of.now.whole kids below-tree row left first child tree-same place)

        shown-one : fields_in n ≡ shown_in child ∷ all_shown n.of.now.spelling left
        shown-one = rw (← below-shown) (shown-first n.of.now.spelling kids row left first child (rw below-tree tree-same) place (rw same refl))

        pub has-first : HasFirst n child
        has-first = record { levels = levels; others = all_shown n.of.now.spelling left; is = shown-one }

        -- and then
        module _ (q : Option Node) (more : Nodes) (h : GivesNode left q more) where
          pub has-two : (other : Node) → q ≡ Some other → (second : PrintedNode) → second.of ≡ n.of → second.at ≡ other.at → HasTwo n child second
          has-two other so second same' place' =
              let next = given left q more h other so in
              let t : second.of.now.whole ≡ n.of.now.whole = rw same' refl in
              record {
                levels-first = levels;
                levels-second = omega (arith, below-levels, levels_left kids row left first, child-levels n.of.now.whole left left-tree other more next second t place');
                others = all_shown n.of.now.spelling more;
                is = shown-one ∙ ap (λ (ks : List Shown). shown_in child ∷ ks) (shown-first n.of.now.spelling left other more next second (rw left-tree t) place' (rw same' refl));
              }

    -- there is one, and no second
    pub one-child : (row : Node) → r ≡ Some row → (q : Option Node) (more : Nodes) → GivesNode left q more → q ≡ None → length (fields_in n) < 2
    unfolding shown
    one-child row is q more h e =
        rw (← below-shown, first_labels kids row left (given kids r left g row is), none-left left (ended left q more h e)) (omega arith)

pub ruleset first_found = (none)

pub ruleset two_steps = (too-few)

-- the whole tree
pub root-text : (n : PrintedNode) → n.at ≡ 0 → (t : Printed) → n.of.now ≡ t → text_in n ≡ display t.spelling (tree_of t.whole.tree.text.now t.whole.tree.names.now t.whole.tree.rows.now)
unfolding text_in display shown
root-text n first t of =
    let e : n.of.now.spelling ≡ t.spelling = rw of refl in
    rw (root-says n first t of, e)
