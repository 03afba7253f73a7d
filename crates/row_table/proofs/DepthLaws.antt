-- The depth of a sound tree: the levels of its rows.
use mathlib.Core.Path.{◌≡◌, refl}
use mathlib.Core.Bool.{true, false}
use mathlib.Core.List.{List}
use Prim.Native.Nat.{ℕ, suc, max, ◌≤◌}
use native.Mathlib.Omega.{arith}
use lib.Dec.{T}
use Rattle.tokenizer.specs.Answer.{done, refuse}
use Rattle.datatype.specs.Tree.{Forest, ∅, node, depth, Row, labels}
use Rattle.datatype.specs.Table.{tree_of}
use Rattle.unchecked_rows.specs.Levels.{levels_of}
use Rattle.unchecked_rows.proofs.LevelLaws.{levels_tree}
use Rattle.row_table.specs.Sound.{is_sound, depth_of}
use Rattle.row_table.proofs.SoundTree.{SoundTree, sound_tree, sound-labels}

-- what a tree says has its levels
pub depth_labels : (text names : List ℕ) (f : Forest Row) → depth (labels text names f) ≡ depth f
unfolding labels
depth_labels text names ∅ = refl
depth_labels text names (node r k n) =
    let a = depth_labels text names k in
    let b = depth_labels text names n in
    λ j. max (suc (a j)) (b j)

module _ (text names table : List ℕ) where
  -- the levels of a sound tree's rows are the tree's depth
  pub sound-levels : T (is_sound text names table) → levels_of table ≡ depth (tree_of text names table)
  sound-levels t =
      rw (levels_tree table (node tree.root tree.kids ∅) tree.view (let l = tree.levels in omega arith), sound-labels text names table tree, depth_labels text names (node tree.root tree.kids ∅))
    where
      tree : SoundTree text names table
      tree = sound_tree text names table t

  -- and are at most 64
  pub sound-flat : T (is_sound text names table) → depth (tree_of text names table) ≤ 64
  sound-flat t = let l = tree.levels in rw (sound-labels text names table tree, depth_labels text names (node tree.root tree.kids ∅)) (omega arith)
    where
      tree : SoundTree text names table
      tree = sound_tree text names table t

  pub depth_not : is_sound text names table ≡ false → depth_of text names table ≡ refuse 17
  unfolding depth_of
  depth_not e = rw e

  pub depth_is : is_sound text names table ≡ true → depth_of text names table ≡ done (depth (tree_of text names table))
  unfolding depth_of
  depth_is e = rw e

-- what `levels` and `depth_of` use
pub ruleset sound_levels = (sound-levels)

pub ruleset depths = (depth_not, depth_is)
