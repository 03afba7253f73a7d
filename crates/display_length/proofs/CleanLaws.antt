-- Names and zones of a tree whose text is clean are clean.
use mathlib.Core.Path.{◌≡◌}
use mathlib.Core.Bool.{Bool, true}
use mathlib.Core.List.{List}
use Prim.Native.Nat.{ℕ}
use native.Mathlib.Omega.{arith}
use lib.Dec.{T}
use Rattle.tokenizer.specs.Text.{all}
use Rattle.tokenizer.proofs.Basics.{of_true}
use Rattle.datatype.specs.declared.tree.Tree.{Tree}
use Rattle.datatype.proofs.Parts.{name_short, zone_short}
use Rattle.datatype.specs.Tree.{name_of, zone_of, name_list}
use Rattle.row_table.specs.Sound.{is_sound}
use Rattle.row_table.proofs.SoundTree.{sound_tree}
use Rattle.display_length.specs.declared.printed.PrintedNode.{PrintedNode}
use Rattle.display_length.specs.Internal.Steps.{is_clean, Clean}
use Rattle.display_length.proofs.LatinLaws.{name-all, zone-all}

module _ (text names table : List ℕ) (sound : T (is_sound text names table)) (clean : Bool) (so : clean ≡ true → T (all is_clean text)) where
  zone_clean : (start size : ℕ) → Clean clean (zone_of text start size)
  zone_clean start size =
      let tree = sound_tree text names table sound in
      record {
        short = zone_short text start size 16384 tree.short;
        so = λ e. of_true _ (zone-all is_clean text (so e) start size);
      }

  name_clean : (home start size : ℕ) → Clean clean (name_of text names home start size)
  unfolding is_clean
  name_clean home start size =
      let tree = sound_tree text names table sound in
      rw tree.listed
      (record {
        short = name_short text name_list home start size 16384 tree.short (omega arith);
        so = λ e. of_true _ (name-all is_clean text name_list (so e) tt home start size);
      })

module _ (p : PrintedNode) (s : List ℕ) where
  abbrev tree : Tree
  tree = p.of.now.whole.tree

  pub clean_zone : (start size : ℕ) → s ≡ zone_of tree.text.now start size → Clean p.of.now.clean s
  clean_zone start size is = rw is (zone_clean tree.text.now tree.names.now tree.rows.now p.of.now.whole.sound p.of.now.clean p.of.now.clean_text start size)

  pub clean_name : (home start size : ℕ) → s ≡ name_of tree.text.now tree.names.now home start size → Clean p.of.now.clean s
  clean_name home start size is = rw is (name_clean tree.text.now tree.names.now tree.rows.now p.of.now.whole.sound p.of.now.clean p.of.now.clean_text home start size)
