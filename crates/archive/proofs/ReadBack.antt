-- An image, read, is what was written.
--   read-image       a sound tree's image reads as that tree, or there is no room
--   equal-images     equal sound trees have one image
--   image-equal      sound trees that have one image are equal
use Rattle.std.specs.Prelude.{if◌then◌else◌}
use mathlib.Core.Path.{◌≡◌, refl, sym, ap, subst, ◌∙◌}
use mathlib.Core.Bool.{Bool}
use mathlib.Core.List.{List, [], ◌++◌}
use Prim.Native.Nat.{ℕ, ◌+◌, min}
use native.Mathlib.Omega.{arith}
use native.Mathlib.Decide.{dec_lt}
use borrow.Author.Tests.{le-leb, lt-leb}
use lib.ListN.{length, length-append}
use lib.Dec.{T}
use Rattle.tokenizer.specs.Text.{is_empty}
use Rattle.tokenizer.specs.Answer.{Out, done, refuse, ◌>>=◌}
use Rattle.tokenizer.proofs.Basics.{is_true}
use Rattle.datatype.specs.Tree.{Forest, ∅, node, count, Label, name_list, label_of, labels}
use Rattle.datatype.specs.Table.{table_of, tree_of, rows_lent}
use Rattle.datatype.proofs.Table.{table_view}
use Rattle.unchecked_rows.specs.Equal.{equal_trees}
use Rattle.unchecked_rows.proofs.Equivalence.{equal-labels, labels-equal}
use Rattle.row_table.specs.Sound.{is_sound}
use Rattle.row_table.proofs.SoundTree.{SoundTree, sound_tree, sound-labels}
use Rattle.packing.specs.Packed.{packed_text, packed, packed_size, sum_of_lengths, size_fits, row_text}
use Rattle.packing.proofs.PackedLaws.{packed-length, SoundLabels, sound-says, packed-sound}
use Rattle.archive.specs.Archive.{record_of, image_of, Room, Head, Read, record_at, records_at, tree_at, unarchived}
use Rattle.archive.specs.Internal.Writes.{Writables}
use Rattle.archive.proofs.Holds.{bind_assoc, bind_each}
use Rattle.archive.proofs.ImageLaws.{taken, taken-yes, taken-rows, taken-bytes, taken_then, record-read, image-read, image-length, read}
use Rattle.archive.proofs.Writables.{tree-writable}

module _ (l : Label) (kids : Forest Label) (w : Writables (node l kids ∅)) where
  abbrev f : Forest Label
  f = node l kids ∅

  image-whole : image_of f ≡ record_of l (image_of kids) ++ []
  unfolding image_of
  image-whole = refl

  abbrev rooted : Head → Out (Forest Label)
  rooted h = records_at (length (image_of f)) h.below h.room >>= (λ kids. if is_empty h.behind then done (node h.label kids.trees ∅) else refuse 30)

  tree-read : (room : Room) → tree_at (image_of f) room ≡ (taken (count f) (sum_of_lengths f) room >>= (λ left. done f))
  unfolding tree_at
  tree-read room =
      ap (λ (s : List ℕ). record_at s room >>= rooted) image-whole
      ∙ ap (λ (o : Out Head). o >>= rooted) (record-read l (image_of kids) [] w.0.0 w.0.1 room)
      ∙ bind_assoc (taken 1 (length (row_text l)) room) _ rooted
      ∙ bind_each (taken 1 (length (row_text l)) room) _ _ (λ left.
      ap (λ (o : Out Read). o >>= (λ kids. done (node l kids.trees ∅))) (image-read (length (image_of f)) kids left (let a = image-length f in let b = image-length kids in omega arith) w.1.0)
      ∙ bind_assoc (taken (count kids) (sum_of_lengths kids) left) (read kids) (λ k. done (node l k.trees ∅)))
      ∙ taken_then 1 (length (row_text l)) (count kids) (sum_of_lengths kids) room (λ left. done f)
      ∙ (λ j. taken (rows j) (bytes j) room >>= (λ left. done f))
    where
      rows : 1 + count kids ≡ count f
      rows = omega arith

      bytes : length (row_text l) + sum_of_lengths kids ≡ sum_of_lengths f
      bytes = omega (arith, length-append l.name l.zone)

  module _ (s : SoundLabels l kids) where
    read-labels : (words bytes : ℕ) → unarchived (image_of f) words bytes ≡ (if size_fits (packed_size f) words bytes then done f else refuse 28)
    unfolding unarchived size_fits
    read-labels words bytes =
        ap (λ (o : Out (Forest Label)). o >>= judged) (tree-read room)
        ∙ elim (dec_lt room.rows (count f)) [
          | yes a ↦ ap (λ (o : Out Room). o >>= (λ left. done f) >>= judged) (taken-rows (count f) (sum_of_lengths f) room a) ∙ rw (lt-leb (count f) (rows_lent words) a) refl
          | no a ↦ elim (dec_lt room.bytes (sum_of_lengths f)) [
            | yes b ↦
                ap (λ (o : Out Room). o >>= (λ left. done f) >>= judged) (taken-bytes (count f) (sum_of_lengths f) room b)
                ∙ rw (le-leb (count f) (rows_lent words) (omega arith), packed-length f, lt-leb (sum_of_lengths f) (min bytes 16384) b) refl
            | no b ↦
                ap (λ (o : Out Room). o >>= (λ left. done f) >>= judged) (taken-yes (count f) (sum_of_lengths f) room (omega arith) (omega arith))
                ∙ ap (λ (t : Bool). if t then done f else refuse 17) (is_true _ (packed-sound l kids s (omega (arith, packed-length f))))
                ∙ rw (le-leb (count f) (rows_lent words) (omega arith), packed-length f, le-leb (sum_of_lengths f) (min bytes 16384) (omega arith)) refl
          ]
        ]
      where
        room : Room
        room = record { rows = rows_lent words; bytes = min bytes 16384 }

        judged : Forest Label → Out (Forest Label)
        judged f = if is_sound (packed_text f) name_list (table_of (packed f)) then done f else refuse 17

-- ---- sound trees

module _ (text names table : List ℕ) (sound : T (is_sound text names table)) where
  abbrev tree : SoundTree text names table
  tree = sound_tree text names table sound

  abbrev root : Label
  root = label_of text names tree.root

  abbrev below : Forest Label
  below = labels text names tree.kids

  tree-is : tree_of text names table ≡ node root below ∅
  unfolding labels
  tree-is = sound-labels text names table tree

  pub read-image : (words bytes : ℕ) → unarchived (image_of (tree_of text names table)) words bytes ≡ (if size_fits (packed_size (tree_of text names table)) words bytes then done (tree_of text names table) else refuse 28)
  read-image words bytes =
      subst (λ (f : Forest Label). unarchived (image_of f) words bytes ≡ (if size_fits (packed_size f) words bytes then done f else refuse 28)) (sym tree-is)
      (read-labels root below (subst Writables tree-is (tree-writable text names table sound)) (sound-says text names table tree) words bytes)

module _ (text names table text' names' table' : List ℕ) (sound : T (is_sound text names table)) (sound' : T (is_sound text' names' table')) where
  abbrev s : SoundTree text names table
  s = sound_tree text names table sound

  abbrev s' : SoundTree text' names' table'
  s' = sound_tree text' names' table' sound'

  pub equal-images : T (equal_trees text names text' names' table table') → image_of (tree_of text' names' table') ≡ image_of (tree_of text names table)
  equal-images t =
      ap image_of
      (sound-labels text' names' table' s'
      ∙ sym (equal-labels text names text' names' (node s.root s.kids ∅) (node s'.root s'.kids ∅) (rw (table_view table (node s.root s.kids ∅) s.view, table_view table' (node s'.root s'.kids ∅) s'.view) t))
      ∙ sym (sound-labels text names table s))

  -- trees that say the same are equal
  pub same-equal : tree_of text names table ≡ tree_of text' names' table' → T (equal_trees text names text' names' table table')
  same-equal e =
      rw (← table_view table (node s.root s.kids ∅) s.view, ← table_view table' (node s'.root s'.kids ∅) s'.view)
      (labels-equal text names text' names' (node s.root s.kids ∅) (node s'.root s'.kids ∅) (sym (sound-labels text names table s) ∙ e ∙ sound-labels text' names' table' s'))
