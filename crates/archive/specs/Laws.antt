-- What holds of images, beyond what each call answers. The contracts of `write_archive` and
-- `read_archive` cite these.
use Rattle.std.specs.Prelude.{◌≡◌, List, ℕ, ◌+◌, ◌*◌, ◌≤◌, T, if◌then◌else◌}
use Rattle.tokenizer.specs.Answer.{done, refuse}
use Rattle.datatype.specs.Tree.{Forest, count, Label, name_list}
use Rattle.datatype.specs.Table.{tree_of}
use Rattle.unchecked_rows.specs.Equal.{equal_trees}
use Rattle.row_table.specs.Sound.{is_sound}
use Rattle.packing.specs.Packed.{packed_size, size_fits, sum_of_lengths}
use Rattle.archive.specs.Archive.{record_bytes, image_of, unarchived}

-- An image has 17 bytes for each row, and the bytes of names and zones.
abbrev pub HasLength : Forest Label → ℕ → Type 0
HasLength f n = n ≡ record_bytes * count f + sum_of_lengths f

-- An image reads as the tree that it was written from, or there is no room for it.
abbrev pub ReadsBack : Forest Label → List ℕ → Type 0
ReadsBack f image =
    (words bytes : ℕ)
    → unarchived image words bytes
    ≡ (if size_fits (packed_size f) words bytes then done f else refuse 28)

module _ (text names table : List ℕ) where
  -- Every equal sound tree has this image.
  abbrev pub IsImage : List ℕ → Type 0
  IsImage image =
      (text' names' table' : List ℕ)
      → T (is_sound text' names' table')
      → T (equal_trees text names text' names' table table')
      → image_of (tree_of text' names' table') ≡ image

-- Rows over a text that were read from an image are a sound tree. It has that image and no other,
-- and it is equal to every sound tree that has it.
module _ (image text table : List ℕ) where
  pub record IsRead : Type 0 where
    pub sound : T (is_sound text name_list table)
    pub one-image : image_of (tree_of text name_list table) ≡ image
    pub equal : (text' names' table' : List ℕ)
        → T (is_sound text' names' table')
        → image_of (tree_of text' names' table') ≡ image
        → T (equal_trees text name_list text' names' table table')

-- More rows and more bytes lent change nothing of what is read.
abbrev pub ReadsWithMore : List ℕ → ℕ → ℕ → Type 0
ReadsWithMore image words bytes =
    (words' bytes' : ℕ)
    → words ≤ words'
    → bytes ≤ bytes'
    → unarchived image words' bytes' ≡ unarchived image words bytes
