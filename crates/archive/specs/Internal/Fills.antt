-- What filling promises. Nothing here has to be believed, since no public function's contract cites
-- it.
use Rattle.std.specs.Prelude.{◌≡◌, Result, Ok, Bool, false, ◌||◌, List, ℕ, min, length, nat_lt, if◌then◌else◌}
use Rattle.tokenizer.specs.Answer.{Out, refused, done, refuse, ◌>>=◌}
use Rattle.datatype.specs.Limits.{max_text, max_levels}
use Rattle.datatype.specs.Tree.{Forest, Label, depth}
use Rattle.datatype.specs.Table.{rows_lent}
use Rattle.packing.specs.declared.packer.Packer.{Packer}
use Rattle.packing.specs.Packer.{put_trees}
use Rattle.packing.specs.declared.Packed.{Packed}
use Rattle.packing.specs.Packed.{packed_size, packed_rows, packed_bytes}
use Rattle.archive.specs.declared.NotRead.{NotRead}
use Rattle.archive.specs.declared.fill.Filled.{Filled}
use Rattle.archive.specs.Archive.{Room, Read, tree_at}
use Rattle.archive.specs.Internal.Said.{read_means}

-- Whether trees have more levels than so many.
abbrev pub too_deep : ℕ → Forest Label → Bool
too_deep level f = nat_lt level (depth f)

-- The room that is left, and whether there was too much depth.
abbrev pub filled : Room → Bool → Filled
filled room deep = record { room = record { rows = room.rows; bytes = room.bytes }; deep = deep }

-- Records that were read, where too much depth may have been met before: what was met, and if there
-- was none, all is packed.
unfoldable pub Fills : Bool → ℕ → Out Read → Packer → Result Filled NotRead → Packer → Type 0
Fills deep level (refused r) before answer after = read_means (λ x. x) answer ≡ refused r
Fills deep level (done t) before answer after =
    (answer ≡ Ok (filled t.room (deep || too_deep level t.trees))) × ((deep || too_deep level t.trees) ≡ false → after ≡ put_trees before t.trees)

-- The same of a whole image.
unfoldable pub FillsTree : Out (Forest Label) → Packer → Result Bool NotRead → Packer → Type 0
FillsTree (refused r) before answer after = read_means (λ x. x) answer ≡ refused r
FillsTree (done f) before answer after = (answer ≡ Ok (too_deep max_levels f)) × (too_deep max_levels f ≡ false → after ≡ put_trees before f)

-- An image that was read into lent rows and a lent text, which stand open on a refusal.
unfoldable pub Packs : Out (Forest Label) → List ℕ → List ℕ → Result Packed NotRead → List ℕ → List ℕ → Type 0
Packs (refused r) rows text answer rows' text' = read_means (λ x. x) answer ≡ refused r
Packs (done f) rows text answer rows' text' = (answer ≡ Ok (packed_size f)) × ((rows' ≡ packed_rows f rows) × (text' ≡ packed_bytes f text))

-- The tree of an image where so many words and bytes are lent, if it has at most 64 levels: else
-- 17.
abbrev pub room_lent : List ℕ → List ℕ → Room
room_lent rows text = record { rows = rows_lent (length rows); bytes = min (length text) max_text }

unfoldable pub flat_at : List ℕ → List ℕ → List ℕ → Out (Forest Label)
flat_at image rows text = do
  f ← tree_at image (room_lent rows text)
  if too_deep max_levels f then refuse 17 else done f
