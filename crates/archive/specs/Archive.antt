-- Types in the archive record: the image of a tree, and the tree of an image. A record is its
-- length in 32 bits, all that stands below it counted in; its kind in 16; role and union id, a byte
-- each; word 4 in 32; word 5 in a byte; the name and the zone, each behind its length in 16; then
-- its children's records. All little-endian.
use Rattle.std.specs.Prelude.{List, [], ◌∷◌, ◌++◌, ℕ, zero, suc, ◌+◌, ◌-◌, min, length, take, drop, replicate, get_or, nat_le, nat_lt, if◌then◌else◌}
use Rattle.std.specs.Int.{Width, w16, w32, byte_len, to_le_bytes, from_le_bytes}
use Rattle.tokenizer.specs.Text.{is_empty}
use Rattle.tokenizer.specs.Answer.{Out, refused, done, refuse, ◌>>=◌}
use Rattle.datatype.specs.Limits.{max_text}
use Rattle.datatype.specs.Kind.{kinds}
use Rattle.datatype.specs.Tree.{Forest, ∅, node, Label, name_list}
use Rattle.datatype.specs.Table.{table_of, tree_of, rows_lent}
use Rattle.row_table.specs.Sound.{is_sound}
use Rattle.packing.specs.declared.Packed.{Packed}
use Rattle.archive.specs.declared.write.NotWritten.{NotWritten}
use Rattle.archive.specs.declared.write.NotWritten.TheVariants as W
use Rattle.archive.specs.declared.NotRead.{NotRead}
use Rattle.archive.specs.declared.NotRead.TheVariants as R
use Rattle.packing.specs.Packed.{row_text, packed_text, packed, packed_rows, packed_bytes, size_by}

-- ---- the image of a tree

-- How many bytes a record has without name, zone and children.
abbrev pub record_bytes : ℕ
record_bytes = 17

-- A name or a zone behind its length.
abbrev pub with_length : List ℕ → List ℕ
with_length s = to_le_bytes w16 (length s) ++ s

-- The record of what a row says, over its children's records.
unfoldable pub record_of : Label → List ℕ → List ℕ
record_of l below =
    to_le_bytes w32 (record_bytes + length (row_text l) + length below)
    ++ to_le_bytes w16 l.kind
    ++ (l.role ∷ l.union_id ∷ [])
    ++ to_le_bytes w32 l.number
    ++ (l.scale ∷ [])
    ++ with_length l.name
    ++ with_length l.zone
    ++ below

-- The image of a run of trees: their records, one behind the other.
unfoldable pub image_of : Forest Label → List ℕ
image_of ∅ = []
image_of (node l kids next) = record_of l (image_of kids) ++ image_of next

-- ---- writing

-- The image of a tree, where so many bytes are lent: 17, then 28.
unfoldable pub archived : List ℕ → List ℕ → List ℕ → ℕ → Out (List ℕ)
archived text names table bytes =
    let image = image_of (tree_of text names table) in
    let fits = if nat_le (length image) bytes then done image else refuse 28 in
    if is_sound text names table then fits else refuse 17

-- The answer, the image's length, and what the lent bytes then hold: the image, and past it what
-- they held.
abbrev pub length_by : Out (List ℕ) → Out ℕ
length_by (refused r) = refused r
length_by (done image) = done (length image)

abbrev pub image_by : Out (List ℕ) → List ℕ → List ℕ
image_by (refused r) out = out
image_by (done image) out = image ++ drop (length image) out

module _ (text names table : List ℕ) (out : List ℕ) where
  unfoldable pub archive_answer : Out ℕ
  archive_answer = length_by (archived text names table (length out))

  unfoldable pub archive_bytes : List ℕ
  archive_bytes = image_by (archived text names table (length out)) out

-- ---- reading

-- How many rows, and how many bytes of names and zones, there is still room for.
pub record Room : Type 0 where
  pub rows : ℕ
  pub bytes : ℕ

-- What was taken from the start of some bytes, and the bytes behind it.
pub record Taken (A : Type 0) : Type 0 where
  pub value : A
  pub rest : List ℕ

-- A number at the start of some bytes: 30 where it is not whole.
abbrev pub number_at : Width → List ℕ → Out (Taken ℕ)
number_at w s =
    let size = byte_len w in
    let taken : Taken ℕ = record { value = from_le_bytes w (take size s); rest = drop size s } in
    if nat_le size (length s) then done taken else refuse 30

-- So many bytes at the start of some: 30 where they are fewer.
abbrev pub part_at : ℕ → List ℕ → Out (Taken (List ℕ))
part_at n s =
    let taken : Taken (List ℕ) = record { value = take n s; rest = drop n s } in
    if nat_le n (length s) then done taken else refuse 30

-- So much of the room is taken: 28 where there is less. What is left.
abbrev pub room_left : ℕ → ℕ → Out ℕ
room_left n room = if nat_le n room then done (room - n) else refuse 28

-- A name or a zone behind its length, inside its record; then its room.
unfoldable pub string_at : List ℕ → Out (Taken (List ℕ))
string_at s = do
  n ← number_at w16 s
  part_at n.value n.rest

-- A record without its children: what it says, its children's records, what stands behind it, and
-- the room left.
pub record Head : Type 0 where
  pub label : Label
  pub below : List ℕ
  pub behind : List ℕ
  pub room : Room

-- A record's length: whole, at least 17, and not past what its parent or the image has left: else
-- 30.
unfoldable pub whole_record : List ℕ → Out (Taken (List ℕ))
whole_record s = do
  n ← number_at w32 s
  if nat_le record_bytes n.value then part_at n.value s else refuse 30

-- A name and a zone, what stands behind them, and how many bytes there is room for then.
pub record Strings : Type 0 where
  pub name : List ℕ
  pub zone : List ℕ
  pub rest : List ℕ
  pub left : ℕ

-- The name, first the bytes (30) and then the room (28), and the zone likewise.
unfoldable pub strings_at : List ℕ → ℕ → Out Strings
strings_at s room = do
  name ← string_at s
  bytes ← room_left (length name.value) room
  zone ← string_at name.rest
  left ← room_left (length zone.value) bytes
  done (record { name = name.value; zone = zone.value; rest = zone.rest; left = left })

-- The kind that some bytes begin with.
abbrev pub kind_at : List ℕ → Out ℕ
kind_at s = let k = from_le_bytes w16 (take 2 s) in if nat_lt k kinds then done k else refuse 31

-- What a record says: its kind, role, union id and both numbers, by the bytes behind its length,
-- and its name and zone.
abbrev pub label_from : List ℕ → ℕ → Strings → Label
label_from s kind p =
    record {
      kind = kind;
      role = get_or s 2 0;
      union_id = get_or s 3 0;
      number = from_le_bytes w32 (take 4 (drop 4 s));
      scale = get_or s 8 0;
      name = p.name;
      zone = p.zone;
    }

-- The record that some bytes begin with: its length (30), its kind (31), a row for it (28), its
-- name and its zone. What is left of it are its children's records.
unfoldable pub record_at : List ℕ → Room → Out Head
record_at s room = do
  r ← whole_record s
  let body = drop 4 r.value
  kind ← kind_at body
  rows ← room_left 1 room.rows
  p ← strings_at (drop 9 body) room.bytes
  let room : Room = record { rows = rows; bytes = p.left }
  done (record { label = label_from body kind p; below = p.rest; behind = r.rest; room = room })

-- Some trees that were read, and the room left behind them.
pub record Read : Type 0 where
  pub trees : Forest Label
  pub room : Room

-- The records that some bytes are, one behind the other, each with its children's. The first number
-- only falls, and never runs out where it is at least the number of bytes.
unfoldable pub records_at : ℕ → List ℕ → Room → Out Read
records_at zero s room = done (record { trees = ∅; room = room })
records_at (suc f) [] room = done (record { trees = ∅; room = room })
records_at (suc f) (b ∷ s) room = do
  h ← record_at (b ∷ s) room
  kids ← records_at f h.below h.room
  next ← records_at f h.behind kids.room
  done (record { trees = node h.label kids.trees next.trees; room = next.room })

-- The tree of an image: the root's record with its children's, and bytes behind it are the last
-- fault (30).
unfoldable pub tree_at : List ℕ → Room → Out (Forest Label)
tree_at image room = do
  h ← record_at image room
  kids ← records_at (length image) h.below h.room
  if is_empty h.behind then done (node h.label kids.trees ∅) else refuse 30

-- The same where so many words and bytes are lent; then, packed, it is to be a sound tree (17).
unfoldable pub unarchived : List ℕ → ℕ → ℕ → Out (Forest Label)
unarchived image words bytes = do
  f ← tree_at image (record { rows = rows_lent words; bytes = min bytes max_text })
  if is_sound (packed_text f) name_list (table_of (packed f)) then done f else refuse 17

-- What the lent rows and the lent text then hold: all zeros on a refusal.
abbrev pub rows_by : Out (Forest Label) → List ℕ → List ℕ
rows_by (refused r) rows = replicate (length rows) 0
rows_by (done f) rows = packed_rows f rows

abbrev pub text_by : Out (Forest Label) → List ℕ → List ℕ
text_by (refused r) text = replicate (length text) 0
text_by (done f) text = packed_bytes f text

module _ (image rows text : List ℕ) where
  unfoldable pub unarchive_answer : Out Packed
  unarchive_answer = size_by (unarchived image (length rows) (length text))

  unfoldable pub unarchive_rows : List ℕ
  unarchive_rows = rows_by (unarchived image (length rows) (length text)) rows

  unfoldable pub unarchive_text : List ℕ
  unarchive_text = text_by (unarchived image (length rows) (length text)) text

-- ---- the answers of the code

-- The number of each refusal, of writing and of reading.
abbrev pub not_written_number : NotWritten → ℕ
not_written_number W.NotSound = 17
not_written_number W.NoRoom = 28

abbrev pub not_read_number : NotRead → ℕ
not_read_number R.NotSound = 17
not_read_number R.NoRoom = 28
not_read_number R.WrongLength = 30
not_read_number R.UnknownKind = 31
