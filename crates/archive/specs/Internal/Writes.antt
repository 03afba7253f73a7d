-- What writing promises. Nothing here has to be believed, since no public function's contract cites
-- it.
use Rattle.std.specs.Prelude.{List, [], ◌∷◌, ◌++◌, ℕ, ◌-◌, ◌^◌, ◌<◌, length}
use Rattle.std.specs.Int.{w16, w32, to_le_bytes}
use Rattle.std.proofs.lemmas.List.Edits.{sets}
use Rattle.datatype.specs.Kind.{kinds}
use Rattle.datatype.specs.Tree.{Forest, ∅, node, Label}
use Rattle.writer.specs.declared.Writer.{Writer}
use Rattle.archive.specs.Archive.{with_length, record_of, image_of}

-- More bytes than any image has.
abbrev pub most_bytes : ℕ
most_bytes = 4294967296

-- What a record says behind its length, but for its children's records.
abbrev pub said_bytes : Label → List ℕ
said_bytes l =
    to_le_bytes w16 l.kind ++ (l.role ∷ l.union_id ∷ []) ++ to_le_bytes w32 l.number ++ (l.scale ∷ []) ++ with_length l.name ++ with_length l.zone

-- The same, behind four zeros in the place of its length.
unfoldable pub own_bytes : Label → List ℕ
own_bytes l = 0 ∷ 0 ∷ 0 ∷ 0 ∷ said_bytes l

-- A writer when the length of what it wrote from a place on stands at that place.
unfoldable pub patched : Writer → ℕ → Writer
patched w start = record w { out = record w.out { now = sets w.out.now start (to_le_bytes w32 (w.at - start)) } }

-- What a row says has room in its record's fields.
pub record Small (l : Label) : Type 0 where
  pub kind : l.kind < kinds
  pub role : l.role < 2 ^ 8
  pub union_id : l.union_id < 2 ^ 8
  pub number : l.number < 2 ^ 32
  pub scale : l.scale < 2 ^ 8
  pub name : length l.name < 2 ^ 16
  pub zone : length l.zone < 2 ^ 16

-- So it is of each row of a run, and each record's length has room in its own.
abbrev pub Writables : Forest Label → Type 0
Writables ∅ = Unit {0}
Writables (node l kids next) = (Small l × (length (record_of l (image_of kids)) < most_bytes)) × (Writables kids × Writables next)
