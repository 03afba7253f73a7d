-- What the room comes to: of rows one for each record, of bytes the lengths of names and zones.
--   record-took, records-took, tree-took
use mathlib.Core.Path.{◌≡◌}
use mathlib.Core.List.{List, [], ◌∷◌}
use Prim.Native.Nat.{ℕ, zero, suc, ◌+◌, ◌≤◌}
use native.Mathlib.Omega.{arith}
use lib.ListN.{length, drop, length-append}
use Rattle.tokenizer.specs.Text.{is_empty}
use Rattle.datatype.specs.Tree.{Forest, count, Label}
use Rattle.packing.specs.Packed.{row_text, sum_of_lengths}
use Rattle.archive.specs.Archive.{Room, Taken, Head, Read, Strings, room_left, string_at, strings_at, whole_record, kind_at, record_at, records_at, tree_at}
use Rattle.archive.proofs.Holds.{Holds, holds_then, holds_any, holds_test, holds_if}

-- a room, and what is left of it behind so many rows and bytes
pub record Took (room : Room) (rows bytes : ℕ) (left : Room) : Type 0 where
  pub of-rows : left.rows + rows ≡ room.rows
  pub of-bytes : left.bytes + bytes ≡ room.bytes

left-of : (n room : ℕ) → Holds (λ (left : ℕ). left + n ≡ room) (room_left n room)
left-of n room = holds_test (λ (left : ℕ). left + n ≡ room) n room _ _ (λ h. omega arith) tt

strings-took : (s : List ℕ) (room : ℕ) → Holds (λ (p : Strings). p.left + (length p.name + length p.zone) ≡ room) (strings_at s room)
unfolding strings_at
strings-took s room =
    holds_then (λ (t : Taken (List ℕ)). Unit {0}) (λ (p : Strings). p.left + (length p.name + length p.zone) ≡ room) (string_at s) _ (holds_any (string_at s)) λ name u.
    holds_then (λ (left : ℕ). left + length name.value ≡ room) (λ (p : Strings). p.left + (length p.name + length p.zone) ≡ room) (room_left (length name.value) room) _ (left-of (length name.value) room) λ bytes a.
    holds_then (λ (t : Taken (List ℕ)). Unit {0}) (λ (p : Strings). p.left + (length p.name + length p.zone) ≡ room) (string_at name.rest) _ (holds_any (string_at name.rest)) λ zone v.
    holds_then (λ (left : ℕ). left + length zone.value ≡ bytes) (λ (p : Strings). p.left + (length p.name + length p.zone) ≡ room) (room_left (length zone.value) bytes) _ (left-of (length zone.value) bytes) λ left b.
    omega arith

abbrev pub HeadTook : Room → Head → Type 0
HeadTook room h = Took room 1 (length (row_text h.label)) h.room

pub record-took : (s : List ℕ) (room : Room) → Holds (HeadTook room) (record_at s room)
unfolding record_at
record-took s room =
    holds_then (λ (t : Taken (List ℕ)). Unit {0}) (HeadTook room) (whole_record s) _ (holds_any (whole_record s)) λ r u.
    holds_then (λ (n : ℕ). Unit {0}) (HeadTook room) (kind_at (drop 4 r.value)) _ (holds_any (kind_at (drop 4 r.value))) λ kind v.
    holds_then (λ (left : ℕ). left + 1 ≡ room.rows) (HeadTook room) (room_left 1 room.rows) _ (left-of 1 room.rows) λ rows a.
    holds_then (λ (p : Strings). p.left + (length p.name + length p.zone) ≡ room.bytes) (HeadTook room) (strings_at (drop 9 (drop 4 r.value)) room.bytes) _ (strings-took (drop 9 (drop 4 r.value)) room.bytes) λ p b.
    record { of-rows = a; of-bytes = omega (arith, length-append p.name p.zone) }

abbrev pub ReadTook : Room → Read → Type 0
ReadTook room t = Took room (count t.trees) (sum_of_lengths t.trees) t.room

pub records-took : (n : ℕ) (s : List ℕ) (room : Room) → Holds (ReadTook room) (records_at n s room)
unfolding records_at
records-took zero s room = record { of-rows = omega arith; of-bytes = omega arith }
records-took (suc n) [] room = record { of-rows = omega arith; of-bytes = omega arith }
records-took (suc n) (b ∷ s) room =
    holds_then (HeadTook room) (ReadTook room) (record_at (b ∷ s) room) _ (record-took (b ∷ s) room) λ h a.
    holds_then (ReadTook h.room) (ReadTook room) (records_at n h.below h.room) _ (records-took n h.below h.room) λ kids k.
    holds_then (ReadTook kids.room) (ReadTook room) (records_at n h.behind kids.room) _ (records-took n h.behind kids.room) λ next m.
    (let a1 = a.of-rows in let a2 = a.of-bytes in let k1 = k.of-rows in let k2 = k.of-bytes in let m1 = m.of-rows in let m2 = m.of-bytes in
    record { of-rows = omega arith; of-bytes = omega (arith, length-append h.label.name h.label.zone) })

-- a tree has room
pub tree-took : (image : List ℕ) (room : Room) → Holds (λ (f : Forest Label). (count f ≤ room.rows) × (sum_of_lengths f ≤ room.bytes)) (tree_at image room)
unfolding tree_at
tree-took image room =
    holds_then (HeadTook room) (λ (f : Forest Label). (count f ≤ room.rows) × (sum_of_lengths f ≤ room.bytes)) (record_at image room) _ (record-took image room) λ h a.
    holds_then (ReadTook h.room) (λ (f : Forest Label). (count f ≤ room.rows) × (sum_of_lengths f ≤ room.bytes)) (records_at (length image) h.below h.room) _ (records-took (length image) h.below h.room) λ kids k.
    holds_if (λ (f : Forest Label). (count f ≤ room.rows) × (sum_of_lengths f ≤ room.bytes)) (is_empty h.behind) _ _
    (let a1 = a.of-rows in let a2 = a.of-bytes in let k1 = k.of-rows in let k2 = k.of-bytes in
    (omega arith, omega (arith, length-append h.label.name h.label.zone)))
    tt
