-- The image of a tree, and what reading it gives.
--   image-length     17 bytes a row, and the lengths of names and zones
--   equal-images     equal trees have one image
--   record-read      a record that was written, taken apart
--   image-read       the records of an image, read: the trees, or there is no room
use Rattle.std.specs.Prelude.{if◌then◌else◌}
use mathlib.Core.Path.{◌≡◌, refl, sym, ap, ◌∙◌}
use mathlib.Core.Bool.{Bool, ◌&&◌}
use mathlib.Core.List.{List, [], ◌∷◌, ◌++◌, append_assoc}
use Prim.Native.Nat.{ℕ, zero, suc, ◌+◌, ◌-◌, ◌*◌, ◌^◌, ◌≤◌, ◌<◌}
use native.Mathlib.Omega.{arith}
use native.Mathlib.Decide.{dec_lt}
use borrow.Author.Tests.{le-leb, lt-leb, lt-ltb}
use lib.ListN.{length, drop, length-append}
use lib.Seq.{take-append_seam}
use Rattle.std.proofs.Math.Seq.{drop-append_seam}
use lib.Dec.{leb, ltb}
use Rattle.std.specs.Int.{w16, w32, to_le_bytes}
use Rattle.std.proofs.lemmas.Nat.{from_le_bytes-to_le_bytes_2, from_le_bytes-to_le_bytes_4}
use Rattle.tokenizer.specs.Answer.{Out, done, refuse, ◌>>=◌}
use Rattle.archive.specs.Internal.Writes.{Small, Writables}
use Rattle.archive.proofs.Holds.{bind_assoc, bind_each}
use Rattle.datatype.specs.Tree.{Forest, ∅, node, count, Label}
use Rattle.packing.specs.Packed.{row_text, sum_of_lengths}
use Rattle.archive.specs.Archive.{record_bytes, with_length, record_of, image_of, Room, Taken, Head, Read, Strings, number_at, part_at, room_left, string_at, strings_at, whole_record, kind_at, label_from, record_at, records_at}

-- ---- lengths

pub record-length : (l : Label) (below : List ℕ) → length (record_of l below) ≡ record_bytes + length (row_text l) + length below
unfolding record_of
record-length l below =
    omega (arith, length-append (l.name ++ with_length l.zone) below, length-append l.name (with_length l.zone), length-append l.name l.zone)

pub image-length : (f : Forest Label) → length (image_of f) ≡ record_bytes * count f + sum_of_lengths f
unfolding image_of
image-length ∅ = refl
image-length (node l kids next) =
    let a = length-append (record_of l (image_of kids)) (image_of next) in
    let b = record-length l (image_of kids) in
    let c = length-append l.name l.zone in
    let k = image-length kids in
    let n = image-length next in
    omega arith

-- ---- so many rows and bytes taken from a room

abbrev pub taken : ℕ → ℕ → Room → Out Room
taken n k room = if leb n room.rows && leb k room.bytes then done (record { rows = room.rows - n; bytes = room.bytes - k }) else refuse 28

pub taken-yes : (n k : ℕ) (room : Room) → n ≤ room.rows → k ≤ room.bytes → taken n k room ≡ done (record { rows = room.rows - n; bytes = room.bytes - k })
taken-yes n k room h l = rw (le-leb n room.rows h, le-leb k room.bytes l)

pub taken-rows : (n k : ℕ) (room : Room) → room.rows < n → taken n k room ≡ refuse 28
taken-rows n k room h = rw (lt-leb n room.rows h)

pub taken-bytes : (n k : ℕ) (room : Room) → room.bytes < k → taken n k room ≡ refuse 28
taken-bytes n k room h = elim (dec_lt room.rows n) [ yes l ↦ taken-rows n k room l | no l ↦ rw (le-leb n room.rows (omega arith), lt-leb k room.bytes h) ]

pub taken-two : (n k m j : ℕ) (room : Room) → (taken n k room >>= taken m j) ≡ taken (n + m) (k + j) room
taken-two n k m j room =
    elim (dec_lt room.rows n) [
      | yes h ↦ ap (λ (o : Out Room). o >>= taken m j) (taken-rows n k room h) ∙ sym (taken-rows (n + m) (k + j) room (omega arith))
      | no h ↦ elim (dec_lt room.bytes k) [
        | yes l ↦ ap (λ (o : Out Room). o >>= taken m j) (taken-bytes n k room l) ∙ sym (taken-bytes (n + m) (k + j) room (omega arith))
        | no l ↦ ap (λ (o : Out Room). o >>= taken m j) (taken-yes n k room (omega arith) (omega arith)) ∙ rest (omega arith) (omega arith)
      ]
    ]
  where
    left : Room
    left = record { rows = room.rows - n; bytes = room.bytes - k }

    rest : n ≤ room.rows → k ≤ room.bytes → taken m j left ≡ taken (n + m) (k + j) room
    rest h l =
        elim (dec_lt left.rows m) [
          | yes a ↦ taken-rows m j left a ∙ sym (taken-rows (n + m) (k + j) room (omega arith))
          | no a ↦ elim (dec_lt left.bytes j) [
            | yes b ↦ taken-bytes m j left b ∙ sym (taken-bytes (n + m) (k + j) room (omega arith))
            | no b ↦
                let r : left.rows - m ≡ room.rows - (n + m) = omega arith in
                let s : left.bytes - j ≡ room.bytes - (k + j) = omega arith in
                taken-yes m j left (omega arith) (omega arith)
                ∙ (λ i. done (record { rows = r i; bytes = s i }))
                ∙ sym (taken-yes (n + m) (k + j) room (omega arith) (omega arith))
          ]
        ]

-- ---- a record that was written, taken apart

number-read-2 : (n : ℕ) (rest : List ℕ) → n < 2 ^ 16 → number_at w16 (to_le_bytes w16 n ++ rest) ≡ done (record { value = n; rest = rest })
number-read-2 n rest h =
    rw (le-leb 2 (length (to_le_bytes w16 n ++ rest)) (omega arith)) (ap (λ (k : ℕ). done (record { value = k; rest = rest })) (from_le_bytes-to_le_bytes_2 n h))

number-read-4 : (n : ℕ) (rest : List ℕ) → n < 2 ^ 32 → number_at w32 (to_le_bytes w32 n ++ rest) ≡ done (record { value = n; rest = rest })
number-read-4 n rest h =
    rw (le-leb 4 (length (to_le_bytes w32 n ++ rest)) (omega arith)) (ap (λ (k : ℕ). done (record { value = k; rest = rest })) (from_le_bytes-to_le_bytes_4 n h))

part-read : (n : ℕ) (s rest : List ℕ) → n ≡ length s → part_at n (s ++ rest) ≡ done (record { value = s; rest = rest })
part-read n s rest e =
    ap (λ (k : ℕ). part_at k (s ++ rest)) e
    ∙ rw (le-leb (length s) (length (s ++ rest)) (omega (arith, length-append s rest)), take-append_seam s rest, drop-append_seam s rest)

string-read : (s rest : List ℕ) → length s < 2 ^ 16 → string_at (with_length s ++ rest) ≡ done (record { value = s; rest = rest })
unfolding string_at
string-read s rest h =
    ap (λ (o : Out (Taken ℕ)). o >>= (λ n. part_at n.value n.rest)) (number-read-2 (length s) (s ++ rest) h) ∙ part-read (length s) s rest refl

module _ (l : Label) (below behind : List ℕ) (w : Small l) (few : length (record_of l below) < 2 ^ 32) where
  abbrev size : ℕ
  size = record_bytes + length (row_text l) + length below

  -- what stands behind its length
  abbrev body : List ℕ
  body = to_le_bytes w16 l.kind ++ (l.role ∷ l.union_id ∷ []) ++ to_le_bytes w32 l.number ++ (l.scale ∷ []) ++ with_length l.name ++ with_length l.zone ++ below

  whole-read : whole_record (record_of l below ++ behind) ≡ done (record { value = record_of l below; rest = behind })
  unfolding whole_record record_of
  whole-read =
      let n : size ≡ length (record_of l below) = sym (record-length l below) in
      ap (λ (o : Out (Taken ℕ)). o >>= (λ n. if leb record_bytes n.value then part_at n.value (record_of l below ++ behind) else refuse 30))
      (number-read-4 size (body ++ behind) (omega arith))
      ∙ ap (λ (b : Bool). if b then part_at size (record_of l below ++ behind) else refuse 30) (le-leb record_bytes size (omega arith))
      ∙ part-read size (record_of l below) behind n

  kind-read : kind_at body ≡ done l.kind
  kind-read =
      ap (λ (k : ℕ). if ltb k 41 then done k else refuse 31) (from_le_bytes-to_le_bytes_2 l.kind (let k = w.kind in omega arith))
      ∙ ap (λ (b : Bool). if b then done l.kind else refuse 31) (lt-ltb l.kind 41 w.kind)

  strings-read : (room : ℕ) → strings_at (drop 9 body) room
      ≡ (room_left (length l.name) room >>= (λ bytes. room_left (length l.zone) bytes >>= (λ left. done (record { name = l.name; zone = l.zone; rest = below; left = left }))))
  unfolding strings_at
  strings-read room =
      ap (λ (s : List ℕ). strings_at s room) (append_assoc (with_length l.name) (with_length l.zone) below)
      ∙ ap (λ (o : Out (Taken (List ℕ))). o >>= (λ name. room_left (length name.value) room >>= (λ bytes. string_at name.rest >>= (λ zone. room_left (length zone.value) bytes >>= (λ left. done (record { name = name.value; zone = zone.value; rest = zone.rest; left = left }))))))
      (string-read l.name (with_length l.zone ++ below) w.name)
      ∙ ap (λ (o : Out (Taken (List ℕ))). room_left (length l.name) room >>= (λ bytes. o >>= (λ zone. room_left (length zone.value) bytes >>= (λ left. done (record { name = l.name; zone = zone.value; rest = zone.rest; left = left })))))
      (string-read l.zone below w.zone)

  label-read : (p : Strings) → p.name ≡ l.name → p.zone ≡ l.zone → label_from body l.kind p ≡ l
  label-read p n z =
      let e = from_le_bytes-to_le_bytes_4 l.number w.number in
      λ j. record { kind = l.kind; role = l.role; union_id = l.union_id; number = e j; scale = l.scale; name = n j; zone = z j }

  abbrev head : Strings → ℕ → Out Head
  head p rows = done (record { label = label_from body l.kind p; below = p.rest; behind = behind; room = record { rows = rows; bytes = p.left } })

  head-read : (rows left : ℕ) → head (record { name = l.name; zone = l.zone; rest = below; left = left }) rows ≡ done (record { label = l; below = below; behind = behind; room = record { rows = rows; bytes = left } })
  head-read rows left =
      let e = label-read (record { name = l.name; zone = l.zone; rest = below; left = left }) refl refl in
      λ j. done (record { label = e j; below = below; behind = behind; room = record { rows = rows; bytes = left } })

  room-read : (room : Room)
      → (room_left 1 room.rows >>= (λ rows. (room_left (length l.name) room.bytes >>= (λ bytes. room_left (length l.zone) bytes >>= (λ left. done (record { name = l.name; zone = l.zone; rest = below; left = left })))) >>= (λ p. head p rows)))
      ≡ (taken 1 (length (row_text l)) room >>= (λ left. done (record { label = l; below = below; behind = behind; room = left })))
  room-read room =
      let both : length (row_text l) ≡ length l.name + length l.zone = length-append l.name l.zone in
      elim (dec_lt room.rows 1) [
        | yes h ↦ rw (lt-leb 1 room.rows h)
        | no h ↦ elim (dec_lt room.bytes (length l.name)) [
          | yes a ↦ rw (le-leb 1 room.rows (omega arith), lt-leb (length l.name) room.bytes a, lt-leb (length (row_text l)) room.bytes (omega arith))
          | no a ↦ elim (dec_lt (room.bytes - length l.name) (length l.zone)) [
            | yes b ↦ rw (le-leb 1 room.rows (omega arith), le-leb (length l.name) room.bytes (omega arith), lt-leb (length l.zone) (room.bytes - length l.name) b, lt-leb (length (row_text l)) room.bytes (omega arith))
            | no b ↦
                let left : room.bytes - length l.name - length l.zone ≡ room.bytes - length (row_text l) = omega arith in
                rw (le-leb 1 room.rows (omega arith), le-leb (length l.name) room.bytes (omega arith), le-leb (length l.zone) (room.bytes - length l.name) (omega arith), le-leb (length (row_text l)) room.bytes (omega arith))
                (head-read (room.rows - 1) (room.bytes - length l.name - length l.zone)
                ∙ (λ j. done (record { label = l; below = below; behind = behind; room = record { rows = room.rows - 1; bytes = left j } })))
          ]
        ]
      ]

  pub record-read : (room : Room) → record_at (record_of l below ++ behind) room
      ≡ (taken 1 (length (row_text l)) room >>= (λ left. done (record { label = l; below = below; behind = behind; room = left })))
  unfolding record_at record_of
  record-read room =
      ap (λ (o : Out (Taken (List ℕ))). o >>= (λ r. kind_at (drop 4 r.value) >>= (λ kind. room_left 1 room.rows >>= (λ rows. strings_at (drop 9 (drop 4 r.value)) room.bytes >>= (λ p. done (record { label = label_from (drop 4 r.value) kind p; below = p.rest; behind = r.rest; room = record { rows = rows; bytes = p.left } })))))) whole-read
      ∙ ap (λ (o : Out ℕ). o >>= (λ kind. room_left 1 room.rows >>= (λ rows. strings_at (drop 9 body) room.bytes >>= (λ p. done (record { label = label_from body kind p; below = p.rest; behind = behind; room = record { rows = rows; bytes = p.left } }))))) kind-read
      ∙ ap (λ (o : Out Strings). room_left 1 room.rows >>= (λ rows. o >>= (λ p. head p rows))) (strings-read room.bytes)
      ∙ room-read room

-- ---- the records of an image

pub taken_then : {B : Type 0} (n k m j : ℕ) (room : Room) (g : Room → Out B) → (taken n k room >>= (λ left. taken m j left >>= g)) ≡ (taken (n + m) (k + j) room >>= g)
taken_then n k m j room g = sym (bind_assoc (taken n k room) (taken m j) g) ∙ ap (λ (o : Out Room). o >>= g) (taken-two n k m j room)

abbrev pub read : Forest Label → Room → Out Read
read f left = done (record { trees = f; room = left })

none-read : (room : Room) → read ∅ room ≡ (taken 0 0 room >>= read ∅)
none-read room =
    let r : room.rows ≡ room.rows - 0 = omega arith in
    let b : room.bytes ≡ room.bytes - 0 = omega arith in
    (λ j. read ∅ (record { rows = r j; bytes = b j })) ∙ ap (λ (o : Out Room). o >>= read ∅) (sym (taken-yes 0 0 room (omega arith) (omega arith)))

module _ (m : ℕ) (l : Label) (kids next : Forest Label) where
  abbrev whole : Label → Read → Read → Out Read
  whole l k n = done (record { trees = node l k.trees n.trees; room = n.room })

  abbrev rest : Head → Out Read
  rest h = records_at m h.below h.room >>= (λ k. records_at m h.behind k.room >>= (λ n. whole h.label k n))

  kids-then-next : (left : Room)
      → ((room : Room) → records_at m (image_of kids) room ≡ (taken (count kids) (sum_of_lengths kids) room >>= read kids))
      → ((room : Room) → records_at m (image_of next) room ≡ (taken (count next) (sum_of_lengths next) room >>= read next))
      → rest (record { label = l; below = image_of kids; behind = image_of next; room = left })
      ≡ (taken (count kids + count next) (sum_of_lengths kids + sum_of_lengths next) left >>= read (node l kids next))
  kids-then-next left k n =
      ap (λ (o : Out Read). o >>= (λ x. records_at m (image_of next) x.room >>= (λ y. whole l x y))) (k left)
      ∙ bind_assoc (taken (count kids) (sum_of_lengths kids) left) (read kids) (λ x. records_at m (image_of next) x.room >>= (λ y. whole l x y))
      ∙ bind_each (taken (count kids) (sum_of_lengths kids) left) _ _ (λ r.
      ap (λ (o : Out Read). o >>= (λ y. whole l (record { trees = kids; room = r }) y)) (n r)
      ∙ bind_assoc (taken (count next) (sum_of_lengths next) r) (read next) (λ y. whole l (record { trees = kids; room = r }) y))
      ∙ taken_then (count kids) (sum_of_lengths kids) (count next) (sum_of_lengths next) left (read (node l kids next))

  node-read : (room : Room) → Small l → length (record_of l (image_of kids)) < 2 ^ 32
      → ((r : Room) → records_at m (image_of kids) r ≡ (taken (count kids) (sum_of_lengths kids) r >>= read kids))
      → ((r : Room) → records_at m (image_of next) r ≡ (taken (count next) (sum_of_lengths next) r >>= read next))
      → (record_at (record_of l (image_of kids) ++ image_of next) room >>= rest) ≡ (taken (count (node l kids next)) (sum_of_lengths (node l kids next)) room >>= read (node l kids next))
  node-read room w few k n =
      let rows : 1 + (count kids + count next) ≡ count (node l kids next) = omega arith in
      let bytes : length (row_text l) + (sum_of_lengths kids + sum_of_lengths next) ≡ sum_of_lengths (node l kids next) = omega (arith, length-append l.name l.zone) in
      ap (λ (o : Out Head). o >>= rest) (record-read l (image_of kids) (image_of next) w few room)
      ∙ bind_assoc (taken 1 (length (row_text l)) room) _ rest
      ∙ bind_each (taken 1 (length (row_text l)) room) _ _ (λ left. kids-then-next left k n)
      ∙ taken_then 1 (length (row_text l)) (count kids + count next) (sum_of_lengths kids + sum_of_lengths next) room (read (node l kids next))
      ∙ (λ j. taken (rows j) (bytes j) room >>= read (node l kids next))

pub image-read : (m : ℕ) (f : Forest Label) (room : Room) → length (image_of f) ≤ m → Writables f
    → records_at m (image_of f) room ≡ (taken (count f) (sum_of_lengths f) room >>= read f)
unfolding records_at image_of record_of
image-read zero ∅ room h w = none-read room
image-read zero (node l kids next) room h w = absurd (omega (arith, image-length (node l kids next)))
image-read (suc m) ∅ room h w = none-read room
image-read (suc m) (node l kids next) room h w =
    let a = image-length (node l kids next) in
    let b = image-length kids in
    let c = image-length next in
    node-read m l kids next room w.0.0 w.0.1 (λ r. image-read m kids r (omega arith) w.1.0) (λ r. image-read m next r (omega arith) w.1.1)
