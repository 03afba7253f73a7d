-- What is read has the image that it was read from, and no other.
--   record-whole     what was taken from a record, written again, is the record
--   records-image    so are the records of some bytes
use mathlib.Core.Path.{◌≡◌, refl, sym, ap, subst, ◌∙◌}
use mathlib.Core.List.{List, [], ◌∷◌, ◌++◌, append_assoc}
use Prim.Native.Nat.{ℕ, zero, suc, ◌+◌, ◌≤◌, ◌<◌}
use native.Mathlib.Omega.{arith}
use native.Mathlib.Decide.{dec_lt}
use borrow.Author.Tests.{le-leb, lt-leb}
use lib.ListN.{length, take, drop, get_or, length-append}
use Rattle.std.proofs.Math.Seq.{drop-cons}
use Rattle.std.proofs.lemmas.List.{take-append-drop, length-take-le, length-drop, drop-drop, take-take}
use lib.Dec.{ltb}
use Rattle.std.specs.Int.{w16, w32, to_le_bytes, from_le_bytes}
use Rattle.std.proofs.lemmas.Nat.{le_bytes_2, le_bytes_4}
use Rattle.tokenizer.specs.Answer.{refuse}
use Rattle.datatype.specs.Tree.{Label}
use Rattle.packing.specs.Packed.{row_text}
use Rattle.archive.specs.Archive.{record_bytes, with_length, record_of, image_of, Room, Taken, Head, Read, Strings, part_at, room_left, string_at, strings_at, whole_record, kind_at, label_from, record_at, records_at}
use Rattle.archive.proofs.Holds.{Holds, holds_then, holds_any, holds_test, holds_if, holds_both}
use Rattle.archive.proofs.Chain.{Apart, apart, below-short, behind-short}

-- ---- bytes

abbrev pub Bytes : List ℕ → Type 0
Bytes [] = Unit {0}
Bytes (b ∷ s) = (b < 256) × Bytes s

bytes-at : (s : List ℕ) → Bytes s → (i : ℕ) → get_or s i 0 < 256
bytes-at [] h i = omega arith
bytes-at (b ∷ s) h zero = h.0
bytes-at (b ∷ s) h (suc i) = bytes-at s h.1 i

bytes-take : (n : ℕ) (s : List ℕ) → Bytes s → Bytes (take n s)
bytes-take zero s h = tt
bytes-take (suc n) [] h = tt
bytes-take (suc n) (b ∷ s) h = (h.0, bytes-take n s h.1)

bytes-drop : (n : ℕ) (s : List ℕ) → Bytes s → Bytes (drop n s)
bytes-drop zero s h = h
bytes-drop (suc n) [] h = tt
bytes-drop (suc n) (b ∷ s) h = bytes-drop n s h.1

pub bytes-all : (s : List ℕ) → ((i : ℕ) → i < length s → get_or s i 0 < 256) → Bytes s
bytes-all [] h = tt
bytes-all (b ∷ s) h = (h 0 (omega arith), bytes-all s (λ i l. h (suc i) (omega arith)))

bytes-behind : (s rest : List ℕ) → Bytes (s ++ rest) → Bytes rest
bytes-behind [] rest h = h
bytes-behind (b ∷ s) rest h = bytes-behind s rest h.1

two-bytes : (s : List ℕ) → Bytes s → 2 ≤ length s → to_le_bytes w16 (from_le_bytes w16 (take 2 s)) ≡ take 2 s
two-bytes s b h = le_bytes_2 (take 2 s) _ (length-take-le 2 s h) (bytes-at (take 2 s) (bytes-take 2 s b)) refl

four-bytes : (s : List ℕ) → Bytes s → 4 ≤ length s → to_le_bytes w32 (from_le_bytes w32 (take 4 s)) ≡ take 4 s
four-bytes s b h = le_bytes_4 (take 4 s) _ (length-take-le 4 s h) (bytes-at (take 4 s) (bytes-take 4 s b)) refl

-- ---- a name and a zone

record Again (s : List ℕ) (t : Taken (List ℕ)) : Type 0 where
  same : with_length t.value ++ t.rest ≡ s
  bytes : Bytes t.rest

string-again : (s : List ℕ) → Bytes s → Holds (Again s) (string_at s)
unfolding string_at
string-again s b =
    elim (dec_lt (length s) 2) [
      | yes h ↦ rw (lt-leb 2 (length s) h) tt
      | no h ↦ rw (le-leb 2 (length s) (omega arith)) (go (from_le_bytes w16 (take 2 s)) refl (omega arith))
    ]
  where
    go : (n : ℕ) → n ≡ from_le_bytes w16 (take 2 s) → 2 ≤ length s → Holds (Again s) (part_at n (drop 2 s))
    go n e h = holds_test (Again s) n (length (drop 2 s)) _ _ (λ l. record {
      same =
          let size : length (take n (drop 2 s)) ≡ from_le_bytes w16 (take 2 s) = length-take-le n (drop 2 s) l ∙ e in
          ap (λ (k : ℕ). (to_le_bytes w16 k ++ take n (drop 2 s)) ++ drop n (drop 2 s)) size
          ∙ ap (λ (p : List ℕ). (p ++ take n (drop 2 s)) ++ drop n (drop 2 s)) (two-bytes s b h)
          ∙ append_assoc (take 2 s) (take n (drop 2 s)) (drop n (drop 2 s))
          ∙ ap (λ (p : List ℕ). take 2 s ++ p) (take-append-drop n (drop 2 s))
          ∙ take-append-drop 2 s;
      bytes = bytes-drop n (drop 2 s) (bytes-drop 2 s b);
    }) tt

abbrev Spelled : List ℕ → Strings → Type 0
Spelled s p = with_length p.name ++ (with_length p.zone ++ p.rest) ≡ s

strings-again : (s : List ℕ) (room : ℕ) → Bytes s → Holds (Spelled s) (strings_at s room)
unfolding strings_at
strings-again s room b =
    holds_then (Again s) (Spelled s) (string_at s) _ (string-again s b) λ name a.
    holds_then (λ (n : ℕ). Unit {0}) (Spelled s) (room_left (length name.value) room) _ (holds_any (room_left (length name.value) room)) λ bytes u.
    holds_then (Again name.rest) (Spelled s) (string_at name.rest) _ (string-again name.rest a.bytes) λ zone z.
    holds_then (λ (n : ℕ). Unit {0}) (Spelled s) (room_left (length zone.value) bytes) _ (holds_any (room_left (length zone.value) bytes)) λ left v.
    (ap (λ (p : List ℕ). with_length name.value ++ p) z.same ∙ a.same)

-- ---- a record

record Whole (s : List ℕ) (t : Taken (List ℕ)) : Type 0 where
  size : from_le_bytes w32 (take 4 t.value) ≡ length t.value
  long : 17 ≤ length t.value
  same : t.value ++ t.rest ≡ s
  bytes : Bytes t.value

whole-again : (s : List ℕ) → Bytes s → Holds (Whole s) (whole_record s)
unfolding whole_record
whole-again s b =
    elim (dec_lt (length s) 4) [
      | yes h ↦ rw (lt-leb 4 (length s) h) tt
      | no h ↦ rw (le-leb 4 (length s) (omega arith)) (holds_test (Whole s) record_bytes size (part_at size s) (refuse 30) (λ l. go size refl l) tt)
    ]
  where
    size : ℕ
    size = from_le_bytes w32 (take 4 s)

    go : (n : ℕ) → n ≡ from_le_bytes w32 (take 4 s) → 17 ≤ n → Holds (Whole s) (part_at n s)
    go n e h = holds_test (Whole s) n (length s) _ _ (λ l.
        let long : length (take n s) ≡ n = length-take-le n s l in
        record {
          size = ap (λ (p : List ℕ). from_le_bytes w32 p) (take-take 4 n s (omega arith)) ∙ sym e ∙ sym long;
          long = omega arith;
          same = take-append-drop n s;
          bytes = bytes-take n s b;
        }) tt

-- nine bytes of a record's: its kind, role, union id, number and scale
nine-bytes : (s : List ℕ) → Bytes s → 9 ≤ length s
    → s ≡ to_le_bytes w16 (from_le_bytes w16 (take 2 s)) ++ (get_or s 2 0 ∷ get_or s 3 0 ∷ []) ++ to_le_bytes w32 (from_le_bytes w32 (take 4 (drop 4 s))) ++ (get_or s 8 0 ∷ []) ++ drop 9 s
nine-bytes s b h =
    sym (take-append-drop 2 s)
    ∙ (λ j. sym (two-bytes s b (omega arith)) j ++ rest j)
  where
    rest : drop 2 s ≡ get_or s 2 0 ∷ get_or s 3 0 ∷ (to_le_bytes w32 (from_le_bytes w32 (take 4 (drop 4 s))) ++ (get_or s 8 0 ∷ drop 9 s))
    rest =
        drop-cons s 2 0 (omega arith)
        ∙ ap (λ (p : List ℕ). get_or s 2 0 ∷ p) (drop-cons s 3 0 (omega arith))
        ∙ ap (λ (p : List ℕ). get_or s 2 0 ∷ get_or s 3 0 ∷ p)
        (sym (take-append-drop 4 (drop 4 s))
        ∙ (λ j. sym (four-bytes (drop 4 s) (bytes-drop 4 s b) (omega (arith, length-drop 4 s))) j ++ (drop-drop 4 4 s ∙ drop-cons s 8 0 (omega arith)) j))

-- What was taken from a record, written again, is the record.
pub record Written (s : List ℕ) (h : Head) : Type 0 where
  pub same : record_of h.label h.below ++ h.behind ≡ s
  pub below : Bytes h.below
  pub behind : Bytes h.behind

module _ (s : List ℕ) (room : Room) (b : Bytes s) where
  kind-again : (body : List ℕ) → Holds (λ kind. kind ≡ from_le_bytes w16 (take 2 body)) (kind_at body)
  kind-again body = holds_if (λ kind. kind ≡ from_le_bytes w16 (take 2 body)) (ltb (from_le_bytes w16 (take 2 body)) 41) _ _ refl tt

  module _ (r : Taken (List ℕ)) (w : Whole s r) where
    abbrev body : List ℕ
    body = drop 4 r.value

    long : 13 ≤ length body
    long = let l = w.long in omega (arith, length-drop 4 r.value)

    module _ (kind rows : ℕ) (p : Strings) (k : kind ≡ from_le_bytes w16 (take 2 body)) (e : Spelled (drop 9 body) p) where
      abbrev label : Label
      label = label_from body kind p

      size : record_bytes + length (row_text label) + length p.rest ≡ from_le_bytes w32 (take 4 r.value)
      size =
          let a = length-append p.name (with_length p.zone ++ p.rest) in
          let c = length-append p.zone p.rest in
          let d = length-append p.name p.zone in
          let l = w.long in
          omega (arith, ap length e, length-drop 9 body, length-drop 4 r.value) ∙ sym w.size

      spelled : with_length p.name ++ with_length p.zone ++ p.rest ≡ drop 9 body
      spelled = append_assoc (with_length p.name) (with_length p.zone) p.rest ∙ e

      same-again : record_of label p.rest ++ r.rest ≡ s
      unfolding record_of
      same-again =
          let l = w.long in
          ap (λ (v : List ℕ). v ++ r.rest)
          ((λ j. to_le_bytes w32 (size j) ++ (to_le_bytes w16 (k j) ++ (get_or body 2 0 ∷ get_or body 3 0 ∷ []) ++ to_le_bytes w32 (from_le_bytes w32 (take 4 (drop 4 body))) ++ (get_or body 8 0 ∷ []) ++ spelled j))
          ∙ (λ j. four-bytes r.value w.bytes (omega arith) j ++ sym (nine-bytes body (bytes-drop 4 r.value w.bytes) (let m = long in omega arith)) j)
          ∙ take-append-drop 4 r.value)
          ∙ w.same

      again : Written s (record { label = label; below = p.rest; behind = r.rest; room = record { rows = rows; bytes = p.left } })
      again = record {
        same = same-again;
        below = bytes-behind (with_length p.zone) p.rest (bytes-behind (with_length p.name) (with_length p.zone ++ p.rest) (subst Bytes (sym e) (bytes-drop 9 body (bytes-drop 4 r.value w.bytes))));
        behind = bytes-behind r.value r.rest (subst Bytes (sym w.same) b);
      }

  pub record-again : Holds (Written s) (record_at s room)
  unfolding record_at
  record-again =
      holds_then (Whole s) (Written s) (whole_record s) _ (whole-again s b) λ r w.
      holds_then (λ kind. kind ≡ from_le_bytes w16 (take 2 (drop 4 r.value))) (Written s) (kind_at (drop 4 r.value)) _ (kind-again (drop 4 r.value)) λ kind k.
      holds_then (λ (n : ℕ). Unit {0}) (Written s) (room_left 1 room.rows) _ (holds_any (room_left 1 room.rows)) λ rows v.
      holds_then (Spelled (drop 9 (drop 4 r.value))) (Written s) (strings_at (drop 9 (drop 4 r.value)) room.bytes) _ (strings-again (drop 9 (drop 4 r.value)) room.bytes (bytes-drop 9 (drop 4 r.value) (bytes-drop 4 r.value w.bytes))) λ p e.
      again r w kind rows p k e

-- ---- the records of some bytes

abbrev Image : List ℕ → Read → Type 0
Image s r = image_of r.trees ≡ s

pub records-again : (m : ℕ) (s : List ℕ) (room : Room) → Bytes s → length s ≤ m → Holds (Image s) (records_at m s room)
unfolding records_at image_of
records-again zero [] room b h = refl
records-again zero (c ∷ s) room b h = absurd (omega arith)
records-again (suc m) [] room b h = refl
records-again (suc m) (c ∷ s) room b h =
    holds_then (λ x. Written (c ∷ s) x × Apart (c ∷ s) room x) (Image (c ∷ s)) (record_at (c ∷ s) room) _ (holds_both (Written (c ∷ s)) (Apart (c ∷ s) room) (record_at (c ∷ s) room) (record-again (c ∷ s) room b) (apart (c ∷ s) room)) λ x w.
    holds_then (Image x.below) (Image (c ∷ s)) (records_at m x.below x.room) _ (records-again m x.below x.room w.0.below (omega (arith, below-short (c ∷ s) room x w.1))) λ kids k.
    holds_then (Image x.behind) (Image (c ∷ s)) (records_at m x.behind kids.room) _ (records-again m x.behind kids.room w.0.behind (omega (arith, behind-short (c ∷ s) room x w.1))) λ next n.
    ((λ j. record_of x.label (k j) ++ n j) ∙ w.0.same)
