-- Rows packed one behind another: what the packer's functions rest on.
--   copied               what a copy into the rows leaves
--   row_room             a row's room, asked of sums that stop at the greatest number
--   row_room_lem         what a row that fits has room for
--   name_room, zone_room, row_put   a row, by its three writes
--   fits_room, room_then   the room asked for: whether a row fits, and what is left behind it
use mathlib.Core.Path.{◌≡◌, refl, sym, ap, ◌∙◌}
use mathlib.Core.Bool.{true, false, ◌&&◌}
use mathlib.Core.List.{List, ◌++◌}
use Prim.Native.Nat.{ℕ, ◌+◌, ◌-◌, ◌*◌, ◌/◌, ◌≤◌, min}
use native.Mathlib.Omega.{arith}
use lib.ListN.{length, take, drop, length-append}
use lib.Dec.{leb}
use lib.Seq.{sets, sets-eq, length-sets, take_all}
use borrow.Rule.Slice.PartMut.{put_mid}
use Rattle.std.proofs.lemmas.Slice.{put_mid-paste}
use Rattle.std.proofs.lemmas.Bool.Decides.{nat_tests}
use Rattle.datatype.specs.Limits.{max_text, max_rows}
use Rattle.datatype.specs.Tree.{Label}
use Rattle.datatype.specs.Table.{row_words, rows_lent, words_of}
use Rattle.datatype.proofs.Sets.{sets_append}
use Rattle.packing.specs.Packed.{row_text, packed_row, size_fits}
use Rattle.packing.specs.declared.packer.Packer.{Packer}
use Rattle.packing.specs.Packer.{room_of, row_fits, with_words, with_bytes, written, row_written, put_row}

pub copied : (before s part : List ℕ) (at : ℕ) → at + length s ≤ length before → part ≡ s → put_mid at (at + length s - at) before part ≡ sets before at s
copied before s part at f e =
    let k : length s ≡ at + length s - at = omega arith in
    put_mid-paste at (at + length s - at) before part s (length s) e k refl
    ∙ ap (λ (t : List ℕ). take at before ++ t ++ drop (at + length s) before) (take_all (length s) s (omega arith))
    ∙ sym (sets-eq s before at f)

-- ---- room

-- the lengths of a name and a zone together are those of what the row packs
pub row_long : (l : Label) → length (row_text l) ≡ length l.name + length l.zone
row_long l = length-append l.name l.zone

pub row_room : (p : Packer) (l : Label) (rows name bytes : ℕ) → rows ≡ min (p.packed.rows + 1) 18446744073709551615 → name ≡ min (p.packed.bytes + length l.name) 18446744073709551615
    → bytes ≡ min (name + length l.zone) 18446744073709551615 → size_fits (record { rows = rows; bytes = bytes }) (length p.rows.now) (length p.text.now) ≡ row_fits p l
unfolding row_fits size_fits rows_lent
row_room p l rows name bytes r n b = rw (r, b, n, row_long l) (grind (arith, nat_tests))

-- what a row that fits has room for
pub record RowRoom (p : Packer) (l : Label) : Type 0 where
  pub rows : row_words * (p.packed.rows + 1) ≤ length p.rows.now
  pub few : p.packed.rows + 1 ≤ max_rows
  pub text : p.packed.bytes + length (row_text l) ≤ length p.text.now
  pub short : p.packed.bytes + length (row_text l) ≤ max_text

pub row_room_lem : (p : Packer) (l : Label) → row_fits p l ≡ true → RowRoom p l
unfolding row_fits size_fits rows_lent
row_room_lem p l h =
    let few : p.packed.rows + 1 ≤ min (length p.rows.now / row_words) max_rows = grind (arith, nat_tests) in
    let short : p.packed.bytes + length (row_text l) ≤ min (length p.text.now) max_text = grind (arith, nat_tests) in
    record { rows = omega arith; few = omega arith; text = omega arith; short = omega arith }

-- ---- one row, by its three writes

pub bytes_then : (p : Packer) (s t : List ℕ) → with_bytes (with_bytes p s) t ≡ with_bytes p (s ++ t)
unfolding with_bytes
bytes_then p s t =
    rw (sets_append p.text.now p.packed.bytes s t, length-append s t)
    (ap (λ (k : ℕ). record p { text = record p.text { now = sets p.text.now p.packed.bytes (s ++ t) }; packed = record { rows = p.packed.rows; bytes = k } }) (omega arith))

pub no_room : (p : Packer) (l : Label) (rows : ℕ) → row_fits p l ≡ false → p ≡ put_row p l rows
unfolding put_row
no_room p l rows h = rw h

module _ (p : Packer) (l : Label) (rows : ℕ) (h : row_fits p l ≡ true) (q : Packer) (w : q ≡ with_words p 1 (words_of (packed_row p.packed.bytes l) rows)) where
  same-place : q.packed.bytes ≡ p.packed.bytes
  unfolding with_words
  same-place = ap (λ (x : Packer). x.packed.bytes) w

  pub name_room : q.packed.bytes + length l.name ≤ max_text
  name_room = let r = (row_room_lem p l h).short in omega (arith, row_long l, same-place)

  module _ (r : Packer) (b : r ≡ with_bytes q l.name) where
    pub zone_room : r.packed.bytes + length l.zone ≤ max_text
    unfolding with_bytes
    zone_room =
        let m = (row_room_lem p l h).short in
        let f = ap (λ (x : Packer). x.packed.bytes) b in
        omega (arith, row_long l, same-place)

    pub row_put : (t : Packer) → t ≡ with_bytes r l.zone → t ≡ put_row p l rows
    unfolding put_row row_written written
    row_put t c =
        rw h (c ∙ ap (λ (x : Packer). with_bytes x l.zone) b ∙ bytes_then q l.name l.zone ∙ ap (λ (x : Packer). with_bytes x (row_text l)) w)

-- ---- the room asked for

-- a row has room where there is room for it and for what it packs
pub fits_room : (p : Packer) (l : Label) → p.packed.bytes ≤ min (length p.text.now) max_text → row_fits p l ≡ (leb 1 (room_of p).rows && leb (length (row_text l)) (room_of p).bytes)
unfolding row_fits room_of size_fits
fits_room p l h = grind (arith, nat_tests)

-- what is left behind it
pub room_then : (p : Packer) (l : Label) (rows : ℕ) → room_of (row_written p l rows) ≡ record { rows = (room_of p).rows - 1; bytes = (room_of p).bytes - length (row_text l) }
unfolding room_of row_written written with_bytes with_words
room_then p l rows =
    let r : rows_lent (length p.rows.now) - (p.packed.rows + 1) ≡ rows_lent (length p.rows.now) - p.packed.rows - 1 = omega arith in
    let b : min (length p.text.now) max_text - (p.packed.bytes + length (row_text l)) ≡ min (length p.text.now) max_text - p.packed.bytes - length (row_text l) = omega arith in
    rw (length-sets p.rows.now (row_words * p.packed.rows) (words_of (packed_row p.packed.bytes l) rows), length-sets p.text.now p.packed.bytes (row_text l)) (λ j. record { rows = r j; bytes = b j })
