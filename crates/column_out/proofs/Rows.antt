-- How many bytes rows pack, row by row.
--   row_length      of a row, by its words
--   none_left, next_length   of a stretch, by its first row
use mathlib.Core.Path.{◌≡◌}
use mathlib.Core.List.{List}
use Prim.Native.Nat.{ℕ, suc, ◌+◌, ◌-◌, ◌≤◌, ◌<◌}
use native.Mathlib.Omega.{arith}
use lib.ListN.{length, length-append}
use Rattle.datatype.specs.Tree.{name_of, zone_of, label_of}
use Rattle.datatype.specs.Table.{word_at, row_at}
use Rattle.datatype.proofs.Parts.{name_short, zone_short}
use Rattle.packing.specs.Packed.{row_text}
use Rattle.column_out.specs.Internal.Stretch.{label_at, stretch_length}

module _ (text names table : List ℕ) (i : ℕ) where
  abbrev name : List ℕ
  name = name_of text names (word_at table i 6) (word_at table i 7) (word_at table i 8)

  abbrev zone : List ℕ
  zone = zone_of text (word_at table i 9) (word_at table i 10)

  row_length : length (row_text (label_at text names table i)) ≡ length name + length zone
  unfolding label_of row_at
  row_length = length-append name zone

  module _ (end : ℕ) where
    pub none_left : end ≤ i → stretch_length text names table i (end - i) ≡ 0
    unfolding stretch_length
    none_left h = let e : end - i ≡ 0 = omega arith in rw e

    pub next_length : i < end
        → stretch_length text names table i (end - i) ≡ length (name_of text names (word_at table i 6) (word_at table i 7) (word_at table i 8)) + length (zone_of text (word_at table i 9) (word_at table i 10)) + stretch_length text names table (i + 1) (end - (i + 1))
    unfolding stretch_length
    next_length h =
        let e : end - i ≡ suc (end - (i + 1)) = omega arith in
        let f : i + 1 ≡ suc i = omega arith in
        rw (e, f, row_length)

-- of a text and a name list of at most 16,384 bytes a name and a zone have no more
pub name_most : (text names : List ℕ) (home start size : ℕ) → length text ≤ 16384 → length names ≤ 16384 → length (name_of text names home start size) ≤ 16384
name_most text names home start size h k = name_short text names home start size 16384 h k

pub zone_most : (text : List ℕ) (start size : ℕ) → length text ≤ 16384 → length (zone_of text start size) ≤ 16384
zone_most text start size h = zone_short text start size 16384 h

pub ruleset counting = (name_most, zone_most, none_left, next_length)
