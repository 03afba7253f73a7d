-- What a sound tree says can be written: each number and each length has room in its field.
--   short_name, short_zone   a name and a zone are parts of a text or of the name list
--   few-bytes                how long the image of so many rows can be
--   can-write                each row of a run that fits
use mathlib.Core.Path.{sym, ap, subst}
use mathlib.Core.List.{List}
use Prim.Native.Nat.{ℕ, zero, suc, ◌+◌, ◌*◌, ◌^◌, ◌≤◌, ◌<◌}
use native.Mathlib.Omega.{arith}
use native.Mathlib.Decide.{dec_le}
use lib.ListN.{length, drop, length-append}
use Rattle.std.proofs.lemmas.List.{length-take}
use lib.Dec.{T}
use borrow.Author.Tests.{le-leb, lt-leb}
use Rattle.std.proofs.lemmas.Bool.Decides.{nat_tests}
use Rattle.datatype.specs.Kind.{Shape, leaf, timestamp, time, interval, fixed, list, fixed_list, struct, union, dictionary, decimal, mapping, run_end_encoded, shape_of}
use Rattle.datatype.specs.Tree.{Forest, ∅, node, count, Row, Label, part, name_of, zone_of, label_of, labels}
use Rattle.datatype.specs.Table.{tree_of}
use Rattle.row_table.specs.Sound.{is_sound, Standing, bare, field, union_field, role_fits, id_fits, rules_of, rows_fit}
use Rattle.row_table.proofs.SoundTree.{RowFits, rules_at, rows_fit_lem, SoundTree, sound_tree, sound-labels}
use Rattle.unchecked_rows.proofs.RowList.{count_map}
use Rattle.packing.specs.Packed.{sum_of_lengths}
use Rattle.archive.specs.Archive.{record_of, image_of}
use Rattle.archive.specs.Internal.Writes.{Small, Writables, most_bytes}
use Rattle.archive.proofs.ImageLaws.{record-length, image-length}

-- ---- names and zones

short-part : (s : List ℕ) (start size : ℕ) → length (part s start size) ≤ length s
short-part s start size =
    elim (dec_le (start + size) (length s)) [
      | yes h ↦ rw (le-leb (start + size) (length s) h) (omega (arith, length-take size (drop start s)))
      | no h ↦ rw (lt-leb (start + size) (length s) (omega arith)) (omega arith)
    ]

module _ (text names : List ℕ) (t : length text ≤ 16384) (n : length names ≤ 16384) where
  short_name : (home start size : ℕ) → length (name_of text names home start size) ≤ 16384
  unfolding name_of
  short_name zero start size = omega arith
  short_name (suc zero) start size = omega (arith, short-part text start size)
  short_name (suc (suc zero)) start size = omega (arith, short-part names start size)
  short_name (suc (suc (suc home))) start size = omega arith

  short_zone : (start size : ℕ) → length (zone_of text start size) ≤ 16384
  unfolding zone_of
  short_zone start size = omega (arith, short-part text start size)

  name-short : (r : Row) → length (label_of text names r).name ≤ 16384
  unfolding label_of
  name-short r = short_name r.home r.name_start r.name_length

  zone-short : (r : Row) → length (label_of text names r).zone ≤ 16384
  unfolding label_of
  zone-short r = short_zone r.zone_start r.zone_length

  few-strings : (f : Forest Row) → sum_of_lengths (labels text names f) ≤ 32768 * count f
  unfolding labels
  few-strings ∅ = omega arith
  few-strings (node r kids next) = let a = name-short r in let b = zone-short r in let k = few-strings kids in let m = few-strings next in omega arith

  pub few-bytes : (f : Forest Row) → length (image_of (labels text names f)) ≤ 32785 * count f
  unfolding labels
  few-bytes f = let s = few-strings f in omega (arith, image-length (labels text names f), count_map (label_of text names) f)

  -- ---- the numbers

  few-params : (s : Shape) → (rules_of s).params ≤ 2 ^ 31
  unfolding rules_of
  few-params leaf = omega arith
  few-params timestamp = omega arith
  few-params time = omega arith
  few-params interval = omega arith
  few-params fixed = omega arith
  few-params list = omega arith
  few-params fixed_list = omega arith
  few-params struct = omega arith
  few-params union = omega arith
  few-params dictionary = omega arith
  few-params decimal = omega arith
  few-params mapping = omega arith
  few-params run_end_encoded = omega arith

  few-scales : (s : Shape) → (rules_of s).scales ≤ 256
  unfolding rules_of
  few-scales leaf = omega arith
  few-scales timestamp = omega arith
  few-scales time = omega arith
  few-scales interval = omega arith
  few-scales fixed = omega arith
  few-scales list = omega arith
  few-scales fixed_list = omega arith
  few-scales struct = omega arith
  few-scales union = omega arith
  few-scales dictionary = omega arith
  few-scales decimal = omega arith
  few-scales mapping = omega arith
  few-scales run_end_encoded = omega arith

  few-roles : (s : Standing) (role : ℕ) → T (role_fits s role) → role < 256
  unfolding role_fits
  few-roles bare role t = grind (arith, nat_tests)
  few-roles field role t = grind (arith, nat_tests)
  few-roles union_field role t = grind (arith, nat_tests)

  few-ids : (s : Standing) (id : ℕ) → T (id_fits s id) → id < 256
  unfolding id_fits
  few-ids bare id t = grind (arith, nat_tests)
  few-ids field id t = grind (arith, nat_tests)
  few-ids union_field id t = grind (arith, nat_tests)

  can-write-row : (s : Standing) (r : Row) (kids : Forest Row) → suc (count kids) ≤ 1024 → RowFits s (label_of text names r) (labels text names kids) → Small (label_of text names r) × (length (record_of (label_of text names r) (image_of (labels text names kids))) < 2 ^ 32)
  can-write-row s r kids few w =
      let l = label_of text names r in
      let a = name-short r in
      let b = zone-short r in
      let k = few-bytes kids in (
        record {
          kind = w.kind;
          role = few-roles s l.role w.role;
          union_id = few-ids s l.union_id w.union_id;
          number = let n = w.number in let p = few-params (shape_of l.kind) in omega arith;
          scale = let n = w.scale in let p = few-scales (shape_of l.kind) in omega arith;
          name = omega arith;
          zone = omega arith;
        },
        omega (arith, record-length l (image_of (labels text names kids)), length-append l.name l.zone),
      )

  pub can-write : (s : Standing) (f : Forest Row) → count f ≤ 1024 → T (rows_fit s (labels text names f)) → Writables (labels text names f)
  unfolding labels
  can-write s ∅ few t = tt
  can-write s (node r kids next) few t =
      let w = rows_fit_lem s (label_of text names r) (labels text names kids) (labels text names next) t in
      (can-write-row s r kids (omega arith) w.0, (can-write (rules_at (label_of text names r)).below kids (omega arith) w.1, can-write s next (omega arith) w.2))

-- ---- a sound tree

module _ (text names table : List ℕ) (sound : T (is_sound text names table)) where
  abbrev tree : SoundTree text names table
  tree = sound_tree text names table sound

  listed-few : length names ≤ 16384
  listed-few = omega (arith, ap length tree.listed)

  pub tree-writable : Writables (tree_of text names table)
  tree-writable =
      let r = tree.rows in
      subst Writables (sym (sound-labels text names table tree)) (can-write text names tree.short listed-few bare (node tree.root tree.kids ∅) (omega arith) tree.fits)

  pub tree-few : length (image_of (tree_of text names table)) < most_bytes
  tree-few =
      let r = tree.rows in
      omega (arith, ap (λ (f : Forest Label). length (image_of f)) (sound-labels text names table tree), few-bytes text names tree.short listed-few (node tree.root tree.kids ∅))
