-- Packed trees.
--   packed-length          the packed length is the sum of the lengths of names and zones
--   count-packed, depth-packed   the packed rows have the shape of the tree
--   packed-says, packed-tree     over the packed text they say what was packed
--   packed-sound           what a sound tree says, packed, is a sound tree, if its packed text has at most 16,384 bytes
use Rattle.std.specs.Prelude.{if◌then◌else◌}
use mathlib.Core.Path.{◌≡◌, refl, sym, ap, ◌∙◌}
use mathlib.Core.Bool.{Bool, true, false, ◌&&◌, ◌||◌}
use mathlib.Core.List.{List, [], ◌∷◌, ◌++◌, append_assoc, append-nil}
use Prim.Native.Nat.{ℕ, suc, ◌+◌, ◌≤◌, max}
use native.Mathlib.Omega.{arith}
use lib.ListN.{length, drop, length-append, length-drop}
use lib.Seq.{take-append_seam}
use lib.Dec.{T, leb, eqb}
use borrow.Author.Tests.{le-leb}
use Rattle.std.proofs.lemmas.Bool.Decides.{nat_tests}
use Rattle.tokenizer.specs.Utf8.{is_utf8, utf8_state}
use Rattle.tokenizer.proofs.Basics.{both, if_same, skip_word}
use Rattle.tokenizer.proofs.Utf8Laws.{utf8_append}
use Rattle.datatype.specs.Tree.{Forest, ∅, node, count, depth, Label, name_list, part, name_of, zone_of, label_of, labels, map_forest}
use Rattle.datatype.specs.Table.{table_of, tree_of}
use Rattle.datatype.proofs.Table.{view_table}
use Rattle.unchecked_rows.specs.Parents.{parented}
use Rattle.unchecked_rows.proofs.RowList.{count_map}
use Rattle.unchecked_rows.proofs.ParentFixed.{labels-parented}
use Rattle.row_table.specs.Sound.{Standing, bare, field, union_field, role_fits, is_name, name_fits, zone_fits, rows_fit, is_listed, name_placed, zone_placed, placed, is_sound}
use Rattle.row_table.proofs.SoundTree.{SoundTree, RowFits, rows_fit_lem, rules_at}
use Rattle.row_table.proofs.Parented.{parented-sound}
use Rattle.packing.specs.Packed.{row_text, packed_text, if_any, packed_row, packed_from, packed, sum_of_lengths}

pub packed-length : (f : Forest Label) → length (packed_text f) ≡ sum_of_lengths f
unfolding packed_text
packed-length ∅ = refl
packed-length (node l kids next) =
    let a = length-append l.name l.zone in
    let b = length-append (packed_text kids) (packed_text next) in
    omega (arith, length-append (row_text l) (packed_text kids ++ packed_text next), packed-length kids, packed-length next)

-- ---- the shape

pub count-packed : (at : ℕ) (f : Forest Label) → count (packed_from at f) ≡ count f
unfolding packed_from
count-packed at ∅ = refl
count-packed at (node l kids next) =
    λ j. suc (count-packed (at + length (row_text l)) kids j) + count-packed (at + length (row_text l) + length (packed_text kids)) next j

pub depth-packed : (at : ℕ) (f : Forest Label) → depth (packed_from at f) ≡ depth f
unfolding packed_from
depth-packed at ∅ = refl
depth-packed at (node l kids next) =
    λ j. max (suc (depth-packed (at + length (row_text l)) kids j)) (depth-packed (at + length (row_text l) + length (packed_text kids)) next j)

-- ---- what stands in the text

-- from a place on a text holds some bytes, and then others
abbrev pub Holds : List ℕ → ℕ → List ℕ → List ℕ → Type 0
Holds text at s rest = drop at text ≡ s ++ rest

part_is : (text : List ℕ) (at : ℕ) (b : ℕ) (s rest : List ℕ) → Holds text at (b ∷ s) rest → part text at (length (b ∷ s)) ≡ b ∷ s
part_is text at b s rest h =
    let l : at + length (b ∷ s) ≤ length text = omega (arith, length-drop at text, ap length h, length-append (b ∷ s) rest) in
    rw (le-leb (at + length (b ∷ s)) (length text) l, h) (take-append_seam (b ∷ s) rest)

name_is : (text names : List ℕ) (at : ℕ) (s rest : List ℕ) → Holds text at s rest → name_of text names (if_any s 1) (if_any s at) (length s) ≡ s
unfolding name_of
name_is text names at [] rest h = refl
name_is text names at (b ∷ s) rest h = part_is text at b s rest h

zone_is : (text : List ℕ) (at : ℕ) (s rest : List ℕ) → Holds text at s rest → zone_of text (if_any s at) (length s) ≡ s
unfolding zone_of
zone_is text at [] rest h = if_same (leb 0 (length text)) []
zone_is text at (b ∷ s) rest h = part_is text at b s rest h

-- the parts of what a run packs, each where it stands
module _ (text : List ℕ) (at : ℕ) (l : Label) (kids next : Forest Label) (rest : List ℕ) (h : Holds text at (packed_text (node l kids next)) rest) where
  abbrev below : ℕ
  below = at + length (row_text l)

  name-here : Holds text at l.name (l.zone ++ (packed_text kids ++ packed_text next) ++ rest)
  unfolding packed_text
  name-here = h ∙ simp append_assoc

  zone-here : Holds text (at + length l.name) l.zone ((packed_text kids ++ packed_text next) ++ rest)
  zone-here = skip_word at text l.name _ name-here ∙ append_assoc l.zone _ rest

  kids-here : Holds text below (packed_text kids) (packed_text next ++ rest)
  unfolding packed_text
  kids-here = skip_word at text (row_text l) _ (h ∙ append_assoc (row_text l) _ rest) ∙ append_assoc (packed_text kids) (packed_text next) rest

  next-here : Holds text (below + length (packed_text kids)) (packed_text next) rest
  next-here = skip_word below text (packed_text kids) _ kids-here

-- ---- what the packed rows say

packed-row-says : (text names : List ℕ) (at : ℕ) (l : Label) (rest rest' : List ℕ) → Holds text at l.name rest → Holds text (at + length l.name) l.zone rest' → label_of text names (packed_row at l) ≡ l
unfolding label_of packed_row
packed-row-says text names at l rest rest' n z =
    let e = name_is text names at l.name rest n in
    let f = zone_is text (at + length l.name) l.zone rest' z in
    λ j. record { kind = l.kind; role = l.role; union_id = l.union_id; number = l.number; scale = l.scale; name = e j; zone = f j }

pub packed-says : (text names : List ℕ) (at : ℕ) (f : Forest Label) (rest : List ℕ) → Holds text at (packed_text f) rest → labels text names (packed_from at f) ≡ f
unfolding labels packed_from
packed-says text names at ∅ rest h = refl
packed-says text names at (node l kids next) rest h =
    let r = packed-row-says text names at l _ _ (name-here text at l kids next rest h) (zone-here text at l kids next rest h) in
    let k = packed-says text names (at + length (row_text l)) kids _ (kids-here text at l kids next rest h) in
    let n = packed-says text names (at + length (row_text l) + length (packed_text kids)) next rest (next-here text at l kids next rest h) in
    λ j. node (r j) (k j) (n j)

pub packed-tree : (names : List ℕ) (f : Forest Label) → tree_of (packed_text f) names (table_of (packed f)) ≡ f
unfolding packed tree_of
packed-tree names f =
    rw (view_table (parented (packed_from 0 f)))
    (labels-parented (packed_text f) names (packed_from 0 f) ∙ packed-says (packed_text f) names 0 f [] (sym (append-nil (packed_text f))))

-- ---- what makes them sound

name-utf8 : (s : List ℕ) → T (is_name s) → T (is_utf8 s)
name-utf8 [] t = absurd t
name-utf8 (b ∷ s) t = t

fits-utf8 : (standing : Standing) (s : List ℕ) → T (name_fits standing s) → T (is_utf8 s)
unfolding name_fits is_utf8 utf8_state
fits-utf8 bare [] t = tt
fits-utf8 bare (b ∷ s) t = absurd t
fits-utf8 field s t = name-utf8 s t
fits-utf8 union_field s t = name-utf8 s t

zone-utf8 : (zoned : Bool) (s : List ℕ) → T (zone_fits zoned s) → T (is_utf8 s)
unfolding zone_fits is_utf8 utf8_state
zone-utf8 true s t = t
zone-utf8 false [] t = tt
zone-utf8 false (b ∷ s) t = absurd t

pub packed-utf8 : (standing : Standing) (f : Forest Label) → T (rows_fit standing f) → T (is_utf8 (packed_text f))
unfolding packed_text
packed-utf8 standing ∅ t = unfold is_utf8 utf8_state in tt
packed-utf8 standing (node l kids next) t =
    let w = rows_fit_lem standing l kids next t in
    utf8_append (row_text l) (packed_text kids ++ packed_text next)
    (utf8_append l.name l.zone (fits-utf8 standing l.name w.0.name) (zone-utf8 (rules_at l).zoned l.zone w.0.zone))
    (utf8_append (packed_text kids) (packed_text next) (packed-utf8 (rules_at l).below kids w.1) (packed-utf8 standing next w.2))

module _ (text : List ℕ) where
  room : (at b : ℕ) (s rest : List ℕ) → Holds text at (b ∷ s) rest → at + length (b ∷ s) ≤ length text
  room at b s rest h = omega (arith, length-drop at text, ap length h, length-append (b ∷ s) rest)

  -- a name and a zone, as soundness asks where they stand
  abbrev name_stands : ℕ → ℕ → List ℕ → Bool
  name_stands role at s =
      if eqb role 0 then eqb (if_any s 1) 0 && eqb (if_any s at) 0 && eqb (length s) 0
      else ((eqb (if_any s 1) 1 && leb 1 (length s) && leb (if_any s at + length s) (length text)) || (eqb (if_any s 1) 2 && is_listed (if_any s at) (length s)))

  abbrev zone_stands : ℕ → List ℕ → Bool
  zone_stands at s = if eqb (length s) 0 then eqb (if_any s at) 0 else leb (if_any s at + length s) (length text)

  field-stands : (role at : ℕ) (s rest : List ℕ) → T (eqb role 1 || eqb role 2) → T (is_name s) → Holds text at s rest → T (name_stands role at s)
  field-stands role at [] rest r n h = absurd n
  field-stands role at (b ∷ s) rest r n h = let l = room at b s rest h in grind (arith, nat_tests)

  name-stands : (standing : Standing) (role at : ℕ) (s rest : List ℕ) → T (role_fits standing role) → T (name_fits standing s) → Holds text at s rest → T (name_stands role at s)
  unfolding role_fits name_fits
  name-stands bare role at [] rest r n h = grind (arith, nat_tests)
  name-stands bare role at (b ∷ s) rest r n h = absurd n
  name-stands field role at s rest r n h = field-stands role at s rest r n h
  name-stands union_field role at s rest r n h = field-stands role at s rest r n h

  zone-stands : (at : ℕ) (s rest : List ℕ) → Holds text at s rest → T (zone_stands at s)
  zone-stands at [] rest h = tt
  zone-stands at (b ∷ s) rest h = let l = room at b s rest h in grind (arith, nat_tests)

  row-placed : (standing : Standing) (at : ℕ) (l : Label) (kids : Forest Label) (rest rest' : List ℕ) → RowFits standing l kids → Holds text at l.name rest → Holds text (at + length l.name) l.zone rest'
      → T (name_placed text (packed_row at l) && zone_placed text (packed_row at l))
  unfolding name_placed zone_placed packed_row
  row-placed standing at l kids rest rest' r n z =
      both (name_stands l.role at l.name) (zone_stands (at + length l.name) l.zone) (name-stands standing l.role at l.name rest r.role r.name n) (zone-stands (at + length l.name) l.zone rest' z)

  pub packed-placed : (standing : Standing) (at : ℕ) (f : Forest Label) (rest : List ℕ) → T (rows_fit standing f) → Holds text at (packed_text f) rest → T (placed text (packed_from at f))
  unfolding placed packed_from
  packed-placed standing at ∅ rest t h = tt
  packed-placed standing at (node l kids next) rest t h =
      let w = rows_fit_lem standing l kids next t in
      let r = row-placed standing at l kids _ _ w.0 (name-here text at l kids next rest h) (zone-here text at l kids next rest h) in
      let k = packed-placed (rules_at l).below (at + length (row_text l)) kids _ w.1 (kids-here text at l kids next rest h) in
      let n = packed-placed standing (at + length (row_text l) + length (packed_text kids)) next rest w.2 (next-here text at l kids next rest h) in
      grind (arith, nat_tests)

-- ---- a sound tree

-- What a sound tree says: a root that fits, with what is below it, of at most 1,024 rows and 64 levels.
pub record SoundLabels (root : Label) (kids : Forest Label) : Type 0 where
  pub rows : suc (count kids) ≤ 1024
  pub levels : suc (depth kids) ≤ 64
  pub fits : T (rows_fit bare (node root kids ∅))

depth_map : {A B : Type 0} (g : A → B) (f : Forest A) → depth (map_forest g f) ≡ depth f
depth_map g ∅ = refl
depth_map g (node a kids next) = λ j. max (suc (depth_map g kids j)) (depth_map g next j)

pub sound-says : (text names table : List ℕ) (s : SoundTree text names table) → SoundLabels (label_of text names s.root) (labels text names s.kids)
unfolding labels
sound-says text names table s =
    let r = s.rows in
    let l = s.levels in
    record {
      rows = omega (arith, count_map (label_of text names) s.kids);
      levels = omega (arith, depth_map (label_of text names) s.kids);
      fits = s.fits;
    }

module _ (root : Label) (kids : Forest Label) (s : SoundLabels root kids) where
  pub packed-sound : length (packed_text (node root kids ∅)) ≤ 16384 → T (is_sound (packed_text (node root kids ∅)) name_list (table_of (packed (node root kids ∅))))
  unfolding packed packed_from
  packed-sound short =
      let text = packed_text (node root kids ∅) in
      let below = 0 + length (row_text root) in
      let whole : Holds text 0 text [] = sym (append-nil text) in
      let n = s.rows in
      let d = s.levels in
      parented-sound text (packed_row 0 root) (packed_from below kids) short (packed-utf8 bare (node root kids ∅) s.fits)
      (omega (arith, count-packed below kids)) (omega (arith, depth-packed below kids))
      (packed-placed text bare 0 (node root kids ∅) [] s.fits whole)
      (rw (packed-says text name_list 0 (node root kids ∅) [] whole) s.fits)
