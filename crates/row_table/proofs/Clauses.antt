-- The clauses of soundness as `is_sound` looks at them (specs/Internal/Check.antt) are those of its definition
-- (specs/Sound.antt).
use mathlib.Core.Path.{◌≡◌, refl, sym, ap}
use mathlib.Core.Bool.{Bool, true, false, ◌&&◌, ◌||◌, and-true}
use mathlib.Core.List.{List, [], ◌∷◌, map}
use mathlib.Core.Option.{some}
use Prim.Native.Nat.{ℕ, suc, ◌+◌, ◌≤◌}
use native.Mathlib.Omega.{arith}
use lib.ListN.{length, take, drop, length-drop}
use lib.Seq.{length-take-le}
use lib.Dec.{T, leb, ltb, eqb}
use borrow.Author.Tests.{le-leb}
use Rattle.std.proofs.lemmas.Bool.Decides.{nat_tests}
use Rattle.tokenizer.specs.Text.{is_empty}
use Rattle.tokenizer.specs.Utf8.{is_utf8, utf8_state, utf8_step}
use Rattle.tokenizer.proofs.Basics.{and_l, and_r, if_same}
use Rattle.datatype.specs.Kind.{Shape, leaf, timestamp, time, interval, fixed, list, fixed_list, struct, union, dictionary, decimal, mapping, run_end_encoded, kinds, shape_of, ids_fit, entries_refusal}
use Rattle.datatype.specs.Tree.{Forest, ∅, node, roots, depth, Row, Label, name_list, part, name_of, zone_of, label_of, labels}
use Rattle.row_table.specs.Sound.{Standing, bare, field, union_field, role_fits, id_fits, is_name, name_fits, rules_of, zone_fits, roles_of, ids_of, entries_fit, run_ends_fit, shape_fits, rows_fit, is_listed, name_placed, zone_placed, placed}
use Rattle.row_table.specs.Internal.Check.{below_of, part_fits, name_ok, zone_ok, own_shape, numbers_fit, own_fits, entries_ok, first_non_null, over_kids, children_fit, run_fits}
use Rattle.row_table.proofs.SoundTree.{RowFits, rows_fit_lem, fits_rows}

-- ---- parts of a text

part_empty : (text : List ℕ) (start : ℕ) → part text start 0 ≡ []
part_empty text start = if_same (leb (start + 0) (length text)) (take 0 (drop start text))

empty_zone : (zoned : Bool) → T (zone_fits zoned [])
unfolding zone_fits is_utf8 utf8_state
empty_zone true = tt
empty_zone false = tt

-- ---- names

is_name_lem : (m : List ℕ) → 1 ≤ length m → is_name m ≡ is_utf8 m
is_name_lem [] h = absurd (omega arith)
is_name_lem (b ∷ m) h = refl

not_empty : (m : List ℕ) → 1 ≤ length m → is_empty m ≡ false
not_empty [] h = absurd (omega arith)
not_empty (b ∷ m) h = refl

part_long : (text : List ℕ) (start size : ℕ) → start + size ≤ length text → length (part text start size) ≡ size
part_long text start size h = rw (le-leb (start + size) (length text) h) (length-take-le size (drop start text) (omega (arith, length-drop start text)))

-- a part of the name list that a name may be is a name
listed_name : (start size : ℕ) → T (is_listed start size) → T (is_name (part name_list start size))
unfolding is_utf8 utf8_state utf8_step
listed_name start size t =
    let one : T (is_name (part name_list 0 4)) = tt in
    let two : T (is_name (part name_list 4 8)) = tt in
    let three : T (is_name (part name_list 12 6)) = tt in
    grind (arith, nat_tests)

module _ (text : List ℕ) (r : Row) where
  abbrev in_text : Bool
  in_text = eqb r.home 1 && part_fits text r.name_start r.name_length

  abbrev in_list : Bool
  in_list = eqb r.home 2 && is_listed r.name_start r.name_length

  abbrev name_at : List ℕ
  name_at = name_of text name_list r.home r.name_start r.name_length

  abbrev first : Bool
  first = eqb r.home 1 && leb 1 r.name_length && leb (r.name_start + r.name_length) (length text)

  text-name : T in_text → T first × T (is_name name_at)
  unfolding part_fits name_of
  text-name t =
      let l = part_long text r.name_start r.name_length in
      let n = is_name_lem (part text r.name_start r.name_length) in
      (grind (arith, nat_tests), grind (arith, nat_tests, l, n))

  name-text : T first → T (is_name name_at) → T in_text
  unfolding part_fits name_of
  name-text t n =
      let l = part_long text r.name_start r.name_length in
      let m = is_name_lem (part text r.name_start r.name_length) in
      grind (arith, nat_tests, l, m)

  list-name : T in_list → T (is_name name_at)
  unfolding name_of
  list-name t = grind (arith, nat_tests, listed_name)

  abbrev field_role : Bool
  field_role = eqb r.role 1 || eqb r.role 2

  -- a field's name stands where it may and is a name
  field-in : T field_role → T (in_text || in_list) → T (name_placed text r) × T field_role × T (is_name name_at)
  unfolding name_placed
  field-in q t = (grind (arith, nat_tests, text-name), q, grind (arith, nat_tests, text-name, list-name))

  field-out : T field_role → T (name_placed text r) → T (is_name name_at) → T (field_role && (in_text || in_list))
  unfolding name_placed
  field-out q p n = grind (arith, nat_tests, name-text)

  abbrev name_test : Standing → Bool
  name_test standing = name_ok text standing r.role r.home r.name_start r.name_length

  bare-in : T (name_test bare) → T (name_placed text r) × T (role_fits bare r.role) × T (name_fits bare name_at)
  unfolding name_ok name_placed role_fits name_fits name_of
  bare-in t = (grind (arith, nat_tests), grind (arith, nat_tests), grind (arith, nat_tests))

  bare-out : T (name_placed text r) → T (role_fits bare r.role) → T (name_test bare)
  unfolding name_ok name_placed role_fits
  bare-out p q = grind (arith, nat_tests)

  pub name_in : (standing : Standing) → T (name_test standing) → T (name_placed text r) × T (role_fits standing r.role) × T (name_fits standing name_at)
  unfolding name_ok role_fits name_fits
  name_in bare t = bare-in t
  name_in field t = field-in (and_l field_role (in_text || in_list) t) (and_r field_role (in_text || in_list) t)
  name_in union_field t = field-in (and_l field_role (in_text || in_list) t) (and_r field_role (in_text || in_list) t)

  pub name_out : (standing : Standing) → T (name_placed text r) → T (role_fits standing r.role) → T (name_fits standing name_at) → T (name_test standing)
  unfolding name_ok role_fits name_fits
  name_out bare p q n = bare-out p q
  name_out field p q n = field-out q p n
  name_out union_field p q n = field-out q p n

  -- ---- zones

  abbrev zone_at : List ℕ
  zone_at = zone_of text r.zone_start r.zone_length

  pub zone-in : (zoned : Bool) → T (zone_ok text zoned r.zone_start r.zone_length) → T (zone_placed text r) × T (zone_fits zoned zone_at)
  unfolding zone_ok zone_placed zone_of zone_fits part_fits
  zone-in zoned t =
      let e = part_empty text r.zone_start in
      (grind (arith, nat_tests), grind (arith, nat_tests, empty_zone))

  pub zone-out : (zoned : Bool) → T (zone_placed text r) → T (zone_fits zoned zone_at) → T (zone_ok text zoned r.zone_start r.zone_length)
  unfolding zone_ok zone_placed zone_of zone_fits part_fits
  zone-out zoned p z =
      let l = part_long text r.zone_start r.zone_length in
      let m = not_empty (part text r.zone_start r.zone_length) in
      grind (arith, nat_tests, l, m)

-- ---- shapes

-- the labels of a run of siblings have the ids and roles of its rows
ids_same : (text names : List ℕ) (f : Forest Row) → ids_of (roots (labels text names f)) ≡ map (λ c. c.union_id) (roots f)
unfolding labels label_of
ids_same text names ∅ = refl
ids_same text names (node r kids next) = ap (λ (l : List ℕ). r.union_id ∷ l) (ids_same text names next)

roles_same : (text names : List ℕ) (f : Forest Row) → roles_of (roots (labels text names f)) ≡ map (λ c. c.role) (roots f)
unfolding labels label_of
roles_same text names ∅ = refl
roles_same text names (node r kids next) = ap (λ (l : List ℕ). r.role ∷ l) (roles_same text names next)

pub roots_same : (text names : List ℕ) (f : Forest Row) → length (roots (labels text names f)) ≡ length (roots f)
unfolding labels
roots_same text names ∅ = refl
roots_same text names (node r kids next) = ap suc (roots_same text names next)

entries_same : (text names : List ℕ) (f : Forest Row) → entries_fit (labels text names f) ≡ entries_ok f
unfolding labels label_of
entries_same text names ∅ = refl
entries_same text names (node r kids next) = ap (λ (l : List ℕ). eqb (entries_refusal r.role r.kind l) 0) (roles_same text names kids)

first_same : (text names : List ℕ) (f : Forest Row) → run_ends_fit (labels text names f) ≡ first_non_null f
unfolding labels label_of
first_same text names ∅ = refl
first_same text names (node r kids next) = refl

-- what a shape asks besides is asked of the row alone and of its children
shape_parts : (text names : List ℕ) (s : Shape) (r : Row) (kids : Forest Row)
    → shape_fits s (label_of text names r) (labels text names kids) ≡ (own_shape s r.kind r.number r.scale && over_kids s kids)
unfolding shape_fits label_of
shape_parts text names leaf r kids = refl
shape_parts text names timestamp r kids = refl
shape_parts text names time r kids = sym (and-true _)
shape_parts text names interval r kids = refl
shape_parts text names fixed r kids = refl
shape_parts text names list r kids = refl
shape_parts text names fixed_list r kids = refl
shape_parts text names struct r kids = refl
shape_parts text names union r kids = ap ids_fit (ids_same text names kids)
shape_parts text names dictionary r kids = refl
shape_parts text names decimal r kids = sym (and-true _)
shape_parts text names mapping r kids = entries_same text names kids
shape_parts text names run_end_encoded r kids = first_same text names kids

-- ---- a row

-- the clauses of a row alone, and those of its children
pub record Own (text : List ℕ) (standing : Standing) (r : Row) : Type 0 where
  pub kind : T (ltb r.kind kinds)
  pub numbers : T (numbers_fit r.kind r.number r.scale)
  pub union_id : T (id_fits standing r.union_id)
  pub name : T (name_ok text standing r.role r.home r.name_start r.name_length)
  pub zone : T (zone_ok text (rules_of (shape_of r.kind)).zoned r.zone_start r.zone_length)

module _ (text : List ℕ) (standing : Standing) (r : Row) (kids : Forest Row) where
  abbrev label : Label
  label = label_of text name_list r

  abbrev below : Forest Label
  below = labels text name_list kids

  pub own_of : T (own_fits text standing r) → Own text standing r
  unfolding own_fits
  own_of t = record { kind = grind (arith, nat_tests); numbers = grind (arith, nat_tests); union_id = grind (arith, nat_tests); name = grind (arith, nat_tests); zone = grind (arith, nat_tests) }

  of-own : Own text standing r → T (own_fits text standing r)
  unfolding own_fits
  of-own o = grind (arith, nat_tests)

  -- together they are the clauses of the row's label
  row_in : Own text standing r → T (children_fit r.kind kids) → RowFits standing label below
  unfolding label_of numbers_fit children_fit
  row_in o c =
      let w = name_in text r standing o.name in
      let z = zone-in text r (rules_of (shape_of r.kind)).zoned o.zone in
      let n = roots_same text name_list kids in
      let s = shape_parts text name_list (shape_of r.kind) r kids in
      record {
        kind = grind (arith, nat_tests);
        arity = grind (arith, nat_tests);
        role = w.1;
        union_id = o.union_id;
        number = grind (arith, nat_tests);
        scale = grind (arith, nat_tests);
        name = w.2;
        zone = z.1;
        shape = grind (arith, nat_tests);
      }

  own_out : T (name_placed text r) → T (zone_placed text r) → RowFits standing label below → Own text standing r
  unfolding label_of numbers_fit
  own_out p z f =
      let s = shape_parts text name_list (shape_of r.kind) r kids in
      record {
        kind = grind (arith, nat_tests);
        numbers = grind (arith, nat_tests);
        union_id = f.union_id;
        name = name_out text r standing p f.role f.name;
        zone = zone-out text r (rules_of (shape_of r.kind)).zoned z f.zone;
      }

  kids-out : RowFits standing label below → T (children_fit r.kind kids)
  unfolding label_of children_fit
  kids-out f =
      let n = roots_same text name_list kids in
      let s = shape_parts text name_list (shape_of r.kind) r kids in
      grind (arith, nat_tests)

-- ---- a run

pub record Run (text : List ℕ) (standing : Standing) (level : ℕ) (f : Forest Row) : Type 0 where
  pub flat : depth f ≤ level
  pub places : T (placed text f)
  pub fits : T (rows_fit standing (labels text name_list f))

pub run_of : (text : List ℕ) (standing : Standing) (level : ℕ) (f : Forest Row) → T (run_fits text standing level (some f)) → Run text standing level f
unfolding run_fits
run_of text standing level f t = record { flat = grind (arith, nat_tests); places = grind (arith, nat_tests); fits = grind (arith, nat_tests) }

pub of_run : (text : List ℕ) (standing : Standing) (level : ℕ) (f : Forest Row) → Run text standing level f → T (run_fits text standing level (some f))
unfolding run_fits
of_run text standing level f w = grind (arith, nat_tests)

module _ (text : List ℕ) (standing : Standing) (l : ℕ) (r : Row) (kids next : Forest Row) where
  -- a run is sound if its first row is, by itself and over its children, and both runs that are left are
  pub run_in : T (own_fits text standing r) → Run text (below_of r.kind) l kids → T (children_fit r.kind kids) → Run text standing (suc l) next
      → Run text standing (suc l) (node r kids next)
  unfolding placed labels label_of
  run_in o k c n =
      let own = own_of text standing r kids o in
      let w = name_in text r standing own.name in
      let z = zone-in text r (rules_of (shape_of r.kind)).zoned own.zone in
      record {
        flat = grind arith;
        places = grind (arith, nat_tests);
        fits = fits_rows standing (label_of text name_list r) (labels text name_list kids) (labels text name_list next) (row_in text standing r kids own c) k.fits n.fits;
      }

  pub run_out : Run text standing (suc l) (node r kids next)
      → T (own_fits text standing r) × Run text (below_of r.kind) l kids × T (children_fit r.kind kids) × Run text standing (suc l) next
  unfolding placed labels label_of
  run_out w =
      let fits = rows_fit_lem standing (label_of text name_list r) (labels text name_list kids) (labels text name_list next) w.fits in (
        of-own text standing r kids (own_out text standing r kids (grind (arith, nat_tests)) (grind (arith, nat_tests)) fits.0),
        record { flat = grind arith; places = grind (arith, nat_tests); fits = fits.1 },
        kids-out text standing r kids fits.0,
        record { flat = grind arith; places = grind (arith, nat_tests); fits = fits.2 },
      )
