-- Sound trees with plain names and zones, row by row: what the round trip starts from.
use mathlib.Core.Path.{◌≡◌, refl, sym}
use mathlib.Core.Bool.{false, ◌||◌}
use mathlib.Core.Logic.{◌⊎◌, inl, inr}
use mathlib.Core.List.{List, [], ◌∷◌}
use Prim.Native.Nat.{ℕ, ◌<◌}
use lib.ListN.{length}
use lib.Dec.{T, eqb, ltb→lt, eqb→eq}
use Rattle.tokenizer.specs.Text.{is_empty}
use Rattle.datatype.specs.Kind.{Shape, kinds, shape_of}
use Rattle.datatype.specs.Tree.{Forest, ∅, node, roots, Label}
use Rattle.row_table.specs.Sound.{Standing, bare, field, union_field, arity_fits, role_fits, id_fits, is_name, name_fits, rules_of, zone_fits, shape_fits, rows_fit}
use native.Mathlib.Omega.{arith}
use Rattle.std.proofs.lemmas.Bool.Decides.{nat_tests}
use Rattle.row_table.proofs.SoundTree.{RowFits, rules_at, rows_fit_lem}
use Rattle.round_trip.specs.Plain.{is_plain_text, all_plain}

-- one row that stands in a place, over its children
pub record PlainRow (place : Standing) (l : Label) (kids : Forest Label) : Type 0 where
  pub fits : RowFits place l kids
  pub name : T (is_plain_text l.name)
  pub zone : T (is_plain_text l.zone)

-- every row of a run
abbrev pub PlainRows : Standing → Forest Label → Type 0
PlainRows place ∅ = Unit {0}
PlainRows place (node l kids next) = PlainRow place l kids × PlainRows (rules_at l).below kids × PlainRows place next

pub plain_parts : (l : Label) (kids next : Forest Label) → T (all_plain (node l kids next))
    → T (is_plain_text l.name) × T (is_plain_text l.zone) × T (all_plain kids) × T (all_plain next)
unfolding all_plain
plain_parts l kids next p = (grind (arith, nat_tests), grind (arith, nat_tests), grind (arith, nat_tests), grind (arith, nat_tests))

-- the other way round: a tree is plain if the name and the zone of each of its rows are
abbrev pub In : Label → Forest Label → Type 0
In l ∅ = ⊥
In l (node m kids next) = (l ≡ m) ⊎ (In l kids ⊎ In l next)

pub rows_plain : (f : Forest Label) → ((l : Label) → In l f → T (is_plain_text l.name) × T (is_plain_text l.zone)) → T (all_plain f)
unfolding all_plain
rows_plain ∅ h = tt
rows_plain (node l kids next) h =
    let r = h l (inl refl) in
    let k = rows_plain kids (λ m i. h m (inr (inl i))) in
    let n = rows_plain next (λ m i. h m (inr (inr i))) in
    grind (arith, nat_tests)

pub plain_rows : (place : Standing) (f : Forest Label) → T (rows_fit place f) → T (all_plain f) → PlainRows place f
plain_rows place ∅ h p = tt
plain_rows place (node l kids next) h p =
    let r = rows_fit_lem place l kids next h in
    let q = plain_parts l kids next p in
    (record { fits = r.0; name = q.0; zone = q.1 }, plain_rows (rules_at l).below kids r.1 q.2, plain_rows place next r.2 q.3)

-- what the shape asks, and what is known of the children
pub record ShapeRow (s : Shape) (l : Label) (kids : Forest Label) : Type 0 where
  pub arity : T (arity_fits (rules_of s).children (length (roots kids)))
  pub number : l.number < (rules_of s).params
  pub scale : l.scale < (rules_of s).scales
  pub zone : T (zone_fits (rules_of s).zoned l.zone)
  pub plain : T (is_plain_text l.zone)
  pub shape : T (shape_fits s l kids)
  pub below : PlainRows (rules_of s).below kids

pub shape_row : (place : Standing) (l : Label) (kids : Forest Label) → PlainRow place l kids → PlainRows (rules_at l).below kids → ShapeRow (shape_of l.kind) l kids
shape_row place l kids r b =
    record {
      arity = r.fits.arity;
      number = r.fits.number;
      scale = r.fits.scale;
      zone = r.fits.zone;
      plain = r.zone;
      shape = r.fits.shape;
      below = b;
    }

-- what is known of a field, by itself
pub record FieldRow (l : Label) : Type 0 where
  pub kind : l.kind < kinds
  pub role : T (eqb l.role 1 || eqb l.role 2)
  pub name : T (is_name l.name)
  pub plain : T (is_plain_text l.name)

pub field_row_lem : (l : Label) (kids : Forest Label) → PlainRow field l kids → FieldRow l
unfolding role_fits name_fits
field_row_lem l kids r = record { kind = r.fits.kind; role = r.fits.role; name = r.fits.name; plain = r.name }

pub union_row : (l : Label) (kids : Forest Label) → PlainRow union_field l kids → FieldRow l
unfolding role_fits name_fits
union_row l kids r = record { kind = r.fits.kind; role = r.fits.role; name = r.fits.name; plain = r.name }

pub field_id : (l : Label) (kids : Forest Label) → PlainRow field l kids → l.union_id ≡ 0
unfolding id_fits
field_id l kids r = eqb→eq l.union_id 0 r.fits.union_id

pub union_id_lem : (l : Label) (kids : Forest Label) → PlainRow union_field l kids → l.union_id < 128
unfolding id_fits
union_id_lem l kids r = ltb→lt l.union_id 128 r.fits.union_id

-- a label without what its parent says of it
abbrev pub bare_label : Label → Label
bare_label l = record { kind = l.kind; role = 0; union_id = 0; number = l.number; scale = l.scale; name = []; zone = l.zone }

empty_is : (s : List ℕ) → T (is_empty s) → s ≡ []
empty_is [] h = refl
empty_is (c ∷ s) h = absurd h

pub no_zone : (l : Label) → T (zone_fits false l.zone) → l.zone ≡ []
unfolding zone_fits
no_zone l h = empty_is l.zone h

pub bare_is : (l : Label) (kids : Forest Label) → PlainRow bare l kids → bare_label l ≡ l
unfolding role_fits id_fits name_fits
bare_is l kids r =
    let role : 0 ≡ l.role = sym (eqb→eq l.role 0 r.fits.role) in
    let id : 0 ≡ l.union_id = sym (eqb→eq l.union_id 0 r.fits.union_id) in
    let name : [] ≡ l.name = sym (empty_is l.name r.fits.name) in
    λ j. record { kind = l.kind; role = role j; union_id = id j; number = l.number; scale = l.scale; name = name j; zone = l.zone }
