-- Runs of sound rows, put together as the reader puts them together: a type over its children, a type made a field, and
-- a field before the fields that follow it.
use mathlib.Core.Path.{◌≡◌, sym, subst}
use mathlib.Core.Bool.{Bool, true, false, ◌&&◌, ◌||◌}
use mathlib.Core.List.{List, [], ◌∷◌, map}
use Prim.Native.Nat.{ℕ, zero, suc, ◌-◌, ◌≤◌, ◌<◌}
use native.Mathlib.Omega.{arith}
use lib.ListN.{length}
use lib.Dec.{T, ltb, eqb}
use Rattle.std.proofs.lemmas.Bool.Decides.{nat_tests}
use Rattle.datatype.specs.Kind.{Shape, kinds, shape_of, ids_fit}
use Rattle.datatype.specs.Tree.{Forest, ∅, node, count, roots, Row, labels}
use Rattle.row_table.specs.Sound.{Standing, bare, field, union_field, arity_fits, id_fits, rules_of, rows_fit, is_listed, placed}
use Rattle.row_table.specs.Internal.Check.{below_of, part_fits, name_ok, zone_ok, own_shape, numbers_fit, own_fits, over_kids, children_fit}
use Rattle.row_table.proofs.Clauses.{Run, own_of, run_in, run_out}
use Rattle.parser.specs.Parse.{Name, Tree, bare_row, field_row, single}

-- ---- places

-- A field, of a union or not.
abbrev pub is_field : Standing → Bool
is_field bare = false
is_field field = true
is_field union_field = true

-- The ids of siblings in a place. A union's are judged only once all its fields are read.
abbrev pub ids_allow : Standing → List ℕ → Bool
ids_allow bare ids = true
ids_allow field ids = true
ids_allow union_field ids = ids_fit ids

-- the ids of a run of trees
abbrev pub ids : Forest Row → List ℕ
ids f = map (λ r. r.union_id) (roots f)

allow_first : (place : Standing) (x : ℕ) (xs : List ℕ) → T (ids_allow place (x ∷ xs)) → T (ids_allow place (x ∷ []))
unfolding ids_fit
allow_first bare x xs t = tt
allow_first field x xs t = tt
allow_first union_field x xs t = grind (arith, nat_tests)

allow_rest : (place : Standing) (x : ℕ) (xs : List ℕ) → T (ids_allow place (x ∷ xs)) → T (ids_allow place xs)
unfolding ids_fit
allow_rest bare x xs t = tt
allow_rest field x xs t = tt
allow_rest union_field x xs t = grind (arith, nat_tests)

-- the id of a field: 0, or one that is allowed
pub field_id : (id : ℕ) → id ≡ 0 → T (ids_allow field (id ∷ [])) → T (id_fits field id)
unfolding id_fits
field_id id e t = rw e tt

pub union_id_lem : (id : ℕ) → T (ids_allow union_field (id ∷ [])) → T (id_fits union_field id)
unfolding id_fits ids_fit
union_id_lem id t = grind (arith, nat_tests)

module _ (text : List ℕ) where
  -- A name that stands where it may.
  abbrev pub Found : Name → Bool
  Found n = (eqb n.home 1 && part_fits text n.start n.size) || (eqb n.home 2 && is_listed n.start n.size)

  pub found-text : (start size : ℕ) → T (part_fits text start size) → T (Found (record { home = 1; start = start; size = size }))
  found-text start size t = grind (arith, nat_tests)

  named : (place : Standing) (role : ℕ) (n : Name) → T (is_field place) → T (eqb role 1 || eqb role 2) → T (Found n)
      → T (name_ok text place role n.home n.start n.size)
  unfolding name_ok
  named bare role n p r f = absurd p
  named field role n p r f = grind (arith, nat_tests)
  named union_field role n p r f = grind (arith, nat_tests)

  -- ---- rows

  own : (place : Standing) (r : Row) → T (ltb r.kind kinds) → T (numbers_fit r.kind r.number r.scale) → T (id_fits place r.union_id)
      → T (name_ok text place r.role r.home r.name_start r.name_length) → T (zone_ok text (rules_of (shape_of r.kind)).zoned r.zone_start r.zone_length)
      → T (own_fits text place r)
  unfolding own_fits
  own place r k n i m z = grind (arith, nat_tests)

  -- the row of a type made a field's
  own-field : (from to : Standing) (r : Row) (role id : ℕ) (n : Name) → T (is_field to) → T (eqb role 1 || eqb role 2) → T (id_fits to id) → T (Found n)
      → T (own_fits text from r) → T (own_fits text to (field_row role id n r))
  own-field from to r role id n p q i f t =
      let o = own_of text from r ∅ t in
      own to (field_row role id n r) o.kind o.numbers i (named to role n p q f) o.zone

  -- ---- runs

  pub run-empty : (place : Standing) (level : ℕ) → Run text place level ∅
  unfolding placed rows_fit labels
  run-empty place level = record { flat = omega arith; places = tt; fits = tt }

  -- a tree before others
  run-cons : (place : Standing) (level : ℕ) (r : Row) (kids next : Forest Row) → Run text place level (node r kids ∅) → Run text place level next
      → Run text place level (node r kids next)
  run-cons place zero r kids next a b = absurd (let d = a.flat in omega arith)
  run-cons place (suc l) r kids next a b =
      let w = run_out text place l r kids ∅ a in
      run_in text place l r kids next w.0 w.1 w.2 b

  -- a type made a field
  pub run-field : (from to : Standing) (level : ℕ) (r : Row) (kids : Forest Row) (role id : ℕ) (n : Name) → T (is_field to) → T (eqb role 1 || eqb role 2)
      → T (id_fits to id) → T (Found n) → Run text from level (node r kids ∅) → Run text to level (node (field_row role id n r) kids ∅)
  run-field from to zero r kids role id n p q i f a = absurd (let d = a.flat in omega arith)
  run-field from to (suc l) r kids role id n p q i f a =
      let w = run_out text from l r kids ∅ a in
      run_in text to l (field_row role id n r) kids ∅ (own-field from to r role id n p q i f w.0) w.1 w.2 (run-empty to (suc l))

  -- What a shape asks of a type that is read: its numbers, its zone and its children.
  pub record Asked (sh : Shape) (k param scale zone_start zone_length : ℕ) (kids : Forest Row) : Type 0 where
    pub params : param < (rules_of sh).params
    pub scales : scale < (rules_of sh).scales
    pub shape : T (own_shape sh k param scale)
    pub zone : T (zone_ok text (rules_of sh).zoned zone_start zone_length)
    pub arity : T (arity_fits (rules_of sh).children (length (roots kids)))
    pub over : T (over_kids sh kids)

  -- a type over its children
  module _ (level k param scale zone_start zone_length : ℕ) (kids : Forest Row) (low : k < kinds) where
    abbrev row : Row
    row = bare_row k param scale zone_start zone_length

    run-asked : Asked (shape_of k) k param scale zone_start zone_length kids → Run text (below_of k) level kids → Run text bare (suc level) (node row kids ∅)
    unfolding numbers_fit children_fit id_fits name_ok
    run-asked a below = run_in text bare level row kids ∅ (own bare row (grind (arith, nat_tests)) (grind (arith, nat_tests)) tt tt a.zone) below (grind (arith, nat_tests)) (run-empty bare (suc level))

    pub run-type : (sh : Shape) → shape_of k ≡ sh → Asked sh k param scale zone_start zone_length kids → Run text (rules_of sh).below level kids
        → Run text bare (suc level) (node row kids ∅)
    run-type sh e a below =
        run-asked (subst (λ (s : Shape). Asked s k param scale zone_start zone_length kids) (sym e) a) (subst (λ (s : Shape). Run text (rules_of s).below level kids) (sym e) below)

  -- ---- what the reader answers

  -- A run of trees that is sound, where the ids of its roots are allowed, and takes no more than the rows left.
  pub record Fits (place : Standing) (level rows : ℕ) (f : Forest Row) : Type 0 where
    pub run : T (ids_allow place (ids f)) → Run text place level f
    pub few : count f ≤ rows

  -- A type or a field.
  abbrev pub Typed : Standing → ℕ → ℕ → Tree → Type 0
  Typed place level rows t = Fits place level rows (single t)

  pub fits-none : (place : Standing) (level rows : ℕ) → Fits place level rows ∅
  fits-none place level rows = record { run = λ t. run-empty place level; few = omega arith }

  pub fits_more : (place : Standing) (level rows : ℕ) (r : Row) (kids next : Forest Row) → Fits place level rows (node r kids ∅)
      → Fits place level (rows - suc (count kids)) next → Fits place level rows (node r kids next)
  fits_more place level rows r kids next a b =
      let x = a.few in
      let y = b.few in
      record {
        run = λ t. run-cons place level r kids next (a.run (allow_first place r.union_id (ids next) t)) (b.run (allow_rest place r.union_id (ids next) t));
        few = omega arith;
      }

  -- a type or a field made a field
  pub fits-field : (from to : Standing) (level rows : ℕ) (r : Row) (kids : Forest Row) (role id : ℕ) (n : Name) → T (ids_allow from (r.union_id ∷ [])) → T (is_field to)
      → T (eqb role 1 || eqb role 2) → (T (ids_allow to (id ∷ [])) → T (id_fits to id)) → T (Found n)
      → Fits from level rows (node r kids ∅) → Fits to level rows (node (field_row role id n r) kids ∅)
  fits-field from to level rows r kids role id n w p q i f a =
      record { run = λ t. run-field from to level r kids role id n p q (i t) f (a.run w); few = a.few }

  -- a type over its children
  pub fits-type : (level rows k param scale zone_start zone_length : ℕ) (kids : Forest Row) → k < kinds → (sh : Shape) → shape_of k ≡ sh
      → Asked sh k param scale zone_start zone_length kids → Run text (rules_of sh).below level kids → count kids ≤ rows
      → Fits bare (suc level) (suc rows) (node (bare_row k param scale zone_start zone_length) kids ∅)
  fits-type level rows k param scale zone_start zone_length kids low sh e a below few =
      record { run = λ t. run-type level k param scale zone_start zone_length kids low sh e a below; few = omega arith }
