-- A sound tree, taken apart: what the walks over one, the printer and the round trip start from.
--   sound_tree, tree_sound   `is_sound` and the record `SoundTree` of its clauses
--   sound-count, sound-nests, sound-forest, sound-labels   its table, as a run of rows and as what it says
--   RowFits, row_fits_lem, fits-row, rows_fit_lem, fits_rows   the clauses of one row, and of a run
use mathlib.Core.Path.{◌≡◌, refl, subst}
use mathlib.Core.List.{List}
use mathlib.Core.Option.{Option, none, some}
use Prim.Native.Nat.{ℕ, suc, ◌*◌, ◌≤◌, ◌<◌}
use native.Mathlib.Omega.{arith}
use lib.ListN.{length}
use lib.Dec.{T}
use Rattle.std.proofs.lemmas.Bool.Decides.{nat_tests}
use Rattle.tokenizer.specs.Utf8.{is_utf8}
use Rattle.tokenizer.proofs.Listed.{same_path}
use Rattle.datatype.specs.Kind.{kinds, shape_of}
use Rattle.datatype.specs.Tree.{Forest, ∅, node, count, roots, depth, Row, Label, name_list, labels}
use Rattle.datatype.specs.Table.{row_words, view_of, tree_of}
use Rattle.row_table.specs.Sound.{Rules, Standing, bare, arity_fits, role_fits, id_fits, name_fits, rules_of, zone_fits, shape_fits, row_fits, rows_fit, placed, view_sound, is_sound}
use Rattle.unchecked_rows.specs.Parents.{parents_right}
use Rattle.unchecked_rows.specs.Internal.Run.{forest_at, Nests}
use Rattle.datatype.proofs.Same.{eq_same}
use Rattle.unchecked_rows.proofs.Runs.{view_rows, nests_all, forest_all}

-- ---- one row

-- the clauses of a row's label, by its standing, over its children
pub record RowFits (standing : Standing) (l : Label) (kids : Forest Label) : Type 0 where
  pub kind : l.kind < kinds
  pub arity : T (arity_fits (rules_of (shape_of l.kind)).children (length (roots kids)))
  pub role : T (role_fits standing l.role)
  pub union_id : T (id_fits standing l.union_id)
  pub number : l.number < (rules_of (shape_of l.kind)).params
  pub scale : l.scale < (rules_of (shape_of l.kind)).scales
  pub name : T (name_fits standing l.name)
  pub zone : T (zone_fits (rules_of (shape_of l.kind)).zoned l.zone)
  pub shape : T (shape_fits (shape_of l.kind) l kids)

-- what the shape of a label's kind asks
abbrev pub rules_at : Label → Rules
rules_at l = rules_of (shape_of l.kind)

module _ (standing : Standing) (l : Label) (kids : Forest Label) where
  pub row_fits_lem : T (row_fits standing l kids) → RowFits standing l kids
  unfolding row_fits
  row_fits_lem t =
      record {
        kind = grind (arith, nat_tests);
        arity = grind (arith, nat_tests);
        role = grind (arith, nat_tests);
        union_id = grind (arith, nat_tests);
        number = grind (arith, nat_tests);
        scale = grind (arith, nat_tests);
        name = grind (arith, nat_tests);
        zone = grind (arith, nat_tests);
        shape = grind (arith, nat_tests);
      }

  pub fits-row : RowFits standing l kids → T (row_fits standing l kids)
  unfolding row_fits
  fits-row r = grind (arith, nat_tests)

-- ---- a run of rows that fit

-- the first tree's root, its children, its later siblings
pub rows_fit_lem : (standing : Standing) (l : Label) (kids next : Forest Label) → T (rows_fit standing (node l kids next))
    → RowFits standing l kids × T (rows_fit (rules_at l).below kids) × T (rows_fit standing next)
unfolding rows_fit
rows_fit_lem standing l kids next t = (row_fits_lem standing l kids (grind (arith, nat_tests)), grind (arith, nat_tests), grind (arith, nat_tests))

pub fits_rows : (standing : Standing) (l : Label) (kids next : Forest Label) → RowFits standing l kids → T (rows_fit (rules_at l).below kids) → T (rows_fit standing next)
    → T (rows_fit standing (node l kids next))
unfolding rows_fit
fits_rows standing l kids next r k n = let f = fits-row standing l kids r in grind (arith, nat_tests)

-- ---- a sound tree

pub record SoundTree (text names table : List ℕ) : Type 0 where
  pub root : Row
  pub kids : Forest Row
  pub view : view_of table ≡ some (node root kids ∅)
  pub short : length text ≤ 16384
  pub utf8 : T (is_utf8 text)
  pub listed : names ≡ name_list
  pub rows : suc (count kids) ≤ 1024
  pub levels : suc (depth kids) ≤ 64
  pub places : T (placed text (node root kids ∅))
  pub fits : T (rows_fit bare (labels text names (node root kids ∅)))
  pub parents : T (parents_right 0 0 (node root kids ∅))

module _ (text names table : List ℕ) where
  pub sound_tree : T (is_sound text names table) → SoundTree text names table
  unfolding is_sound
  sound_tree t = go (view_of table) refl
    where
      view : T (view_sound text names (view_of table))
      view = grind (arith, nat_tests)

      go : (o : Option (Forest Row)) → view_of table ≡ o → SoundTree text names table
      go none e = absurd (let v : T (view_sound text names none) = rw e at view in unfold view_sound in v)
      go (some ∅) e = absurd (let v : T (view_sound text names (some ∅)) = rw e at view in unfold view_sound in grind (arith, nat_tests))
      go (some (node r k (node s m n))) e = absurd (let v : T (view_sound text names (some (node r k (node s m n)))) = rw e at view in unfold view_sound in grind (arith, nat_tests))
      go (some (node r k ∅)) e =
          let v : T (view_sound text names (some (node r k ∅))) = rw e at view in
          unfold view_sound in record {
            root = r;
            kids = k;
            view = e;
            short = grind (arith, nat_tests);
            utf8 = grind (arith, nat_tests);
            listed = same_path names name_list (grind (arith, nat_tests));
            rows = grind (arith, nat_tests);
            levels = grind (arith, nat_tests);
            places = grind (arith, nat_tests);
            fits = grind (arith, nat_tests);
            parents = grind (arith, nat_tests);
          }

  -- the other way round
  pub tree_sound : SoundTree text names table → T (is_sound text names table)
  unfolding is_sound
  tree_sound s =
      let n = eq_same names name_list s.listed in
      rw s.view (unfold view_sound in grind (arith, nat_tests))

-- ---- the table of a sound tree

module _ (text names table : List ℕ) (s : SoundTree text names table) where
  pub sound-count : length table ≡ row_words * suc (count s.kids)
  sound-count = let e = view_rows table (node s.root s.kids ∅) s.view in omega arith

  pub sound-nests : Nests table 0 (suc (count s.kids))
  sound-nests =
      let e : count (node s.root s.kids ∅) ≡ suc (count s.kids) = omega arith in
      subst (λ (n : ℕ). Nests table 0 n) e (nests_all table (node s.root s.kids ∅) s.view)

  pub sound-forest : forest_at table 0 (suc (count s.kids)) ≡ node s.root s.kids ∅
  sound-forest =
      let e : count (node s.root s.kids ∅) ≡ suc (count s.kids) = omega arith in
      subst (λ (n : ℕ). forest_at table 0 n ≡ node s.root s.kids ∅) e (forest_all table (node s.root s.kids ∅) s.view)

  pub sound-labels : tree_of text names table ≡ labels text names (node s.root s.kids ∅)
  unfolding tree_of
  sound-labels = rw s.view
