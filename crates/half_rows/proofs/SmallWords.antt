-- The words of a sound tree's rows but word 4 are half words, and word 4 has 31 bits.
--   words-small   of each row of a sound table
use mathlib.Core.Path.{◌≡◌, refl, sym, ap, ◌∙◌, subst}
use mathlib.Core.Logic.{◌⊎◌, inl, inr}
use mathlib.Core.List.{List, ◌++◌}
use Prim.Native.Nat.{ℕ, zero, suc, ◌+◌, ◌*◌, ◌-◌, ◌/◌, ◌^◌, ◌≤◌, ◌<◌}
use native.Mathlib.Omega.{arith}
use lib.ListN.{length, get_or}
use lib.Dec.{T}
use Rattle.std.proofs.lemmas.Bool.Decides.{nat_tests}
use Rattle.std.proofs.lemmas.Bool.{cases_lt}
use Rattle.std.proofs.lemmas.List.{get_or_append_left, get_or-append_right}
use Rattle.datatype.specs.Kind.{Shape, leaf, timestamp, time, interval, fixed, list, fixed_list, struct, union, dictionary, decimal, mapping, run_end_encoded, shape_of}
use Rattle.datatype.specs.Tree.{Forest, ∅, node, count, Row, label_of, labels}
use Rattle.datatype.specs.Table.{row_words, words_of, table_of, word_at}
use Rattle.datatype.proofs.Table.{length_table, table_view}
use Rattle.unchecked_rows.specs.Parents.{parents_right}
use Rattle.row_table.specs.Sound.{Standing, bare, field, union_field, role_fits, id_fits, rules_of, rows_fit, name_placed, zone_placed, placed, is_sound}
use Rattle.row_table.proofs.SoundTree.{rows_fit_lem, sound_tree, sound-count}
use Rattle.half_rows.specs.HalfRows.{half}
use Rattle.half_rows.specs.Internal.Small.{IsSmall}

-- ---- one row

-- the fields of a row but word 4, and the rows of its subtree, are half words, and word 4 has 31 bits
record RowSmall (r : Row) (rows : ℕ) : Type 0 where
  kind : r.kind < half
  rows_word : rows < half
  role : r.role < half
  union_id : r.union_id < half
  number : r.number < 2 ^ 31
  scale : r.scale < half
  home : r.home < half
  name_start : r.name_start < half
  name_length : r.name_length < half
  zone_start : r.zone_start < half
  zone_length : r.zone_length < half
  parent : r.parent < half

scales-few : (s : Shape) → (rules_of s).scales ≤ 256
unfolding rules_of
scales-few leaf = omega arith
scales-few timestamp = omega arith
scales-few time = omega arith
scales-few interval = omega arith
scales-few fixed = omega arith
scales-few list = omega arith
scales-few fixed_list = omega arith
scales-few struct = omega arith
scales-few union = omega arith
scales-few dictionary = omega arith
scales-few decimal = omega arith
scales-few mapping = omega arith
scales-few run_end_encoded = omega arith

params-few : (s : Shape) → (rules_of s).params ≤ 2 ^ 31
unfolding rules_of
params-few leaf = omega arith
params-few timestamp = omega arith
params-few time = omega arith
params-few interval = omega arith
params-few fixed = omega arith
params-few list = omega arith
params-few fixed_list = omega arith
params-few struct = omega arith
params-few union = omega arith
params-few dictionary = omega arith
params-few decimal = omega arith
params-few mapping = omega arith
params-few run_end_encoded = omega arith

role-small : (standing : Standing) (role : ℕ) → T (role_fits standing role) → role < half
unfolding role_fits
role-small bare role t = grind (arith, nat_tests)
role-small field role t = grind (arith, nat_tests)
role-small union_field role t = grind (arith, nat_tests)

id-small : (standing : Standing) (id : ℕ) → T (id_fits standing id) → id < half
unfolding id_fits
id-small bare id t = grind (arith, nat_tests)
id-small field id t = grind (arith, nat_tests)
id-small union_field id t = grind (arith, nat_tests)

record NameSmall (r : Row) : Type 0 where
  home : r.home < half
  start : r.name_start < half
  size : r.name_length < half

name-small : (text : List ℕ) (r : Row) → length text ≤ 16384 → T (name_placed text r) → NameSmall r
unfolding name_placed
name-small text r h t = record { home = grind (arith, nat_tests); start = grind (arith, nat_tests); size = grind (arith, nat_tests) }

record ZoneSmall (r : Row) : Type 0 where
  start : r.zone_start < half
  size : r.zone_length < half

zone-small : (text : List ℕ) (r : Row) → length text ≤ 16384 → T (zone_placed text r) → ZoneSmall r
unfolding zone_placed
zone-small text r h t = record { start = grind (arith, nat_tests); size = grind (arith, nat_tests) }

-- ---- rows of a table

first-small : (r : Row) (n : ℕ) (rest : List ℕ) → RowSmall r n → IsSmall (words_of r n ++ rest) 0
unfolding words_of
first-small r n rest s =
    record {
      kind = s.kind;
      rows = s.rows_word;
      role = s.role;
      union_id = s.union_id;
      number = s.number;
      scale = s.scale;
      home = s.home;
      name_start = s.name_start;
      name_length = s.name_length;
      zone_start = s.zone_start;
      zone_length = s.zone_length;
      parent = s.parent;
    }

-- a row that has the words of a small one is small
same-small : (t u : List ℕ) (i j : ℕ) → ((k : ℕ) → k < row_words → word_at t i k ≡ word_at u j k) → IsSmall u j → IsSmall t i
same-small t u i j e s =
    record {
      kind = subst (λ (w : ℕ). w < half) (sym (e 0 (omega arith))) s.kind;
      rows = subst (λ (w : ℕ). w < half) (sym (e 1 (omega arith))) s.rows;
      role = subst (λ (w : ℕ). w < half) (sym (e 2 (omega arith))) s.role;
      union_id = subst (λ (w : ℕ). w < half) (sym (e 3 (omega arith))) s.union_id;
      number = subst (λ (w : ℕ). w < 2 ^ 31) (sym (e 4 (omega arith))) s.number;
      scale = subst (λ (w : ℕ). w < half) (sym (e 5 (omega arith))) s.scale;
      home = subst (λ (w : ℕ). w < half) (sym (e 6 (omega arith))) s.home;
      name_start = subst (λ (w : ℕ). w < half) (sym (e 7 (omega arith))) s.name_start;
      name_length = subst (λ (w : ℕ). w < half) (sym (e 8 (omega arith))) s.name_length;
      zone_start = subst (λ (w : ℕ). w < half) (sym (e 9 (omega arith))) s.zone_start;
      zone_length = subst (λ (w : ℕ). w < half) (sym (e 10 (omega arith))) s.zone_length;
      parent = subst (λ (w : ℕ). w < half) (sym (e 11 (omega arith))) s.parent;
    }

left-small : (a b : List ℕ) (i : ℕ) → row_words * (i + 1) ≤ length a → IsSmall a i → IsSmall (a ++ b) i
left-small a b i h s = same-small (a ++ b) a i i (λ (k : ℕ) (l : k < row_words). get_or_append_left a b 0 (row_words * i + k) (omega arith)) s

right-small : (a b : List ℕ) (n i : ℕ) → length a ≡ row_words * n → IsSmall b i → IsSmall (a ++ b) (n + i)
right-small a b n i h s = same-small (a ++ b) b (n + i) i at s
  where
    at : (k : ℕ) → k < row_words → word_at (a ++ b) (n + i) k ≡ word_at b i k
    at k l =
        let place : row_words * (n + i) + k - row_words * n ≡ row_words * i + k = omega arith in
        get_or-append_right a b (row_words * n) (row_words * (n + i) + k) 0 h (omega arith) ∙ ap (λ (j : ℕ). get_or b j 0) place

-- ---- a run of trees

module _ (text names : List ℕ) (short : length text ≤ 16384) where
  row-small : (r : Row) (kids next : Forest Row) (standing : Standing) (p i : ℕ) → i + count (node r kids next) ≤ 1024 → p < half
      → T (rows_fit standing (labels text names (node r kids next))) → T (placed text (node r kids next)) → T (parents_right p i (node r kids next))
      → RowSmall r (suc (count kids))
  unfolding labels label_of placed parents_right
  row-small r kids next standing p i c q fits places parents =
      let (own, _, _) = rows_fit_lem standing (label_of text names r) (labels text names kids) (labels text names next) fits in
      let name = name-small text r short (grind (arith, nat_tests)) in
      let zone = zone-small text r short (grind (arith, nat_tests)) in
      record {
        kind = let k : r.kind < 41 = own.kind in omega arith;
        rows_word = omega arith;
        role = role-small standing r.role own.role;
        union_id = id-small standing r.union_id own.union_id;
        number = let n : r.number < (rules_of (shape_of r.kind)).params = own.number in omega (arith, params-few (shape_of r.kind));
        scale = let s : r.scale < (rules_of (shape_of r.kind)).scales = own.scale in omega (arith, scales-few (shape_of r.kind));
        home = name.home;
        name_start = name.start;
        name_length = name.size;
        zone_start = zone.start;
        zone_length = zone.size;
        parent = grind (arith, nat_tests);
      }

  -- row k behind a row is one below it or one beside it
  by : (r : Row) (kids next : Forest Row) (k : ℕ) → (k < count kids → IsSmall (table_of kids) k) → (count kids ≤ k → IsSmall (table_of next) (k - count kids))
      → (k < count kids) ⊎ (count kids ≤ k) → IsSmall (table_of kids ++ table_of next) k
  by r kids next k below beside (inl m) = left-small (table_of kids) (table_of next) k (omega (arith, length_table kids)) (below m)
  by r kids next k below beside (inr m) =
      let e : count kids + (k - count kids) ≡ k = omega arith in
      subst (λ (j : ℕ). IsSmall (table_of kids ++ table_of next) j) e
      (right-small (table_of kids) (table_of next) (count kids) (k - count kids) (length_table kids) (beside m))

  -- each row of a run of trees: its first, one below that, or one behind these
  forest-small : (f : Forest Row) (standing : Standing) (p i : ℕ) → i + count f ≤ 1024 → p < half
      → T (rows_fit standing (labels text names f)) → T (placed text f) → T (parents_right p i f)
      → (k : ℕ) → k < count f → IsSmall (table_of f) k
  unfolding table_of labels label_of placed parents_right words_of
  forest-small ∅ standing p i c q fits places parents k l = absurd (omega arith)
  forest-small (node r kids next) standing p i c q fits places parents zero l =
      first-small r (suc (count kids)) (table_of kids ++ table_of next) (row-small r kids next standing p i c q fits places parents)
  forest-small (node r kids next) standing p i c q fits places parents (suc k) l =
      let (_, below, beside) = rows_fit_lem standing (label_of text names r) (labels text names kids) (labels text names next) fits in
      let e : 1 + k ≡ suc k = omega arith in
      subst (λ (j : ℕ). IsSmall (table_of (node r kids next)) j) e
      (right-small (words_of r (suc (count kids))) (table_of kids ++ table_of next) 1 k refl
      (by r kids next k
      (λ (m : k < count kids). forest-small kids _ i (suc i) (omega arith) (omega arith) below (grind (arith, nat_tests)) (grind (arith, nat_tests)) k m)
      (λ (m : count kids ≤ k). forest-small next standing p (i + suc (count kids)) (omega arith) q beside (grind (arith, nat_tests)) (grind (arith, nat_tests)) (k - count kids) (omega arith))
      (cases_lt k (count kids))))

pub words-small : (text names table : List ℕ) → T (is_sound text names table) → (i : ℕ) → i < length table / row_words → IsSmall table i
words-small text names table t i l =
    let s = sound_tree text names table t in
    let f : Forest Row = node s.root s.kids ∅ in
    let n = sound-count text names table s in
    subst (λ (w : List ℕ). IsSmall w i) (table_view table f s.view)
    (forest-small text names s.short f bare 0 0 (omega (arith, s.rows)) (omega arith) s.fits s.places s.parents i (omega arith))
