-- A tree that was read is sound, so a caller need not check again what it has just read.
--   read_sound   the tree of an accepted text, with 1,024 rows or fewer lent
--   lent-sound   the rows that the public reader leaves in the lent words
use mathlib.Core.Path.{◌≡◌, refl, ap, subst, ◌∙◌}
use mathlib.Core.List.{List}
use Prim.Native.Nat.{ℕ, zero, suc, ◌+◌, ◌*◌, ◌-◌, ◌^◌, ◌≤◌, ◌<◌}
use native.Mathlib.Omega.{arith}
use lib.ListN.{length, take}
use lib.Dec.{T, leb, ltb, leb→le, ltb→lt}
use Rattle.tokenizer.specs.Answer.{Out, refused, done}
use Rattle.tokenizer.specs.Utf8.{is_utf8}
use Rattle.tokenizer.specs.Token.{Standing, value_of, lparen, comma, type_word, union_mode, map_sorted}
use Rattle.datatype.specs.Kind.{Shape, leaf, timestamp, time, interval, fixed, list, fixed_list, struct, union, dictionary, decimal, mapping, run_end_encoded, kinds, shape_of, ids_fit}
use Rattle.datatype.specs.Tree.{Forest, ∅, node, count, Row, name_list}
use Rattle.datatype.specs.Table.{row_words, table_of, rows_lent}
use Rattle.row_table.specs.Sound.{bare, field, union_field, arity_fits, rules_of, is_sound}
use Rattle.row_table.specs.Internal.Check.{zone_ok}
use Rattle.row_table.proofs.SoundTree.{SoundTree, tree_sound}
use Rattle.parser.specs.Parse.{bare_row, Tree, rows_in, single, pair, items_by, need, length_at, list_field, struct_item, union_item, run_end_fields, entries_at, fixed_list_field, list_at, fixed_size_list_at, struct_at, union_at, dictionary_at, map_at, run_end_encoded_at, shape_at, type_with, type_at, first_type}
use Rattle.datatype_parse.specs.Parse.{text_over, parse, row_count, parse_answer, filled, parse_rows}
use Rattle.parser.proofs.Holds.{Holds, holds_bind, holds_then, holds_if}
use Rattle.datatype_parse.proofs.TokenFacts.{holds_when, need-value, Limited, number-limited, limit_most}
use Rattle.datatype_parse.proofs.SoundRows.{ids_allow, Asked, ids, Fits, Typed, fits_more, fits-type}
use Rattle.datatype_parse.proofs.SoundLeaves.{Whole, closed, leaf-sound, timestamp-sound, time-sound, interval-sound, fixed-sound, decimal-sound}
use Rattle.datatype_parse.proofs.SoundFields.{Run, RunEnds, Entries, items-sound, list-field-sound, fixed-field-sound, struct-item-sound, union-item-sound, run-ends-sound, entries-sound}
use Rattle.datatype_parse.proofs.MoreRows.{filled_rows}
use Rattle.unchecked_rows.specs.Parents.{parented}
use Rattle.unchecked_rows.proofs.ParentTree.{count_parented}
use Rattle.row_table.proofs.Parented.{parented-tree}

module _ (text : List ℕ) (good : T (is_utf8 text)) where
  -- ---- types with children: types one level down are sound, so what is made of them is

  module _ (level : ℕ) (type : ℕ → ℕ → Out Tree) (down : (at rows : ℕ) → Holds (Typed text bare level rows) (type at rows)) where
    module _ (rows k : ℕ) (low : k < kinds) where
      abbrev Over : Tree → Type 0
      Over t = Whole text level rows t

      -- a type over children that are sound
      over : (param : ℕ) (kids : Forest Row) (sh : Shape) → shape_of k ≡ sh → Asked text sh k param 0 0 0 kids → T (ids_allow (rules_of sh).below (ids kids))
          → Fits text (rules_of sh).below level rows kids → Fits text bare (suc level) (suc rows) (node (bare_row k param 0 0 0) kids ∅)
      over param kids sh e a i f = fits-type text level rows k param 0 0 0 kids low sh e a (f.run i) f.few

      list-sound : (at : ℕ) → shape_of k ≡ list → Holds Over (list_at text type k at rows)
      unfolding list_at rules_of zone_ok arity_fits
      list-sound at e =
          holds_bind Over (need text lparen at) _ λ p.
          holds_then (Typed text field level rows) Over (list_field text type p.next rows) _ (list-field-sound text good level type down p.next rows) λ t w.
          closed text level rows (bare_row k 0 0 0 0) (single t) t.next
          (over 0 (single t) list e (record { params = omega arith; scales = omega arith; shape = tt; zone = tt; arity = tt; over = tt }) tt w)

      fixed-list-sound : (at : ℕ) → shape_of k ≡ fixed_list → Holds Over (fixed_size_list_at text type k at rows)
      unfolding fixed_size_list_at rules_of zone_ok arity_fits
      fixed-list-sound at e =
          holds_bind Over (need text lparen at) _ λ p.
          holds_then (Limited 0 (2 ^ 31 - 1)) Over (length_at text p.next) _ (number-limited text 0 (2 ^ 31 - 1) p.next) λ n h.
          let m = limit_most n.kind (2 ^ 31 - 1) h in
          holds_then (Typed text field level rows) Over (fixed_list_field text type n.next rows) _ (fixed-field-sound text good level type down n.next rows) λ t w.
          closed text level rows (bare_row k (value_of n.kind) 0 0 0) (single t) t.next
          (over (value_of n.kind) (single t) fixed_list e (record { params = omega arith; scales = omega arith; shape = tt; zone = tt; arity = tt; over = tt }) tt w)

      struct-sound : (at : ℕ) → shape_of k ≡ struct → Holds Over (struct_at text type k at rows)
      unfolding struct_at rules_of zone_ok arity_fits
      struct-sound at e =
          holds_bind Over (need text lparen at) _ λ p.
          holds_then (Run text level field rows) Over (items_by (struct_item text type) (suc rows) p.next rows) _
          (items-sound text level field (struct_item text type) (struct-item-sound text good level type down) (suc rows) p.next rows) λ fs w.
          over 0 fs.trees struct e (record { params = omega arith; scales = omega arith; shape = tt; zone = tt; arity = tt; over = tt }) tt w

      union-sound : (at : ℕ) → shape_of k ≡ union → Holds Over (union_at text type k at rows)
      unfolding union_at rules_of zone_ok arity_fits
      union-sound at e =
          holds_bind Over (need text lparen at) _ λ p.
          holds_then (λ (m : Standing). T (ltb (value_of m.kind) 2)) Over (need text union_mode p.next) _ (need-value text union_mode p.next) λ m h.
          holds_then (Run text level union_field rows) Over (items_by (union_item text type) (suc rows) m.next rows) _
          (items-sound text level union_field (union_item text type) (union-item-sound text good level type down) (suc rows) m.next rows) λ fs w.
          holds_when Over (ids_fit (ids fs.trees)) _ _
          (λ i. over (value_of m.kind) fs.trees union e (record { params = ltb→lt (value_of m.kind) 2 h; scales = omega arith; shape = tt; zone = tt; arity = tt; over = i }) i w) tt

      dictionary-sound : (at : ℕ) → shape_of k ≡ dictionary → Holds Over (dictionary_at text type k at rows)
      unfolding dictionary_at rules_of zone_ok arity_fits
      dictionary-sound at e =
          holds_bind Over (need text lparen at) _ λ p.
          holds_then (Typed text bare level rows) Over (type p.next rows) _ (down p.next rows) λ t a.
          holds_bind Over (need text comma t.next) _ λ c.
          holds_then (Typed text bare level (rows - rows_in t)) Over (type c.next (rows - rows_in t)) _ (down c.next (rows - rows_in t)) λ v b.
          closed text level rows (bare_row k 0 0 0 0) (pair t v) v.next
          (over 0 (pair t v) dictionary e (record { params = omega arith; scales = omega arith; shape = tt; zone = tt; arity = tt; over = tt }) tt
          (fits_more text bare level rows t.row t.kids (single v) a b))

      map-sound : (at : ℕ) → shape_of k ≡ mapping → Holds Over (map_at text type k at rows)
      unfolding map_at rules_of zone_ok arity_fits
      map-sound at e =
          holds_bind Over (need text lparen at) _ λ p.
          holds_then (Entries text level rows) Over (entries_at text type p.next rows) _ (entries-sound text good level type down p.next rows) λ t w.
          holds_bind Over (need text comma t.next) _ λ c.
          holds_then (λ (s : Standing). T (ltb (value_of s.kind) 2)) Over (need text map_sorted c.next) _ (need-value text map_sorted c.next) λ s h.
          closed text level rows (bare_row k (value_of s.kind) 0 0 0) (single t) s.next
          (over (value_of s.kind) (single t) mapping e (record { params = ltb→lt (value_of s.kind) 2 h; scales = omega arith; shape = tt; zone = tt; arity = tt; over = w.1 }) tt w.0)

      run-end-sound : (at : ℕ) → shape_of k ≡ run_end_encoded → Holds Over (run_end_encoded_at text type k at rows)
      unfolding run_end_encoded_at rules_of zone_ok
      run-end-sound at e =
          holds_bind Over (need text lparen at) _ λ p.
          holds_then (RunEnds text level rows) Over (run_end_fields text type p.next rows) _ (run-ends-sound text good level type down p.next rows) λ fs w.
          closed text level rows (bare_row k 0 0 0 0) fs.trees fs.next
          (over 0 fs.trees run_end_encoded e (record { params = omega arith; scales = omega arith; shape = tt; zone = tt; arity = w.two; over = w.first }) tt w.fits)

      shape-sound : (sh : Shape) (at : ℕ) → shape_of k ≡ sh → Holds Over (shape_at text type sh k at rows)
      unfolding shape_at
      shape-sound leaf at e = leaf-sound text level rows k low at e
      shape-sound timestamp at e = timestamp-sound text level rows k low good at e
      shape-sound time at e = time-sound text level rows k low at e
      shape-sound interval at e = interval-sound text level rows k low at e
      shape-sound fixed at e = fixed-sound text level rows k low at e
      shape-sound list at e = list-sound at e
      shape-sound fixed_list at e = fixed-list-sound at e
      shape-sound struct at e = struct-sound at e
      shape-sound union at e = union-sound at e
      shape-sound dictionary at e = dictionary-sound at e
      shape-sound decimal at e = decimal-sound text level rows k low at e
      shape-sound mapping at e = map-sound at e
      shape-sound run_end_encoded at e = run-end-sound at e

    with-sound : (at rows : ℕ) → Holds (Typed text bare (suc level) rows) (type_with text type at rows)
    unfolding type_with
    with-sound at zero = tt
    with-sound at (suc rows) =
        holds_then (λ (t : Standing). T (ltb (value_of t.kind) 41)) (Typed text bare (suc level) (suc rows)) (need text type_word at) _ (need-value text type_word at) λ t h.
        shape-sound rows (value_of t.kind) (ltb→lt (value_of t.kind) 41 h) (shape_of (value_of t.kind)) t.next refl

  -- a type that was read is sound, within its levels and rows
  pub type-sound : (level at rows : ℕ) → Holds (Typed text bare level rows) (type_at text level at rows)
  unfolding type_at
  type-sound zero at rows = tt
  type-sound (suc level) at rows = with-sound level (λ a r. type_at text level a r) (type-sound level) at rows

-- ---- a whole text

-- What an accepted text and its tree hold.
pub record Read (text : List ℕ) (rows : ℕ) (f : Forest Row) : Type 0 where
  pub root : Row
  pub kids : Forest Row
  pub is : f ≡ parented (node root kids ∅)
  pub short : length text ≤ 16384
  pub utf8 : T (is_utf8 text)
  pub fits : Fits text bare 64 rows (node root kids ∅)

-- the same of the type that the text begins with
abbrev pub Begun : List ℕ → ℕ → Tree → Type 0
Begun text rows t = Read text rows (parented (single t))

begun : (text : List ℕ) (rows : ℕ) → length text ≤ 16384 → T (is_utf8 text) → (o : Out Tree) → Holds (Typed text bare 64 rows) o → Holds (Begun text rows) o
begun text rows short good (refused x) w = tt
begun text rows short good (done t) w = record { root = t.row; kids = t.kids; is = refl; short = short; utf8 = good; fits = w }

pub first_read : (text : List ℕ) (rows : ℕ) → Holds (Begun text rows) (first_type text rows)
unfolding first_type
first_read text rows =
    holds_when (Begun text rows) (leb (length text) 16384) _ _
    (λ l. holds_when (Begun text rows) (is_utf8 text) (type_at text 64 0 rows) _
    (λ u. begun text rows (leb→le (length text) 16384 l) u (type_at text 64 0 rows) (type-sound text u 64 0 rows)) tt) tt

pub parse_read : (text : List ℕ) (rows : ℕ) → Holds (Read text rows) (parse text rows)
unfolding parse
parse_read text rows =
    holds_then (Begun text rows) (Read text rows) (first_type text rows) _ (first_read text rows) λ t w.
    holds_if (Read text rows) (text_over text t.next) _ _ w tt

read_tree : (text : List ℕ) (rows : ℕ) (f : Forest Row) → rows ≤ 1024 → Read text rows f → SoundTree text name_list (table_of f)
read_tree text rows f few r =
    let c = r.fits.few in
    let run = r.fits.run tt in
    let d = run.flat in
    rw r.is (parented-tree text r.root r.kids r.short r.utf8 (omega arith) (omega arith) run.places run.fits)

-- A tree that was read is sound.
pub read_sound : (text : List ℕ) (rows : ℕ) (f : Forest Row) → parse text rows ≡ done f → rows ≤ 1024 → T (is_sound text name_list (table_of f))
read_sound text rows f e few = tree_sound text name_list (table_of f) (read_tree text rows f few (subst (Holds (Read text rows)) e (parse_read text rows)))

-- ---- the public reader

-- What the lent words hold of a text that was read: some rows, all of them lent, that are a sound tree.
pub record LentSound (text before : List ℕ) (n : ℕ) (after : List ℕ) : Type 0 where
  pub some-rows : 1 ≤ n
  pub lent : row_words * n ≤ length before
  pub sound : T (is_sound text name_list (take (row_words * n) after))

module _ (text before : List ℕ) (n : ℕ) where
  filled-sound : (o : Out (Forest Row)) → Holds (Read text (rows_lent (length before))) o → row_count o ≡ done n → LentSound text before n (filled before o)
  unfolding rows_lent
  filled-sound (refused x) r e = absurd (let z : ◌≡◌ {A = ℕ} 0 1 = cc in omega arith)
  filled-sound (done f) r e =
      let c : count f ≡ n = cc in
      let k : count f ≡ suc (count r.kids) + 0 = ap count r.is ∙ count_parented 0 0 (node r.root r.kids ∅) in
      let w = r.fits.few in
      record {
        some-rows = omega arith;
        lent = omega arith;
        sound = rw (filled_rows n before f c) (tree_sound text name_list (table_of f) (read_tree text (rows_lent (length before)) f (omega arith) r));
      }

  -- The rows that the public reader leaves are a sound tree over the text and the name list.
  pub lent-sound : parse_answer text before ≡ done n → LentSound text before n (parse_rows text before)
  unfolding parse_answer parse_rows
  lent-sound e = filled-sound (parse text (rows_lent (length before))) (parse_read text (rows_lent (length before))) e
