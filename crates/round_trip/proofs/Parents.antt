-- Types with children, read back: a reader that reads the children back reads their parent back.
use mathlib.Core.Path.{◌≡◌, refl, sym, ap, ◌∙◌}
use mathlib.Core.List.{List, [], ◌∷◌, ◌++◌, map, append_assoc}
use Prim.Native.Nat.{ℕ, zero, suc, ◌+◌, ◌-◌, ◌^◌, ◌≤◌, ◌<◌}
use native.Mathlib.Omega.{arith}
use lib.ListN.{length, drop}
use lib.Dec.{eqb→eq}
use Rattle.tokenizer.specs.Text.{bytes}
use Rattle.tokenizer.specs.Answer.{Out}
use Rattle.tokenizer.specs.Words.{words}
use Rattle.tokenizer.specs.Token.{is_separator, is_digit, value_of, union_mode, map_sorted, x_word}
use Rattle.tokenizer.proofs.Basics.{skip, is_true}
use Rattle.datatype.specs.Kind.{list, fixed_list, struct, union, dictionary, mapping, run_end_encoded, entries_refusal, ids_fit}
use Rattle.datatype.specs.Tree.{Forest, ∅, node, count, roots, Label, name_list, labels}
use Rattle.row_table.specs.Sound.{arity_fits, rules_of, shape_fits, roles_of, ids_of}
use Rattle.parser.specs.Parse.{Tree, single, pair, items_by, list_field, struct_item, union_item, run_end_fields, entries_at, fixed_list_field, list_at, fixed_size_list_at, struct_at, union_at, dictionary_at, map_at, run_end_encoded_at}
use Rattle.writer.specs.Digits.{digits}
use Rattle.display_length.specs.Display.{mode_text, sorted_text, field_text, list_field_text, struct_text, union_text, run_end_text, shape_text, type_text, shown}
use Rattle.display_length.specs.declared.words.Spelling.{Spelling}
use Rattle.round_trip.proofs.Tokens.{Stop, mark_stop, comma_stop, is_listed_word, is_word_of, WordOf, word_is}
use Rattle.round_trip.proofs.PlainRows.{ShapeRow, field_row_lem, field_id, bare_label, bare_is, no_zone}
use Rattle.round_trip.proofs.Pieces.{look-here, look-space, need-lparen, need-comma, stands-is, closes, Found, found_word, need-found, NumberRead, number_read}
use Rattle.round_trip.proofs.Types.{TreeRead, FieldsRead, count-read, row-kind, row-role, roles-read, ids-read, ReadsAll, begins, bare-tree}
use Rattle.round_trip.proofs.Fields.{shown_tree, FieldRead, field-read, list-field-read}
use Rattle.round_trip.proofs.Items.{struct_fields, union-fields}
use Rattle.round_trip.proofs.Pairs.{pair_read}

roots_count : (f : Forest Label) → length (roots f) ≤ count f
roots_count ∅ = omega arith
roots_count (node l k n) = let h = roots_count n in omega arith

mode_word : (m : ℕ) → m < 2 → WordOf union_mode m (mode_text m)
unfolding mode_text is_word_of is_listed_word words is_separator is_digit
mode_word zero h = word_is union_mode 0 (bytes "Sparse") tt
mode_word (suc zero) h = word_is union_mode 1 (bytes "Dense") tt
mode_word (suc (suc m)) h = absurd (omega arith)

sorted_word : (b : ℕ) → b < 2 → WordOf map_sorted b (sorted_text b)
unfolding sorted_text is_word_of is_listed_word words is_separator is_digit
sorted_word zero h = word_is map_sorted 0 (bytes "unsorted") tt
sorted_word (suc zero) h = word_is map_sorted 1 (bytes "sorted") tt
sorted_word (suc (suc b)) h = absurd (omega arith)

module _ (text : List ℕ) where
  one_below : (o : Out Tree) (l : Label) (kids : Forest Label) (rest : List ℕ) (t : TreeRead text o l kids rest) → labels text name_list (single t.got) ≡ node l kids ∅
  unfolding labels
  one_below o l kids rest t = λ j. node (t.row j) (t.below j) ∅

  two-below : (o p : Out Tree) (l m : Label) (kids ks : Forest Label) (r s : List ℕ) (t : TreeRead text o l kids r) (u : TreeRead text p m ks s)
      → labels text name_list (pair t.got u.got) ≡ node l kids (node m ks ∅)
  unfolding labels
  two-below o p l m kids ks r s t u = λ j. node (t.row j) (t.below j) (node (u.row j) (u.below j) ∅)

module _ (spelling : Spelling) (text : List ℕ) (type : ℕ → ℕ → Out Tree) (l : Label) (at rows : ℕ) (rest : List ℕ) where
  -- ---- the four plain lists, by the kind

  list-step : (m : Label) (kids : Forest Label) (t : List ℕ) → ShapeRow list l (node m kids ∅) → drop at text ≡ 40 ∷ t
      → TreeRead text (list_field text type (at + 1) rows) m kids (41 ∷ rest) → TreeRead text (list_at text type l.kind at rows) (bare_label l) (node m kids ∅) rest
  unfolding rules_of list_at
  list-step m kids t h e f =
      let p = h.number in
      let s = h.scale in
      bare-tree text l (node m kids ∅) _ 0 0 (single f.got) (f.got.next + 1) rest (no_zone l h.zone) (omega arith) (omega arith)
      (one_below text _ m kids (41 ∷ rest) f)
      (rw (need-lparen text at t e, f.reads, closes text _ (single f.got) f.got.next rest f.after))
      (skip 1 f.got.next text (41 ∷ rest) f.after)

  pub list_read : (kids : Forest Label) → ReadsAll spelling text type kids → ShapeRow list l kids → count kids ≤ rows
      → drop at text ≡ shape_text spelling list l (shown spelling kids) ++ rest → TreeRead text (list_at text type l.kind at rows) (bare_label l) kids rest
  unfolding rules_of arity_fits shape_text shown
  list_read ∅ rd h enough e = absurd h.arity
  list_read (node m kids (node n ks os)) rd h enough e = absurd h.arity
  list_read (node m kids ∅) rd h enough e =
      list-step m kids _ h e
      (list-field-read spelling text type m kids (at + 1) (at + 1) rows rest rd.0 (field_row_lem m kids h.below.0) (field_id m kids h.below.0) (omega arith)
      (look-here text (at + 1) _ (skip 1 at text _ e ∙ append_assoc (list_field_text (shown_tree spelling m kids)) (41 ∷ []) rest)))

  -- ---- FixedSizeList(n x ..)

  fixed-list-step : (m : Label) (kids : Forest Label) (t t₂ : List ℕ) → ShapeRow fixed_list l (node m kids ∅) → drop at text ≡ 40 ∷ t
      → (n : NumberRead text 0 (2 ^ 31 - 1) (at + 1) value_of l.number t₂) (x : Found text x_word 0 n.token.next (32 ∷ (list_field_text (shown_tree spelling m kids) ++ (41 ∷ rest))))
      → TreeRead text (list_field text type x.token.next rows) m kids (41 ∷ rest)
      → TreeRead text (fixed_size_list_at text type l.kind at rows) (bare_label l) (node m kids ∅) rest
  unfolding rules_of fixed_size_list_at fixed_list_field
  fixed-list-step m kids t t₂ h e n x f =
      let s = h.scale in
      bare-tree text l (node m kids ∅) _ (value_of n.token.kind) 0 (single f.got) (f.got.next + 1) rest (no_zone l h.zone) n.value (omega arith)
      (one_below text _ m kids (41 ∷ rest) f)
      (rw (
        need-lparen text at t e,
        n.reads,
        stands-is text x_word n.token.next x.token x.found,
        x.sort,
        need-found text x_word 0 n.token.next _ x,
        f.reads,
        closes text _ (single f.got) f.got.next rest f.after,
      ))
      (skip 1 f.got.next text (41 ∷ rest) f.after)

  pub fixed-list-read : (kids : Forest Label) → ReadsAll spelling text type kids → ShapeRow fixed_list l kids → count kids ≤ rows
      → drop at text ≡ shape_text spelling fixed_list l (shown spelling kids) ++ rest → TreeRead text (fixed_size_list_at text type l.kind at rows) (bare_label l) kids rest
  unfolding rules_of arity_fits shape_text shown is_word_of is_listed_word words is_separator is_digit
  fixed-list-read ∅ rd h enough e = absurd h.arity
  fixed-list-read (node m kids (node n ks os)) rd h enough e = absurd h.arity
  fixed-list-read (node m kids ∅) rd h enough e =
      let p : l.number < 2 ^ 31 = h.number in
      sized (number_read text 0 (2 ^ 31 - 1) value_of l.number (at + 1) (at + 1) l.number (32 ∷ 120 ∷ 32 ∷ t) (omega arith) (omega arith) refl tt
      (look-here text (at + 1) _ (skip 1 at text _ e ∙ append_assoc (digits l.number) _ rest
      ∙ ap (λ (r : List ℕ). digits l.number ++ (32 ∷ 120 ∷ 32 ∷ r)) (append_assoc (list_field_text (shown_tree spelling m kids)) (41 ∷ []) rest))))
    where
      t : List ℕ
      t = list_field_text (shown_tree spelling m kids) ++ (41 ∷ rest)

      crossed : (n : NumberRead text 0 (2 ^ 31 - 1) (at + 1) value_of l.number (32 ∷ 120 ∷ 32 ∷ t)) → Found text x_word 0 n.token.next (32 ∷ t)
          → TreeRead text (fixed_size_list_at text type l.kind at rows) (bare_label l) (node m kids ∅) rest
      crossed n x =
          fixed-list-step m kids _ (32 ∷ 120 ∷ 32 ∷ t) h e n x
          (list-field-read spelling text type m kids x.token.next (x.token.next + 1) rows rest rd.0 (field_row_lem m kids h.below.0) (field_id m kids h.below.0) (omega arith)
          (look-space text x.token.next t x.after))

      sized : NumberRead text 0 (2 ^ 31 - 1) (at + 1) value_of l.number (32 ∷ 120 ∷ 32 ∷ t)
          → TreeRead text (fixed_size_list_at text type l.kind at rows) (bare_label l) (node m kids ∅) rest
      sized n =
          crossed n (found_word text x_word 0 n.token.next (n.token.next + 1) (bytes "x") (32 ∷ t) (word_is x_word 0 (bytes "x") tt) tt
          (look-space text n.token.next (120 ∷ 32 ∷ t) n.after))

  -- ---- Struct

  struct-step : (kids : Forest Label) (t : List ℕ) → ShapeRow struct l kids → drop at text ≡ 40 ∷ t
      → FieldsRead text (items_by (struct_item text type) (suc rows) (at + 1) rows) kids rest → TreeRead text (struct_at text type l.kind at rows) (bare_label l) kids rest
  unfolding rules_of struct_at
  struct-step kids t h e f =
      let p = h.number in
      let s = h.scale in
      bare-tree text l kids _ 0 0 f.got.trees f.got.next rest (no_zone l h.zone) (omega arith) (omega arith) f.trees
      (rw (need-lparen text at t e, f.reads)) f.after

  pub struct-read : (kids : Forest Label) → ReadsAll spelling text type kids → ShapeRow struct l kids → count kids ≤ rows
      → drop at text ≡ shape_text spelling struct l (shown spelling kids) ++ rest → TreeRead text (struct_at text type l.kind at rows) (bare_label l) kids rest
  unfolding rules_of shape_text
  struct-read kids rd h enough e =
      struct-step kids _ h e
      (struct_fields spelling text type kids rd h.below (suc rows) (at + 1) (at + 1) rows rest (omega (arith, roots_count kids)) enough
      (look-here text (at + 1) _ (skip 1 at text _ e ∙ append_assoc (struct_text (shown spelling kids)) (41 ∷ []) rest)))

  -- ---- Union

  union-step : (kids : Forest Label) (t t₂ : List ℕ) → ShapeRow union l kids → drop at text ≡ 40 ∷ t → (m : Found text union_mode l.number (at + 1) t₂)
      → FieldsRead text (items_by (union_item text type) (suc rows) m.token.next rows) kids rest → TreeRead text (union_at text type l.kind at rows) (bare_label l) kids rest
  unfolding rules_of shape_fits union_at
  union-step kids t t₂ h e m f =
      let s = h.scale in
      bare-tree text l kids _ (value_of m.token.kind) 0 f.got.trees f.got.next rest (no_zone l h.zone) m.value (omega arith) f.trees
      (rw (
        need-lparen text at t e,
        need-found text union_mode l.number (at + 1) t₂ m,
        f.reads,
        ids-read text f.got.trees kids f.trees,
        is_true (ids_fit (ids_of (roots kids))) h.shape,
      )) f.after

  union-stop : (kids : Forest Label) → Stop (union_text (shown spelling kids) ++ (41 ∷ rest))
  unfolding union_text shown is_separator
  union-stop ∅ = tt
  union-stop (node m k n) = tt

  pub union-read : (kids : Forest Label) → ReadsAll spelling text type kids → ShapeRow union l kids → count kids ≤ rows
      → drop at text ≡ shape_text spelling union l (shown spelling kids) ++ rest → TreeRead text (union_at text type l.kind at rows) (bare_label l) kids rest
  unfolding rules_of shape_text
  union-read kids rd h enough e =
      moded (found_word text union_mode l.number (at + 1) (at + 1) (mode_text l.number) t (mode_word l.number h.number) (union-stop kids)
      (look-here text (at + 1) _ (skip 1 at text _ e ∙ append_assoc (mode_text l.number) _ rest ∙ ap (λ (r : List ℕ). mode_text l.number ++ r) (append_assoc (union_text (shown spelling kids)) (41 ∷ []) rest))))
    where
      t : List ℕ
      t = union_text (shown spelling kids) ++ (41 ∷ rest)

      moded : Found text union_mode l.number (at + 1) t → TreeRead text (union_at text type l.kind at rows) (bare_label l) kids rest
      moded m =
          union-step kids _ t h e m
          (union-fields spelling text type kids rd h.below (suc rows) m.token.next rows rest (omega (arith, roots_count kids)) enough m.after)

  -- ---- Dictionary(key, value)

  dictionary-step : (m n : Label) (kids ks : Forest Label) (t t₂ : List ℕ) → ShapeRow dictionary l (node m kids (node n ks ∅)) → drop at text ≡ 40 ∷ t
      → (g : TreeRead text (type (at + 1) rows) m kids (44 ∷ t₂)) → TreeRead text (type (g.got.next + 1) (rows - suc (count kids))) n ks (41 ∷ rest)
      → TreeRead text (dictionary_at text type l.kind at rows) (bare_label l) (node m kids (node n ks ∅)) rest
  unfolding rules_of dictionary_at
  dictionary-step m n kids ks t t₂ h e g v =
      let p = h.number in
      let s = h.scale in
      bare-tree text l (node m kids (node n ks ∅)) _ 0 0 (pair g.got v.got) (v.got.next + 1) rest (no_zone l h.zone) (omega arith) (omega arith)
      (two-below text _ _ m n kids ks (44 ∷ t₂) (41 ∷ rest) g v)
      (rw (
        need-lparen text at t e,
        g.reads,
        need-comma text g.got.next t₂ g.after,
        count-read text g.got.kids kids g.below,
        v.reads,
        closes text _ (pair g.got v.got) v.got.next rest v.after,
      ))
      (skip 1 v.got.next text (41 ∷ rest) v.after)

  -- a bare child is what its label says
  as-bare : (m : Label) (kids : Forest Label) (o : Out Tree) (s : List ℕ) → bare_label m ≡ m → TreeRead text o (bare_label m) kids s → TreeRead text o m kids s
  as-bare m kids o s b t = record { got = t.got; reads = t.reads; after = t.after; row = t.row ∙ b; below = t.below }

  pub dictionary-read : (kids : Forest Label) → ReadsAll spelling text type kids → ShapeRow dictionary l kids → count kids ≤ rows
      → drop at text ≡ shape_text spelling dictionary l (shown spelling kids) ++ rest → TreeRead text (dictionary_at text type l.kind at rows) (bare_label l) kids rest
  unfolding rules_of arity_fits shape_text shown
  dictionary-read ∅ rd h enough e = absurd h.arity
  dictionary-read (node m kids ∅) rd h enough e = absurd h.arity
  dictionary-read (node m kids (node n ks (node o k₃ k₄))) rd h enough e = absurd h.arity
  dictionary-read (node m kids (node n ks ∅)) rd h enough e =
      keyed (as-bare m kids _ (44 ∷ 32 ∷ t) (bare_is m kids h.below.0) (rd.0 (at + 1) rows (44 ∷ 32 ∷ t)
      (begins spelling text m kids (at + 1) (at + 1) (44 ∷ 32 ∷ t) h.below.0.fits.kind (comma_stop (32 ∷ t))
      (look-here text (at + 1) _ (skip 1 at text _ e ∙ append_assoc (type_text spelling m (shown spelling kids)) _ rest
      ∙ ap (λ (r : List ℕ). type_text spelling m (shown spelling kids) ++ (44 ∷ 32 ∷ r)) (append_assoc (type_text spelling n (shown spelling ks)) (41 ∷ []) rest)))) (omega arith)))
    where
      t : List ℕ
      t = type_text spelling n (shown spelling ks) ++ (41 ∷ rest)

      keyed : TreeRead text (type (at + 1) rows) m kids (44 ∷ 32 ∷ t)
          → TreeRead text (dictionary_at text type l.kind at rows) (bare_label l) (node m kids (node n ks ∅)) rest
      keyed g =
          let c = g.got.next in
          dictionary-step m n kids ks _ (32 ∷ t) h e g
          (as-bare n ks _ (41 ∷ rest) (bare_is n ks h.below.2.0) (rd.1.0 (c + 1) (rows - suc (count kids)) (41 ∷ rest)
          (begins spelling text n ks (c + 1) (c + 1 + 1) (41 ∷ rest) h.below.2.0.fits.kind (mark_stop rest)
          (look-space text (c + 1) t (skip 1 c text (44 ∷ 32 ∷ t) g.after))) (omega arith)))

  -- ---- Map("entries": non-null Struct(..), sorted)

  entries-read : (m : Label) (kids : Forest Label) (from : ℕ) (s : List ℕ) → entries_refusal m.role m.kind (roles_of (roots kids)) ≡ 0
      → FieldRead text type 0 m kids from rows s → TreeRead text (entries_at text type from rows) m kids s
  unfolding entries_at
  entries-read m kids from s ok f =
      let g = f.tree.got in
      let q : entries_refusal g.row.role g.row.kind (map (λ r. r.role) (roots g.kids)) ≡ 0 =
      (λ j. entries_refusal (row-role text g.row m f.tree.row j) (row-kind text g.row m f.tree.row j) (roles-read text g.kids kids f.tree.below j)) ∙ ok in
      record { got = g; reads = rw (f.tree.reads, q); after = f.tree.after; row = f.tree.row; below = f.tree.below }

  map-step : (m : Label) (kids : Forest Label) (t t₂ : List ℕ) → ShapeRow mapping l (node m kids ∅) → drop at text ≡ 40 ∷ t
      → (f : TreeRead text (entries_at text type (at + 1) rows) m kids (44 ∷ t₂)) → Found text map_sorted l.number (f.got.next + 1) (41 ∷ rest)
      → TreeRead text (map_at text type l.kind at rows) (bare_label l) (node m kids ∅) rest
  unfolding rules_of map_at
  map-step m kids t t₂ h e f w =
      let s = h.scale in
      bare-tree text l (node m kids ∅) _ (value_of w.token.kind) 0 (single f.got) (w.token.next + 1) rest (no_zone l h.zone) w.value (omega arith)
      (one_below text _ m kids (44 ∷ t₂) f)
      (rw (
        need-lparen text at t e,
        f.reads,
        need-comma text f.got.next t₂ f.after,
        need-found text map_sorted l.number (f.got.next + 1) (41 ∷ rest) w,
        closes text _ (single f.got) w.token.next rest w.after,
      ))
      (skip 1 w.token.next text (41 ∷ rest) w.after)

  pub map_read : (kids : Forest Label) → ReadsAll spelling text type kids → ShapeRow mapping l kids → count kids ≤ rows
      → drop at text ≡ shape_text spelling mapping l (shown spelling kids) ++ rest → TreeRead text (map_at text type l.kind at rows) (bare_label l) kids rest
  unfolding rules_of arity_fits shape_fits shape_text shown
  map_read ∅ rd h enough e = absurd h.arity
  map_read (node m kids (node n ks os)) rd h enough e = absurd h.arity
  map_read (node m kids ∅) rd h enough e =
      entered (entries-read m kids (at + 1) (44 ∷ 32 ∷ t) (eqb→eq (entries_refusal m.role m.kind (roles_of (roots kids))) 0 h.shape)
      (field-read spelling text type 0 m kids (at + 1) (at + 1) rows (44 ∷ 32 ∷ t) rd.0 (field_row_lem m kids h.below.0) (sym (field_id m kids h.below.0)) (comma_stop (32 ∷ t)) (omega arith)
      (look-here text (at + 1) _ (skip 1 at text _ e ∙ append_assoc (field_text (shown_tree spelling m kids)) _ rest
      ∙ ap (λ (r : List ℕ). field_text (shown_tree spelling m kids) ++ (44 ∷ 32 ∷ r)) (append_assoc (sorted_text l.number) (41 ∷ []) rest)))))
    where
      t : List ℕ
      t = sorted_text l.number ++ (41 ∷ rest)

      entered : TreeRead text (entries_at text type (at + 1) rows) m kids (44 ∷ 32 ∷ t) → TreeRead text (map_at text type l.kind at rows) (bare_label l) (node m kids ∅) rest
      entered f =
          let c = f.got.next in
          map-step m kids _ (32 ∷ t) h e f
          (found_word text map_sorted l.number (c + 1) (c + 1 + 1) (sorted_text l.number) (41 ∷ rest) (sorted_word l.number h.number) (mark_stop rest)
          (look-space text (c + 1) t (skip 1 c text (44 ∷ 32 ∷ t) f.after)))

  -- ---- RunEndEncoded

  run-ends-step : (m n : Label) (kids ks : Forest Label) (t : List ℕ) → ShapeRow run_end_encoded l (node m kids (node n ks ∅)) → drop at text ≡ 40 ∷ t
      → FieldsRead text (run_end_fields text type (at + 1) rows) (node m kids (node n ks ∅)) (41 ∷ rest)
      → TreeRead text (run_end_encoded_at text type l.kind at rows) (bare_label l) (node m kids (node n ks ∅)) rest
  unfolding rules_of run_end_encoded_at
  run-ends-step m n kids ks t h e f =
      let p = h.number in
      let s = h.scale in
      bare-tree text l (node m kids (node n ks ∅)) _ 0 0 f.got.trees (f.got.next + 1) rest (no_zone l h.zone) (omega arith) (omega arith) f.trees
      (rw (need-lparen text at t e, f.reads, closes text _ f.got.trees f.got.next rest f.after))
      (skip 1 f.got.next text (41 ∷ rest) f.after)

  pub run-ends-read : (kids : Forest Label) → ReadsAll spelling text type kids → ShapeRow run_end_encoded l kids → count kids ≤ rows
      → drop at text ≡ shape_text spelling run_end_encoded l (shown spelling kids) ++ rest → TreeRead text (run_end_encoded_at text type l.kind at rows) (bare_label l) kids rest
  unfolding rules_of arity_fits shape_fits shape_text shown
  run-ends-read ∅ rd h enough e = absurd h.arity
  run-ends-read (node m kids ∅) rd h enough e = absurd h.arity
  run-ends-read (node m kids (node n ks (node o k₃ k₄))) rd h enough e = absurd h.arity
  run-ends-read (node m kids (node n ks ∅)) rd h enough e =
      run-ends-step m n kids ks _ h e
      (pair_read spelling text type m n kids ks (at + 1) rows rest rd.0 rd.1.0
      (record {
        first = field_row_lem m kids h.below.0;
        second = field_row_lem n ks h.below.2.0;
        first_id = field_id m kids h.below.0;
        second_id = field_id n ks h.below.2.0;
        non_null = eqb→eq m.role 2 h.shape;
      })
      (omega arith)
      (skip 1 at text _ e ∙ append_assoc (run_end_text (shown_tree spelling m kids) (shown_tree spelling n ks)) (41 ∷ []) rest))
