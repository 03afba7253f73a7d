-- A type takes five bytes for each of its rows, but for one byte.
use Rattle.std.specs.Prelude.{if◌then◌else◌}
use mathlib.Core.Path.{◌≡◌, refl, sym, subst, ap}
use mathlib.Core.Bool.{Bool, true, false}
use mathlib.Core.List.{List, ◌∷◌, map}
use mathlib.Core.Option.{Option, none, some}
use Prim.Native.Nat.{ℕ, zero, suc, ◌+◌, ◌*◌, ◌-◌, ◌≤◌, ◌<◌}
use native.Mathlib.Omega.{arith}
use lib.ListN.{length, drop, get_or}
use lib.Dec.{T, leb, eqb, leb→le, eqb→eq}
use Rattle.tokenizer.specs.Answer.{Out, done, ◌>>=◌}
use Rattle.tokenizer.specs.Words.{words}
use Rattle.tokenizer.specs.Places.{after_spaces}
use Rattle.tokenizer.specs.Token.{Standing, token_at, sort_of, value_of, word_of, word_kind, string_token, until_quote, lparen, rparen, comma, colon, integer, double_quoted, single_quoted, type_word, time_unit, interval_unit, union_mode, map_sorted, nullability, field_word, some_word, none_word, x_word}
use Rattle.tokenizer.specs.declared.TokenKind.{TokenKind}
use Rattle.tokenizer.specs.declared.TokenKind.TheVariants.{DoubleQuotedString, SingleQuotedString}
use Rattle.tokenizer.proofs.Runs.{spaces-end}
use Rattle.tokenizer.proofs.Marks as Marks
use Rattle.datatype.specs.Kind.{Shape, leaf, timestamp, time, interval, fixed, list, fixed_list, struct, union, dictionary, decimal, mapping, run_end_encoded, shape_of, unit_fits, decimal_fits, entries_refusal, ids_fit}
use Rattle.datatype.specs.Tree.{Forest, ∅, count, roots, Row}
use Rattle.parser.specs.Parse.{refuse_last, last_token, Name, item, run_ends, values, Tree, Fields, Zone, Item, end, last, more, rows_in, id_of, need, stands, role_at, after_role, number_in, signed_byte_at, length_at, precision_at, unit_at, close_at, some_zone, zone_string, zone_at, timestamp_at, time_at, interval_at, fixed_size_binary_at, scale_at, decimal_at, list_name_at, fields_from, items_by, field_at, default_field, list_field, struct_item, union_field, union_item, named_run_ends, default_run_ends, run_end_fields, entries_at, fixed_list_field, list_at, fixed_size_list_at, struct_at, union_at, dictionary_at, map_at, run_end_encoded_at, shape_at, type_with, type_at}
use Rattle.parser.proofs.Holds.{Holds, holds_last, holds_then, holds_if}
use Rattle.datatype_parse.specs.RowsToLend.{row_bytes, leaf_bytes, word_bytes}
use Rattle.datatype_parse.proofs.TokenFacts.{holds_when, holds_as, Taken, need_taken}

-- ---- the words of types

-- the fewest bytes of a shape's word
abbrev least : Shape → ℕ
least leaf = leaf_bytes
least timestamp = word_bytes
least time = word_bytes
least interval = word_bytes
least fixed = word_bytes
least list = word_bytes
least fixed_list = word_bytes
least struct = word_bytes
least union = word_bytes
least dictionary = word_bytes
least decimal = word_bytes
least mapping = word_bytes
least run_end_encoded = word_bytes

abbrev long : List ℕ → Out TokenKind → Bool
long w k = if eqb (sort_of k) type_word then leb (least (shape_of (value_of k))) (length w) else true

-- by one test over the list of words
word_long : (c : ℕ) (w : List ℕ) → T (long (c ∷ w) (word_kind (c ∷ w)))
unfolding words shape_of
word_long = Marks.word_holds long (λ w negative v h. tt) (λ w. tt) tt

type_long : (w : List ℕ) (k : Out TokenKind) → T (long w k) → sort_of k ≡ type_word → least (shape_of (value_of k)) ≤ length w
type_long w k t e =
    leb→le (least (shape_of (value_of k))) (length w)
    (subst (λ (s : ℕ). T (if eqb s type_word then leb (least (shape_of (value_of k))) (length w) else true)) e t)

module _ (text : List ℕ) where
  -- ---- tokens

  -- A token ends behind a place; a type's word, so many bytes behind it.
  abbrev Past : ℕ → Standing → Type 0
  Past at t = at < t.next

  abbrev PastWord : ℕ → Standing → Type 0
  PastWord at t = at + least (shape_of (value_of t.kind)) ≤ t.next

  abbrev IfWord : ℕ → Standing → Type 0
  IfWord at t = sort_of t.kind ≡ type_word → PastWord at t

  string-no-word : (k : TokenKind) (at p : ℕ) (o : Option ℕ) → (sort_of (done k) ≡ type_word → ⊥) → IfWord at (string_token k p o)
  string-no-word k at p none n = λ e. absurd (omega arith)
  string-no-word k at p (some zero) n = λ e. absurd (omega arith)
  string-no-word k at p (some (suc m)) n = λ e. absurd (n e)

  word-past : (at : ℕ) → IfWord at (token_at text at)
  word-past at =
      let p = after_spaces text at in
      let b = (spaces-end text at).behind in
      Marks.by_cases text at (IfWord at)
      (record {
        over = λ h e. absurd (omega arith);
        mark = λ m t h c. Marks.marks (λ (x : ℕ). sort_of (Marks.mark_kind x) ≡ type_word → at + least (shape_of (value_of (Marks.mark_kind x))) ≤ p + 1)
            (λ e. absurd (omega arith)) (λ e. absurd (omega arith)) (λ e. absurd (omega arith)) (λ e. absurd (omega arith)) m t;
        double = λ h c. string-no-word DoubleQuotedString at p (until_quote 34 false (drop (p + 1) text)) (λ e. omega arith);
        single = λ h c. string-no-word SingleQuotedString at p (until_quote 39 false (drop (p + 1) text)) (λ e. omega arith);
        word = λ h n e.
            let w = word_of (drop p text) in
            let l = type_long w (word_kind w)
            (subst (λ (v : List ℕ). T (long v (word_kind v))) (sym (Marks.word_first text p h n)) (word_long (get_or text p 0) (word_of (drop (suc p) text)))) e in
            omega arith;
      })

  need-word : (at : ℕ) → Holds (PastWord at) (need text type_word at)
  unfolding need
  need-word at =
      let t = token_at text at in
      holds_when (PastWord at) (eqb (sort_of t.kind) type_word) (done t) _
      (λ e. word-past at (eqb→eq (sort_of t.kind) type_word e)) tt

  -- a step that takes a token
  taken : {A : Type 0} (P : A → Type 0) (sort at : ℕ) (f : Standing → Out A) → T (leb 1 sort) → ((t : Standing) → Past at t → Holds P (f t)) → Holds P (need text sort at >>= f)
  taken P sort at f l k = holds_then (Taken text at) P (need text sort at) f (need_taken text sort at l) λ t h. k t h.0

  number_past : (low most at : ℕ) → Holds (Past at) (number_in text low most at)
  unfolding number_in
  number_past low most at = taken (Past at) integer at _ tt λ t h. holds_if (Past at) (leb (value_of t.kind) _) _ _ h tt

  role-past : (at : ℕ) → at ≤ after_role text at
  unfolding after_role
  role-past at = go (stands text nullability at)
    where
      go : (b : Bool) → at ≤ (if b then (token_at text at).next else at)
      go true = (Marks.bounds text at).onward
      go false = omega arith

  abbrev ZonePast : ℕ → Zone → Type 0
  ZonePast at z = at < z.next

  some-past : (at : ℕ) → Holds (ZonePast at) (some_zone text at)
  unfolding some_zone
  some-past at =
      taken (ZonePast at) lparen at _ tt λ p a.
      taken (ZonePast at) double_quoted p.next _ tt λ s b.
      taken (ZonePast at) rparen s.next _ tt λ c d. omega arith

  string-past : (at : ℕ) → Holds (ZonePast at) (zone_string text at)
  unfolding zone_string
  string-past at =
      holds_if (ZonePast at) (stands text none_word at) _ _
      (taken (ZonePast at) none_word at _ tt λ n p. p)
      (holds_if (ZonePast at) (stands text some_word at) _ _
      (taken (ZonePast at) some_word at _ tt λ w p.
      holds_as (ZonePast w.next) (ZonePast at) (some_zone text w.next) (some-past w.next) λ z q. omega arith)
      (taken (ZonePast at) double_quoted at _ tt λ s p. p))

  zone-past : (at : ℕ) → Holds (ZonePast at) (zone_at text at)
  unfolding zone_at
  zone-past at =
      holds_if (ZonePast at) (stands text rparen at) _ _
      (taken (ZonePast at) rparen at _ tt λ c p. p)
      (taken (ZonePast at) comma at _ tt λ c p.
      holds_then (ZonePast c.next) (ZonePast at) (zone_string text c.next) _ (string-past c.next) λ z q.
      taken (ZonePast at) rparen z.next _ tt λ e s. omega arith)

  unit-past : (k at : ℕ) → Holds (Past at) (unit_at text k at)
  unfolding unit_at
  unit-past k at = taken (Past at) time_unit at _ tt λ u h. holds_if (Past at) (unit_fits k (value_of u.kind)) _ _ h tt

  name-past : (at : ℕ) → Holds (Past at) (list_name_at text at)
  unfolding list_name_at
  name-past at =
      taken (Past at) field_word at _ tt λ f a.
      taken (Past at) colon f.next _ tt λ c b.
      holds_as (Taken text c.next) (Past at) (need text single_quoted c.next) (need_taken text single_quoted c.next tt) λ n h. (let d = h.0 in omega arith)

  -- ---- five bytes a row, from a place on

  -- but for one byte
  abbrev pub TypeBytes : ℕ → Tree → Type 0
  TypeBytes at t = at + row_bytes * rows_in t ≤ t.next + 1

  -- and one byte more
  abbrev FieldBytes : ℕ → Tree → Type 0
  FieldBytes at t = at + row_bytes * rows_in t < t.next

  -- and the mark that closes the fields
  abbrev FieldsBytes : ℕ → Fields → Type 0
  FieldsBytes at fs = at + row_bytes * count fs.trees < fs.next

  -- two types or two fields, which no mark closes
  abbrev PairBytes : ℕ → Fields → Type 0
  PairBytes at fs = at + row_bytes * count fs.trees ≤ fs.next + 1

  -- what follows a type's word, of so many bytes
  abbrev ShapeBytes : ℕ → ℕ → Tree → Type 0
  ShapeBytes at n t = at + row_bytes * rows_in t ≤ t.next + 1 + n

  abbrev ItemBytes : ℕ → Item → Type 0
  ItemBytes at (end next) = at < next
  ItemBytes at (last t next) = at + row_bytes * rows_in t < next
  ItemBytes at (more t next) = at + row_bytes * rows_in t ≤ next

  abbrev Word : ℕ → Tree → Type 0
  Word at t = ShapeBytes at word_bytes t

  closed : (at : ℕ) (r : Row) (kids : Forest Row) (from : ℕ) → at + row_bytes * suc (count kids) ≤ from + 2 + word_bytes → Holds (Word at) (close_at text r kids from)
  unfolding close_at
  closed at r kids from h = taken (Word at) rparen from _ tt λ c p. omega arith

  -- ---- types without children

  timestamp-bytes : (k at : ℕ) → Holds (Word at) (timestamp_at text k at)
  unfolding timestamp_at
  timestamp-bytes k at =
      taken (Word at) lparen at _ tt λ p a.
      taken (Word at) time_unit p.next _ tt λ u b.
      holds_then (ZonePast u.next) (Word at) (zone_at text u.next) _ (zone-past u.next) λ z c. omega arith

  time-bytes : (k at : ℕ) → Holds (Word at) (time_at text k at)
  unfolding time_at
  time-bytes k at =
      taken (Word at) lparen at _ tt λ p a.
      holds_then (Past p.next) (Word at) (unit_at text k p.next) _ (unit-past k p.next) λ u b. closed at _ ∅ u.next (omega arith)

  interval-bytes : (k at : ℕ) → Holds (Word at) (interval_at text k at)
  unfolding interval_at
  interval-bytes k at =
      taken (Word at) lparen at _ tt λ p a.
      taken (Word at) interval_unit p.next _ tt λ u b. closed at _ ∅ u.next (omega arith)

  fixed-bytes : (k at : ℕ) → Holds (Word at) (fixed_size_binary_at text k at)
  unfolding fixed_size_binary_at
  fixed-bytes k at =
      taken (Word at) lparen at _ tt λ p a.
      holds_then (Past p.next) (Word at) (length_at text p.next) _ (number_past _ _ p.next) λ u b. closed at _ ∅ u.next (omega arith)

  decimal-bytes : (k at : ℕ) → Holds (Word at) (decimal_at text k at)
  unfolding decimal_at scale_at
  decimal-bytes k at =
      taken (Word at) lparen at _ tt λ p a.
      holds_then (Past p.next) (Word at) (precision_at text p.next) _ (number_past _ _ p.next) λ n b.
      taken (Word at) comma n.next _ tt λ c d.
      holds_then (Past c.next) (Word at) (signed_byte_at text c.next) _ (number_past _ _ c.next) λ s e.
      holds_then (Word at) (Word at) (close_at text _ ∅ s.next) _ (closed at _ ∅ s.next (omega arith)) λ t h.
      holds_if (Word at) (decimal_fits k _ _) _ _ h tt

  -- ---- types one level down take so many bytes, so what is made of them does

  module _ (type : ℕ → ℕ → Out Tree) (down : (at rows : ℕ) → Holds (TypeBytes at) (type at rows)) where
    field-bytes : (id at rows : ℕ) → Holds (FieldBytes at) (field_at text type id at rows)
    unfolding field_at
    field-bytes id at rows =
        taken (FieldBytes at) double_quoted at _ tt λ s a.
        taken (FieldBytes at) colon s.next _ tt λ c b.
        holds_then (TypeBytes (after_role text c.next)) (FieldBytes at) (type (after_role text c.next) rows) _ (down (after_role text c.next) rows) λ t h.
        (let r = role-past c.next in omega arith)

    default-bytes : (n : Name) (at rows : ℕ) → Holds (TypeBytes at) (default_field text type n at rows)
    unfolding default_field
    default-bytes n at rows =
        holds_then (TypeBytes (after_role text at)) (TypeBytes at) (type (after_role text at) rows) _ (down (after_role text at) rows) λ t h. (let r = role-past at in omega arith)

    list-field-bytes : (at rows : ℕ) → Holds (TypeBytes at) (list_field text type at rows)
    unfolding list_field
    list-field-bytes at rows =
        holds_then (TypeBytes at) (TypeBytes at) (default_field text type item at rows) _ (default-bytes item at rows) λ t h.
        holds_if (TypeBytes at) (stands text comma t.next) _ _
        (taken (TypeBytes at) comma t.next _ tt λ c a.
        holds_then (Past c.next) (TypeBytes at) (list_name_at text c.next) _ (name-past c.next) λ s b. omega arith)
        h

    fixed-field-bytes : (at rows : ℕ) → Holds (TypeBytes at) (fixed_list_field text type at rows)
    unfolding fixed_list_field
    fixed-field-bytes at rows =
        holds_if (TypeBytes at) (stands text x_word at) _ _
        (taken (TypeBytes at) x_word at _ tt λ x a.
        holds_as (TypeBytes x.next) (TypeBytes at) (list_field text type x.next rows) (list-field-bytes x.next rows) λ t h. omega arith)
        (taken (TypeBytes at) comma at _ tt λ c a.
        holds_then (TypeBytes c.next) (TypeBytes at) (type c.next rows) _ (down c.next rows) λ t h. omega arith)

    struct-item-bytes : (at rows : ℕ) → Holds (ItemBytes at) (struct_item text type at rows)
    unfolding struct_item
    struct-item-bytes at rows =
        holds_if (ItemBytes at) (stands text rparen at) _ _
        (taken (ItemBytes at) rparen at _ tt λ c a. a)
        (holds_then (FieldBytes at) (ItemBytes at) (field_at text type 0 at rows) _ (field-bytes 0 at rows) λ t h.
        holds_if (ItemBytes at) (stands text comma t.next) _ _
        (taken (ItemBytes at) comma t.next _ tt λ c a. omega arith)
        (taken (ItemBytes at) rparen t.next _ tt λ c a. omega arith))

    union-field-bytes : (at rows : ℕ) → Holds (FieldBytes at) (union_field text type at rows)
    unfolding union_field close_at
    union-field-bytes at rows =
        holds_then (Past at) (FieldBytes at) (signed_byte_at text at) _ (number_past _ _ at) λ i a.
        taken (FieldBytes at) colon i.next _ tt λ c b.
        taken (FieldBytes at) lparen c.next _ tt λ p d.
        holds_then (FieldBytes p.next) (FieldBytes at) (field_at text type (id_of i.kind) p.next rows) _ (field-bytes (id_of i.kind) p.next rows) λ t h.
        taken (FieldBytes at) rparen t.next _ tt λ e f. omega arith

    union-item-bytes : (at rows : ℕ) → Holds (ItemBytes at) (union_item text type at rows)
    unfolding union_item
    union-item-bytes at rows =
        holds_if (ItemBytes at) (stands text rparen at) _ _
        (taken (ItemBytes at) rparen at _ tt λ c a. a)
        (taken (ItemBytes at) comma at _ tt λ c a.
        holds_then (FieldBytes c.next) (ItemBytes at) (union_field text type c.next rows) _ (union-field-bytes c.next rows) λ t h. omega arith)

    items-bytes : (turn : ℕ → ℕ → Out Item) → ((at rows : ℕ) → Holds (ItemBytes at) (turn at rows)) → (most at rows : ℕ) → Holds (FieldsBytes at) (items_by turn most at rows)
    unfolding items_by
    items-bytes turn h zero at rows = tt
    items-bytes turn h (suc most) at rows = holds_then (ItemBytes at) (FieldsBytes at) (turn at rows) _ (h at rows) (go (λ a r. items-bytes turn h most a r))
      where
        go : ((a r : ℕ) → Holds (FieldsBytes a) (items_by turn most a r)) → (i : Item) → ItemBytes at i → Holds (FieldsBytes at) (fields_from (items_by turn most) rows i)
        go ih (end next) w = omega arith
        go ih (last t next) w = omega arith
        go ih (more t next) w =
            holds_then (FieldsBytes next) (FieldsBytes at) (items_by turn most next (rows - rows_in t)) _ (ih next (rows - rows_in t)) λ fs k. omega arith

    named-bytes : (at rows : ℕ) → Holds (PairBytes at) (named_run_ends text type at rows)
    unfolding named_run_ends
    named-bytes at rows =
        holds_then (FieldBytes at) (PairBytes at) (field_at text type 0 at rows) _ (field-bytes 0 at rows) λ r a.
        holds_then (λ (s : Tree). s ≡ r) (PairBytes at) (if eqb r.row.role 2 then done r else refuse_last 13 (last_token text at r.row.kind r.next)) _ (holds_if (λ (s : Tree). s ≡ r) (eqb r.row.role 2) _ _ refl (holds_last _ _ _)) λ s e.
        taken (PairBytes at) comma s.next _ tt λ c b.
        holds_then (FieldBytes c.next) (PairBytes at) (field_at text type 0 c.next (rows - rows_in r)) _ (field-bytes 0 c.next (rows - rows_in r)) λ v d.
        (let q : s.next ≡ r.next = ap (λ (x : Tree). x.next) e in omega arith)

    short-bytes : (at rows : ℕ) → Holds (PairBytes at) (default_run_ends text type at rows)
    unfolding default_run_ends
    short-bytes at rows =
        holds_if (PairBytes at) (eqb (role_at text at) 2) _ _
        (holds_then (TypeBytes at) (PairBytes at) (default_field text type run_ends at rows) _ (default-bytes run_ends at rows) λ r a.
        taken (PairBytes at) comma r.next _ tt λ c b.
        holds_then (TypeBytes c.next) (PairBytes at) (default_field text type values c.next (rows - rows_in r)) _ (default-bytes values c.next (rows - rows_in r)) λ v d. omega arith)
        tt

    run-end-bytes : (at rows : ℕ) → Holds (PairBytes at) (run_end_fields text type at rows)
    unfolding run_end_fields
    run-end-bytes at rows = holds_if (PairBytes at) (stands text double_quoted at) _ _ (named-bytes at rows) (short-bytes at rows)

    entries-bytes : (at rows : ℕ) → Holds (FieldBytes at) (entries_at text type at rows)
    unfolding entries_at
    entries-bytes at rows =
        holds_then (FieldBytes at) (FieldBytes at) (field_at text type 0 at rows) _ (field-bytes 0 at rows) λ t h.
        holds_if (FieldBytes at) (eqb (entries_refusal t.row.role t.row.kind (map (λ (r : Row). r.role) (roots t.kids))) 0) (done t) _ h (holds_last _ _ _)

    shape-bytes : (sh : Shape) (k at rows : ℕ) → Holds (ShapeBytes at (least sh)) (shape_at text type sh k at rows)
    unfolding shape_at list_at fixed_size_list_at struct_at union_at dictionary_at map_at run_end_encoded_at
    shape-bytes leaf k at rows = omega arith
    shape-bytes timestamp k at rows = timestamp-bytes k at
    shape-bytes time k at rows = time-bytes k at
    shape-bytes interval k at rows = interval-bytes k at
    shape-bytes fixed k at rows = fixed-bytes k at
    shape-bytes list k at rows =
        taken (Word at) lparen at _ tt λ p a.
        holds_then (TypeBytes p.next) (Word at) (list_field text type p.next rows) _ (list-field-bytes p.next rows) λ t h. closed at _ _ t.next (omega arith)
    shape-bytes fixed_list k at rows =
        taken (Word at) lparen at _ tt λ p a.
        holds_then (Past p.next) (Word at) (length_at text p.next) _ (number_past _ _ p.next) λ n b.
        holds_then (TypeBytes n.next) (Word at) (fixed_list_field text type n.next rows) _ (fixed-field-bytes n.next rows) λ t h. closed at _ _ t.next (omega arith)
    shape-bytes struct k at rows =
        taken (Word at) lparen at _ tt λ p a.
        holds_then (FieldsBytes p.next) (Word at) (items_by (struct_item text type) (suc rows) p.next rows) _ (items-bytes (struct_item text type) struct-item-bytes (suc rows) p.next rows) λ fs h. omega arith
    shape-bytes union k at rows =
        taken (Word at) lparen at _ tt λ p a.
        taken (Word at) union_mode p.next _ tt λ m b.
        holds_then (FieldsBytes m.next) (Word at) (items_by (union_item text type) (suc rows) m.next rows) _ (items-bytes (union_item text type) union-item-bytes (suc rows) m.next rows) λ fs h.
        holds_if (Word at) (ids_fit _) _ _ (omega arith) tt
    shape-bytes dictionary k at rows =
        taken (Word at) lparen at _ tt λ p a.
        holds_then (TypeBytes p.next) (Word at) (type p.next rows) _ (down p.next rows) λ t h.
        taken (Word at) comma t.next _ tt λ c b.
        holds_then (TypeBytes c.next) (Word at) (type c.next (rows - rows_in t)) _ (down c.next (rows - rows_in t)) λ v d. closed at _ _ v.next (omega arith)
    shape-bytes decimal k at rows = decimal-bytes k at
    shape-bytes mapping k at rows =
        taken (Word at) lparen at _ tt λ p a.
        holds_then (FieldBytes p.next) (Word at) (entries_at text type p.next rows) _ (entries-bytes p.next rows) λ t h.
        taken (Word at) comma t.next _ tt λ c b.
        taken (Word at) map_sorted c.next _ tt λ s d. closed at _ _ s.next (omega arith)
    shape-bytes run_end_encoded k at rows =
        taken (Word at) lparen at _ tt λ p a.
        holds_then (PairBytes p.next) (Word at) (run_end_fields text type p.next rows) _ (run-end-bytes p.next rows) λ fs h. closed at _ _ fs.next (omega arith)

    with-bytes : (at rows : ℕ) → Holds (TypeBytes at) (type_with text type at rows)
    unfolding type_with
    with-bytes at zero = tt
    with-bytes at (suc rows) =
        holds_then (PastWord at) (TypeBytes at) (need text type_word at) _ (need-word at) λ t a.
        holds_as (ShapeBytes t.next (least (shape_of (value_of t.kind)))) (TypeBytes at) (shape_at text type (shape_of (value_of t.kind)) (value_of t.kind) t.next rows)
        (shape-bytes (shape_of (value_of t.kind)) (value_of t.kind) t.next rows) λ u h. omega arith

  pub type-bytes : (level at rows : ℕ) → Holds (TypeBytes at) (type_at text level at rows)
  unfolding type_at
  type-bytes zero at rows = tt
  type-bytes (suc level) at rows = with-bytes (λ a r. type_at text level a r) (type-bytes level) at rows
