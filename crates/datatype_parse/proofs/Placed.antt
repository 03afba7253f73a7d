-- What is read ends inside the text, and a refusal's place lies inside it or at its end (document 02, [2]).
use Rattle.std.specs.Prelude.{if◌then◌else◌, Option, Some, None}
use mathlib.Core.Path.{◌≡◌, refl, sym, ap, subst}
use mathlib.Core.Bool.{Bool, true, false}
use mathlib.Core.List.{List, map}
use Prim.Native.Nat.{ℕ, zero, suc, ◌-◌, ◌≤◌}
use native.Mathlib.Omega.{arith}
use native.Mathlib.Decide.{dec_lt}
use lib.ListN.{length}
use lib.Dec.{leb, eqb}
use borrow.Author.Tests.{le-leb}
use Rattle.tokenizer.specs.Answer.{Refusal, Out, refused, done, refuse_at, ◌>>=◌}
use Rattle.tokenizer.specs.Utf8.{is_utf8}
use Rattle.tokenizer.specs.Token.{Standing, token_at, sort_of, value_of, is_negative, lparen, rparen, comma, colon, integer, double_quoted, single_quoted, type_word, time_unit, interval_unit, union_mode, map_sorted, nullability, field_word, some_word, none_word, x_word}
use Rattle.tokenizer.proofs.Marks.{bounds, place_here}
use Rattle.tokenizer.proofs.Runs.{spaces-end}
use Rattle.datatype.specs.Kind.{Shape, leaf, timestamp, time, interval, fixed, list, fixed_list, struct, union, dictionary, decimal, mapping, run_end_encoded, shape_of, is_word, unit_fits, decimal_fits, entries_refusal, ids_fit}
use Rattle.datatype.specs.Table.{rows_lent}
use Rattle.datatype.specs.Tree.{Forest, Row, ∅, roots}
use Rattle.parser.specs.Answer.{refusal_in}
use Rattle.parser.specs.declared.error.ReadError.{ReadError}
use Rattle.parser.specs.Parse.{Name, item, run_ends, values, Tree, Fields, Zone, Item, end, last, more, rows_in, id_of, place_at, need, stands, role_at, after_role, role_place, word_place, last_token, refuse_last, number_in, length_at, precision_at, signed_byte_at, unit_at, close_at, some_zone, zone_string, zone_at, timestamp_at, time_at, interval_at, fixed_size_binary_at, scale_at, decimal_at, list_name_at, fields_from, items_by, field_at, default_field, list_field, struct_item, union_field, union_item, named_run_ends, default_run_ends, run_end_fields, entries_at, fixed_list_field, list_at, fixed_size_list_at, struct_at, union_at, dictionary_at, map_at, run_end_encoded_at, shape_at, type_with, type_at, first_type}
use Rattle.parser.proofs.Holds.{Holds}
use Rattle.parser.proofs.FirstType.{too_long}
use Rattle.datatype_parse.specs.Parse.{text_over, parse, row_count, parse_answer}

module _ (text : List ℕ) where
  -- A place inside the text or at its end.
  abbrev In : ℕ → Type 0
  In p = p ≤ length text

  abbrev Has : Option ℕ → Type 0
  Has None = ⊥
  Has (Some p) = In p

  -- A value of which a fact holds, or a refusal that has a place.
  abbrev Placed : {A : Type 0} → (A → Type 0) → Out A → Type 0
  Placed P (refused r) = Has r.place
  Placed P (done a) = P a

  -- A token, a type, a zone, fields and a turn that end there.
  abbrev TokenEnds : Standing → Type 0
  TokenEnds t = In t.next

  abbrev pub TypeEnds : Tree → Type 0
  TypeEnds t = In t.next

  abbrev ZoneEnds : Zone → Type 0
  ZoneEnds z = In z.next

  abbrev FieldsEnd : Fields → Type 0
  FieldsEnd fs = In fs.next

  abbrev ItemEnds : Item → Type 0
  ItemEnds (end next) = In next
  ItemEnds (last t next) = In next
  ItemEnds (more t next) = In next

  after : {A B : Type 0} (Q : A → Type 0) (P : B → Type 0) (o : Out A) (f : A → Out B) → Placed Q o → ((a : A) → Q a → Placed P (f a)) → Placed P (o >>= f)
  after Q P (refused r) f q k = q
  after Q P (done a) f q k = k a q

  either : {A : Type 0} (P : A → Type 0) (b : Bool) (x y : Out A) → Placed P x → Placed P y → Placed P (if b then x else y)
  either P true x y p q = p
  either P false x y p q = q

  -- ---- tokens

  one-of : (b : Bool) (p q : ℕ) → In p → In q → In (if b then p else q)
  one-of true p q h k = h
  one-of false p q h k = k

  here-in : (at : ℕ) → In at → In (place_at text at)
  unfolding place_at
  here-in at h = let s = (spaces-end text at).inside in omega (arith, place_here text at)

  next-in : (at : ℕ) → In at → In (token_at text at).next
  next-in at h = let w = (bounds text at).within in omega arith

  role-in : (at : ℕ) → In at → In (role_place text at)
  unfolding role_place
  role-in at h = one-of (stands text nullability at) _ _ (here-in at h) (omega arith)

  after-in : (at : ℕ) → In at → In (after_role text at)
  unfolding after_role
  after-in at h = one-of (stands text nullability at) _ _ (next-in at h) h

  need-in : (sort at : ℕ) → In at → Placed TokenEnds (need text sort at)
  unfolding need
  need-in sort at h = either TokenEnds (eqb (sort_of (token_at text at).kind) sort) _ _ (next-in at h) (here-in at h)

  by_token : {A : Type 0} (P : A → Type 0) (sort at : ℕ) (f : Standing → Out A) → In at → ((t : Standing) → TokenEnds t → Placed P (f t)) → Placed P (need text sort at >>= f)
  by_token P sort at f h k = after TokenEnds P (need text sort at) f (need-in sort at h) k

  word-in : (at : ℕ) → In at → Placed In (word_place text at)
  unfolding word_place
  word-in at h = by_token In double_quoted at _ h λ s h. by_token In colon s.next _ h λ c h. here-in (after_role text c.next) (after-in c.next h)

  last-in : {A : Type 0} (P : A → Type 0) (n at k next : ℕ) → In at → In next → Placed P (refuse_last n (last_token text at k next))
  unfolding last_token
  last-in P n at k next h w = after In P (if is_word k then word_place text at else done (next - 1)) _ (either In (is_word k) _ _ (word-in at h) (omega arith)) λ place p. p

  number-in : (least most at : ℕ) → In at → Placed TokenEnds (number_in text least most at)
  unfolding number_in
  number-in least most at h = by_token TokenEnds integer at _ h λ t w. either TokenEnds (leb (value_of t.kind) (if is_negative t.kind then least else most)) _ _ w (here-in at h)

  unit-in : (k at : ℕ) → In at → Placed TokenEnds (unit_at text k at)
  unfolding unit_at
  unit-in k at h = by_token TokenEnds time_unit at _ h λ u w. either TokenEnds (unit_fits k (value_of u.kind)) _ _ w (here-in at h)

  close-in : (r : Row) (kids : Forest Row) (at : ℕ) → In at → Placed TypeEnds (close_at text r kids at)
  unfolding close_at
  close-in r kids at h = by_token TypeEnds rparen at _ h λ c h. h

  some-in : (at : ℕ) → In at → Placed ZoneEnds (some_zone text at)
  unfolding some_zone
  some-in at h = by_token ZoneEnds lparen at _ h λ p h. by_token ZoneEnds double_quoted p.next _ h λ s h. by_token ZoneEnds rparen s.next _ h λ c h. h

  string-in : (at : ℕ) → In at → Placed ZoneEnds (zone_string text at)
  unfolding zone_string
  string-in at h =
      either ZoneEnds (stands text none_word at) _ _ (by_token ZoneEnds none_word at _ h λ n h. h)
      (either ZoneEnds (stands text some_word at) _ _ (by_token ZoneEnds some_word at _ h λ w h. some-in w.next h) (by_token ZoneEnds double_quoted at _ h λ s h. h))

  zone-in : (at : ℕ) → In at → Placed ZoneEnds (zone_at text at)
  unfolding zone_at
  zone-in at h =
      either ZoneEnds (stands text rparen at) _ _ (by_token ZoneEnds rparen at _ h λ c h. h)
      (by_token ZoneEnds comma at _ h λ c h. after ZoneEnds ZoneEnds (zone_string text c.next) _ (string-in c.next h) λ z h. by_token ZoneEnds rparen z.next _ h λ e h. h)

  name-in : (at : ℕ) → In at → Placed TokenEnds (list_name_at text at)
  unfolding list_name_at
  name-in at h = by_token TokenEnds field_word at _ h λ f h. by_token TokenEnds colon f.next _ h λ c h. need-in single_quoted c.next h

  -- ---- types, where those one level down end inside the text and their refusals have places there

  module _ (type : ℕ → ℕ → Out Tree) (inner : (at rows : ℕ) → In at → Placed TypeEnds (type at rows)) where
    field-in : (id at rows : ℕ) → In at → Placed TypeEnds (field_at text type id at rows)
    unfolding field_at
    field-in id at rows h =
        by_token TypeEnds double_quoted at _ h λ s h. by_token TypeEnds colon s.next _ h λ c h.
        after TypeEnds TypeEnds (type (after_role text c.next) rows) _ (inner (after_role text c.next) rows (after-in c.next h)) λ t h. h

    default-in : (n : Name) (at rows : ℕ) → In at → Placed TypeEnds (default_field text type n at rows)
    unfolding default_field
    default-in n at rows h = after TypeEnds TypeEnds (type (after_role text at) rows) _ (inner (after_role text at) rows (after-in at h)) λ t h. h

    list-field-in : (at rows : ℕ) → In at → Placed TypeEnds (list_field text type at rows)
    unfolding list_field
    list-field-in at rows h =
        after TypeEnds TypeEnds (default_field text type item at rows) _ (default-in item at rows h) λ t h.
        either TypeEnds (stands text comma t.next) _ _
        (by_token TypeEnds comma t.next _ h λ c h. after TokenEnds TypeEnds (list_name_at text c.next) _ (name-in c.next h) λ s h. h) h

    struct-item-in : (at rows : ℕ) → In at → Placed ItemEnds (struct_item text type at rows)
    unfolding struct_item
    struct-item-in at rows h =
        either ItemEnds (stands text rparen at) _ _ (by_token ItemEnds rparen at _ h λ c h. h)
        (after TypeEnds ItemEnds (field_at text type 0 at rows) _ (field-in 0 at rows h) λ t h.
        either ItemEnds (stands text comma t.next) _ _ (by_token ItemEnds comma t.next _ h λ c h. h) (by_token ItemEnds rparen t.next _ h λ c h. h))

    union-field-in : (at rows : ℕ) → In at → Placed TypeEnds (union_field text type at rows)
    unfolding union_field
    union-field-in at rows h =
        after TokenEnds TypeEnds (signed_byte_at text at) _ (number-in 128 127 at h) λ i h. by_token TypeEnds colon i.next _ h λ c h. by_token TypeEnds lparen c.next _ h λ p h.
        after TypeEnds TypeEnds (field_at text type (id_of i.kind) p.next rows) _ (field-in (id_of i.kind) p.next rows h) λ t h. close-in t.row t.kids t.next h

    union-item-in : (at rows : ℕ) → In at → Placed ItemEnds (union_item text type at rows)
    unfolding union_item
    union-item-in at rows h =
        either ItemEnds (stands text rparen at) _ _ (by_token ItemEnds rparen at _ h λ c h. h)
        (by_token ItemEnds comma at _ h λ c h. after TypeEnds ItemEnds (union_field text type c.next rows) _ (union-field-in c.next rows h) λ t h. h)

    items-in : (turn : ℕ → ℕ → Out Item) → ((at rows : ℕ) → In at → Placed ItemEnds (turn at rows)) → (most at rows : ℕ) → In at → Placed FieldsEnd (items_by turn most at rows)
    unfolding items_by
    items-in turn p zero at rows h = h
    items-in turn p (suc most) at rows h = after ItemEnds FieldsEnd (turn at rows) _ (p at rows h) (go (λ a r l. items-in turn p most a r l))
      where
        go : ((a r : ℕ) → In a → Placed FieldsEnd (items_by turn most a r)) → (i : Item) → ItemEnds i → Placed FieldsEnd (fields_from (items_by turn most) rows i)
        go ih (end next) w = w
        go ih (last t next) w = w
        go ih (more t next) w = after FieldsEnd FieldsEnd (items_by turn most next (rows - rows_in t)) _ (ih next (rows - rows_in t) w) λ fs h. h

    named-in : (at rows : ℕ) → In at → Placed FieldsEnd (named_run_ends text type at rows)
    unfolding named_run_ends
    named-in at rows i =
        after TypeEnds FieldsEnd (field_at text type 0 at rows) _ (field-in 0 at rows i) λ r h.
        after TypeEnds FieldsEnd (if eqb r.row.role 2 then done r else refuse_last 13 (last_token text at r.row.kind r.next)) _
        (either TypeEnds (eqb r.row.role 2) (done r) _ h (last-in TypeEnds 13 at r.row.kind r.next i h)) λ s h. by_token FieldsEnd comma s.next _ h λ c h.
        after TypeEnds FieldsEnd (field_at text type 0 c.next (rows - rows_in r)) _ (field-in 0 c.next (rows - rows_in r) h) λ v h. h

    short-in : (at rows : ℕ) → In at → Placed FieldsEnd (default_run_ends text type at rows)
    unfolding default_run_ends
    short-in at rows i =
        either FieldsEnd (eqb (role_at text at) 2) _ _
        (after TypeEnds FieldsEnd (default_field text type run_ends at rows) _ (default-in run_ends at rows i) λ r h. by_token FieldsEnd comma r.next _ h λ c h.
        after TypeEnds FieldsEnd (default_field text type values c.next (rows - rows_in r)) _ (default-in values c.next (rows - rows_in r) h) λ v h. h)
        (role-in at i)

    run-ends-in : (at rows : ℕ) → In at → Placed FieldsEnd (run_end_fields text type at rows)
    unfolding run_end_fields
    run-ends-in at rows h = either FieldsEnd (stands text double_quoted at) _ _ (named-in at rows h) (short-in at rows h)

    entries-in : (at rows : ℕ) → In at → Placed TypeEnds (entries_at text type at rows)
    unfolding entries_at
    entries-in at rows i =
        after TypeEnds TypeEnds (field_at text type 0 at rows) _ (field-in 0 at rows i) λ t h.
        either TypeEnds (eqb (entries_refusal t.row.role t.row.kind (map (λ (r : Row). r.role) (roots t.kids))) 0) (done t) _ h (last-in TypeEnds _ at t.row.kind t.next i h)

    fixed-field-in : (at rows : ℕ) → In at → Placed TypeEnds (fixed_list_field text type at rows)
    unfolding fixed_list_field
    fixed-field-in at rows h =
        either TypeEnds (stands text x_word at) _ _ (by_token TypeEnds x_word at _ h λ x h. list-field-in x.next rows h)
        (by_token TypeEnds comma at _ h λ c h. after TypeEnds TypeEnds (type c.next rows) _ (inner c.next rows h) λ t h. h)

    shape-in : (sh : Shape) (k at rows : ℕ) → In at → Placed TypeEnds (shape_at text type sh k at rows)
    unfolding shape_at timestamp_at time_at interval_at fixed_size_binary_at scale_at decimal_at list_at fixed_size_list_at struct_at union_at dictionary_at map_at run_end_encoded_at
    shape-in leaf k at rows h = h
    shape-in timestamp k at rows h =
        by_token TypeEnds lparen at _ h λ p h. by_token TypeEnds time_unit p.next _ h λ u h. after ZoneEnds TypeEnds (zone_at text u.next) _ (zone-in u.next h) λ z h. h
    shape-in time k at rows h =
        by_token TypeEnds lparen at _ h λ p h. after TokenEnds TypeEnds (unit_at text k p.next) _ (unit-in k p.next h) λ u h. close-in _ ∅ u.next h
    shape-in interval k at rows h = by_token TypeEnds lparen at _ h λ p h. by_token TypeEnds interval_unit p.next _ h λ u h. close-in _ ∅ u.next h
    shape-in fixed k at rows h =
        by_token TypeEnds lparen at _ h λ p h. after TokenEnds TypeEnds (length_at text p.next) _ (number-in 0 _ p.next h) λ n h. close-in _ ∅ n.next h
    shape-in list k at rows h =
        by_token TypeEnds lparen at _ h λ p h. after TypeEnds TypeEnds (list_field text type p.next rows) _ (list-field-in p.next rows h) λ t h. close-in _ _ t.next h
    shape-in fixed_list k at rows h =
        by_token TypeEnds lparen at _ h λ p h. after TokenEnds TypeEnds (length_at text p.next) _ (number-in 0 _ p.next h) λ n h.
        after TypeEnds TypeEnds (fixed_list_field text type n.next rows) _ (fixed-field-in n.next rows h) λ t h. close-in _ _ t.next h
    shape-in struct k at rows h =
        by_token TypeEnds lparen at _ h λ p h.
        after FieldsEnd TypeEnds (items_by (struct_item text type) (suc rows) p.next rows) _ (items-in (struct_item text type) struct-item-in (suc rows) p.next rows h) λ fs h. h
    shape-in union k at rows h =
        by_token TypeEnds lparen at _ h λ p h. by_token TypeEnds union_mode p.next _ h λ m h.
        after FieldsEnd TypeEnds (items_by (union_item text type) (suc rows) m.next rows) _ (items-in (union_item text type) union-item-in (suc rows) m.next rows h) λ fs h.
        either TypeEnds (ids_fit _) _ _ h (omega arith)
    shape-in dictionary k at rows h =
        by_token TypeEnds lparen at _ h λ p h. after TypeEnds TypeEnds (type p.next rows) _ (inner p.next rows h) λ t h. by_token TypeEnds comma t.next _ h λ c h.
        after TypeEnds TypeEnds (type c.next (rows - rows_in t)) _ (inner c.next (rows - rows_in t) h) λ v h. close-in _ _ v.next h
    shape-in decimal k at rows h =
        by_token TypeEnds lparen at _ h λ p h. after TokenEnds TypeEnds (precision_at text p.next) _ (number-in 0 255 p.next h) λ n h. by_token TypeEnds comma n.next _ h λ c h.
        after TokenEnds TypeEnds (signed_byte_at text c.next) _ (number-in 128 127 c.next h) λ s h.
        after TypeEnds TypeEnds (close_at text _ ∅ s.next) _ (close-in _ ∅ s.next h) λ t h. either TypeEnds (decimal_fits k _ _) _ _ h (omega arith)
    shape-in mapping k at rows h =
        by_token TypeEnds lparen at _ h λ p h. after TypeEnds TypeEnds (entries_at text type p.next rows) _ (entries-in p.next rows h) λ t h.
        by_token TypeEnds comma t.next _ h λ c h. by_token TypeEnds map_sorted c.next _ h λ s h. close-in _ _ s.next h
    shape-in run_end_encoded k at rows h =
        by_token TypeEnds lparen at _ h λ p h. after FieldsEnd TypeEnds (run_end_fields text type p.next rows) _ (run-ends-in p.next rows h) λ fs h. close-in _ _ fs.next h

    with-in : (at rows : ℕ) → In at → Placed TypeEnds (type_with text type at rows)
    unfolding type_with
    with-in at zero h = here-in at h
    with-in at (suc rows) h = by_token TypeEnds type_word at _ h λ t h. shape-in (shape_of (value_of t.kind)) (value_of t.kind) t.next rows h

  type-in : (level at rows : ℕ) → In at → Placed TypeEnds (type_at text level at rows)
  unfolding type_at
  type-in zero at rows h = here-in at h
  type-in (suc level) at rows h = with-in (λ a r. type_at text level a r) (type-in level) at rows h

  pub type-ends : (level rows : ℕ) → Holds TypeEnds (type_at text level 0 rows)
  type-ends level rows = go (type_at text level 0 rows) (type-in level 0 rows (omega arith))
    where
      go : (o : Out Tree) → Placed TypeEnds o → Holds TypeEnds o
      go (refused r) h = tt
      go (done t) h = h

  -- ---- a whole text

  module _ (rows : ℕ) where
    parse-in : length text ≤ 16384 → Placed (λ (f : Forest Row). Unit {0}) (parse text rows)
    unfolding parse first_type
    parse-in s =
        after TypeEnds (λ (f : Forest Row). Unit {0}) (first_type text rows) _
        (rw (le-leb (length text) 16384 s) (either TypeEnds (is_utf8 text) _ _ (type-in 64 0 rows (omega arith)) (omega arith))) λ t h.
        either (λ (f : Forest Row). Unit {0}) (text_over text t.next) _ _ tt (here-in t.next h)

    -- A refusal has a place inside the text or at its end, and at 16,384 at the most.
    pub refusal-place : (r : Refusal) → parse text rows ≡ refused r → (p : ℕ) × (r.place ≡ Some p) × (p ≤ length text) × (p ≤ 16384)
    unfolding parse refusal_in
    refusal-place r e =
        elim (dec_lt 16384 (length text)) [
          | yes l ↦
              let f : ◌≡◌ {A = Out (Forest Row)} (refuse_at 1 16384) (refused r) = rw (too_long text rows l) at e in
              let z : record { number = 1; place = Some 16384 } ≡ r = cc in
              (16384, sym (ap (λ (x : Refusal). x.place) z), omega arith, omega arith)
          | no l ↦ let s : length text ≤ 16384 = omega arith in go s r.place refl (subst (λ (o : Out (Forest Row)). Placed (λ f. Unit {0}) o) e (parse-in s))
        ]
      where
        go : length text ≤ 16384 → (o : Option ℕ) → r.place ≡ o → Has o → (p : ℕ) × (r.place ≡ Some p) × (p ≤ length text) × (p ≤ 16384)
        go s None e h = absurd h
        go s (Some p) e h = (p, e, h, omega arith)

  -- The same of what the public reader answers.
  pub answer-place : (before : List ℕ) (e : ReadError) → refused (refusal_in e) ≡ parse_answer text before → (e.place ≤ length text) × (e.place ≤ 16384)
  unfolding parse_answer refusal_in
  answer-place before e q = go (parse text (rows_lent (length before))) refl q
    where
      go : (o : Out (Forest Row)) → parse text (rows_lent (length before)) ≡ o → refused (refusal_in e) ≡ row_count o → (e.place ≤ length text) × (e.place ≤ 16384)
      go (refused r) f q =
          let g = refusal-place (rows_lent (length before)) r f in
          let z : refusal_in e ≡ r = cc in
          let i : e.place ≡ g.0 = cc in
          (omega arith, omega arith)
      go (done t) f q = absurd (let z : ◌≡◌ {A = ℕ} 0 1 = cc in omega arith)
