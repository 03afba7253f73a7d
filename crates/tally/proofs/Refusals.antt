-- The reader refuses with a number from 1 to 16, whatever it reads.
use Rattle.std.specs.Prelude.{if◌then◌else◌}
use mathlib.Core.Path.{◌≡◌, refl, sym, subst}
use mathlib.Core.Bool.{Bool, true, false, ◌&&◌}
use mathlib.Core.List.{List, [], ◌∷◌, map}
use mathlib.Core.Option.{Option, none, some}
use Prim.Native.Nat.{ℕ, zero, suc, ◌+◌, ◌-◌, ◌≤◌}
use lib.ListN.{length, get_or, drop}
use lib.Dec.{T, leb, eqb, leb→le}
use Rattle.tokenizer.specs.Answer.{Refusal, Out, refused, done, ◌>>=◌}
use Rattle.tokenizer.specs.Places.{after_spaces}
use Rattle.tokenizer.specs.Utf8.{is_utf8}
use Rattle.tokenizer.specs.Words.{words}
use Rattle.tokenizer.specs.Token.{Standing, token_at, sort_of, value_of, is_negative, word_of, word_kind, until_quote, string_token, lparen, rparen, comma, colon, integer, double_quoted, single_quoted, type_word, time_unit, interval_unit, union_mode, map_sorted, field_word, some_word, none_word, x_word}
use Rattle.tokenizer.specs.declared.TokenKind.{TokenKind}
use Rattle.tokenizer.specs.declared.TokenKind.TheVariants.{LParen, RParen, Comma, Colon, Integer, DoubleQuotedString, SingleQuotedString, DataType, TimeUnit, IntervalUnit, UnionMode, MapSorted, Nullability, Field, Some, None, X}
use Rattle.tokenizer.proofs.Basics.{and_l, and_r}
use Rattle.tokenizer.proofs.Marks.{by_cases, marks, mark_kind, word_holds, word_first}
use Rattle.datatype.specs.Kind.{Shape, leaf, timestamp, time, interval, fixed, list, fixed_list, struct, union, dictionary, decimal, mapping, run_end_encoded, shape_of, is_word, unit_fits, decimal_fits, key_refusal, entries_refusal, ids_fit}
use Rattle.datatype.specs.Tree.{Forest, Row, ∅, roots}
use Rattle.parser.specs.Parse.{Name, item, run_ends, values, Tree, Item, end, last, more, rows_in, id_of, need, refusal_of, stands, role_at, after_role, word_place, last_token, refuse_last, number_in, length_at, precision_at, signed_byte_at, unit_at, close_at, some_zone, zone_string, zone_at, timestamp_at, time_at, interval_at, fixed_size_binary_at, scale_at, decimal_at, list_name_at, fields_from, items_by, field_at, default_field, list_field, struct_item, union_field, union_item, named_run_ends, default_run_ends, run_end_fields, entries_at, fixed_list_field, list_at, fixed_size_list_at, struct_at, union_at, dictionary_at, map_at, run_end_encoded_at, shape_at, type_with, type_at, first_type}
use Rattle.datatype_parse.specs.Parse.{text_over, parse}

-- one of the numbers
abbrev is_low : ℕ → Bool
is_low n = leb 1 n && leb n 16

-- what is answered, if it is a refusal, has one of the numbers
abbrev Low : {A : Type 0} → Out A → Type 0
Low (refused r) = T (is_low r.number)
Low (done a) = Unit {0}

after : {A B : Type 0} (o : Out A) (f : A → Out B) → Low o → ((a : A) → Low (f a)) → Low (o >>= f)
after (refused r) f q k = q
after (done a) f q k = k a

either : {A : Type 0} (b : Bool) (x y : Out A) → Low x → Low y → Low (if b then x else y)
either true x y p q = p
either false x y p q = q

-- ---- tokens

-- what is no token has the number 5, 6, 7 or 8
abbrev low_token : Out TokenKind → Bool
low_token (refused r) = is_low r.number
low_token (done k) = true

word_low : (c : ℕ) (w : List ℕ) → T (low_token (word_kind (c ∷ w)))
unfolding words
word_low = word_holds (λ w k. low_token k) (λ w negative v h. tt) (λ w. tt) tt

string_low : (k : TokenKind) (p : ℕ) (o : Option ℕ) → T (low_token (string_token k p o).kind)
string_low k p none = tt
string_low k p (some zero) = tt
string_low k p (some (suc n)) = tt

token_low : (text : List ℕ) (at : ℕ) → T (low_token (token_at text at).kind)
token_low text at =
    let p = after_spaces text at in
    by_cases text at (λ t. T (low_token t.kind))
    (record {
      over = λ h. tt;
      mark = λ m t h e. marks (λ (x : ℕ). T (low_token (mark_kind x))) tt tt tt tt m t;
      double = λ h e. string_low DoubleQuotedString p (until_quote 34 false (drop (p + 1) text));
      single = λ h e. string_low SingleQuotedString p (until_quote 39 false (drop (p + 1) text));
      word = λ h e. subst (λ (w : List ℕ). T (low_token (word_kind w))) (sym (word_first text p h e)) (word_low (get_or text p 0) (word_of (drop (suc p) text)));
    })

refusal_low : (k : Out TokenKind) → T (low_token k) → T (is_low (refusal_of k))
refusal_low (refused r) t = t
refusal_low (done LParen) t = tt
refusal_low (done RParen) t = tt
refusal_low (done Comma) t = tt
refusal_low (done Colon) t = tt
refusal_low (done (Integer negative magnitude)) t = tt
refusal_low (done DoubleQuotedString) t = tt
refusal_low (done SingleQuotedString) t = tt
refusal_low (done (DataType k)) t = tt
refusal_low (done (TimeUnit u)) t = tt
refusal_low (done (IntervalUnit u)) t = tt
refusal_low (done (UnionMode m)) t = tt
refusal_low (done (MapSorted b)) t = tt
refusal_low (done (Nullability r)) t = tt
refusal_low (done Field) t = tt
refusal_low (done Some) t = tt
refusal_low (done None) t = tt
refusal_low (done X) t = tt

module _ (text : List ℕ) where
  need-low : (sort at : ℕ) → Low (need text sort at)
  unfolding need
  need-low sort at = either (eqb (sort_of (token_at text at).kind) sort) _ _ tt (refusal_low (token_at text at).kind (token_low text at))

  by_token : {A : Type 0} (sort at : ℕ) (f : Standing → Out A) → ((t : Standing) → Low (f t)) → Low (need text sort at >>= f)
  by_token sort at f k = after (need text sort at) f (need-low sort at) k

  word-low : (at : ℕ) → Low (word_place text at)
  unfolding word_place
  word-low at = by_token double_quoted at _ λ s. by_token colon s.next _ λ c. tt

  last-low : (A : Type 0) (n at k next : ℕ) → T (is_low n) → Low {A = A} (refuse_last n (last_token text at k next))
  unfolding last_token
  last-low A n at k next t = after (if is_word k then word_place text at else done (next - 1)) _ (either (is_word k) _ _ (word-low at) tt) λ place. t

  number-low : (least most at : ℕ) → Low (number_in text least most at)
  unfolding number_in
  number-low least most at = by_token integer at _ λ t. either (leb (value_of t.kind) (if is_negative t.kind then least else most)) _ _ tt tt

  unit-low : (k at : ℕ) → Low (unit_at text k at)
  unfolding unit_at
  unit-low k at = by_token time_unit at _ λ u. either (unit_fits k (value_of u.kind)) _ _ tt tt

  close-low : (r : Row) (kids : Forest Row) (at : ℕ) → Low (close_at text r kids at)
  unfolding close_at
  close-low r kids at = by_token rparen at _ λ c. tt

  some-low : (at : ℕ) → Low (some_zone text at)
  unfolding some_zone
  some-low at = by_token lparen at _ λ p. by_token double_quoted p.next _ λ s. by_token rparen s.next _ λ c. tt

  string-zone-low : (at : ℕ) → Low (zone_string text at)
  unfolding zone_string
  string-zone-low at =
      either (stands text none_word at) _ _ (by_token none_word at _ λ n. tt)
      (either (stands text some_word at) _ _ (by_token some_word at _ λ w. some-low w.next) (by_token double_quoted at _ λ s. tt))

  zone-low : (at : ℕ) → Low (zone_at text at)
  unfolding zone_at
  zone-low at =
      either (stands text rparen at) _ _ (by_token rparen at _ λ c. tt)
      (by_token comma at _ λ c. after (zone_string text c.next) _ (string-zone-low c.next) λ z. by_token rparen z.next _ λ e. tt)

  name-low : (at : ℕ) → Low (list_name_at text at)
  unfolding list_name_at
  name-low at = by_token field_word at _ λ f. by_token colon f.next _ λ c. need-low single_quoted c.next

  -- Map's entries are refused with 13 or 14
  key-low : (roles : List ℕ) → eqb (key_refusal roles) 0 ≡ false → T (is_low (key_refusal roles))
  key-low [] e = tt
  key-low (key ∷ []) e = tt
  key-low (key ∷ value ∷ []) e = go (eqb key 2) e
    where
      go : (b : Bool) → eqb (if b then 0 else 13) 0 ≡ false → T (is_low (if b then 0 else 13))
      go true f = absurd (cc)
      go false f = tt
  key-low (key ∷ value ∷ third ∷ others) e = tt

  entries-refusal-low : (role k : ℕ) (roles : List ℕ) → eqb (entries_refusal role k roles) 0 ≡ false → T (is_low (entries_refusal role k roles))
  unfolding entries_refusal
  entries-refusal-low role k roles e = go (eqb role 2) (eqb k 32) e
    where
      go : (a b : Bool) → eqb (if a then (if b then key_refusal roles else 14) else 13) 0 ≡ false → T (is_low (if a then (if b then key_refusal roles else 14) else 13))
      go true true f = key-low roles f
      go true false f = tt
      go false b f = tt

  -- ---- types, where those one level down refuse with one of the numbers

  module _ (type : ℕ → ℕ → Out Tree) (inner : (at rows : ℕ) → Low (type at rows)) where
    field-low : (id at rows : ℕ) → Low (field_at text type id at rows)
    unfolding field_at
    field-low id at rows =
        by_token double_quoted at _ λ s. by_token colon s.next _ λ c. after (type (after_role text c.next) rows) _ (inner (after_role text c.next) rows) λ t. tt

    default-low : (n : Name) (at rows : ℕ) → Low (default_field text type n at rows)
    unfolding default_field
    default-low n at rows = after (type (after_role text at) rows) _ (inner (after_role text at) rows) λ t. tt

    list-field-low : (at rows : ℕ) → Low (list_field text type at rows)
    unfolding list_field
    list-field-low at rows =
        after (default_field text type item at rows) _ (default-low item at rows) λ t.
        either (stands text comma t.next) _ _ (by_token comma t.next _ λ c. after (list_name_at text c.next) _ (name-low c.next) λ s. tt) tt

    struct-item-low : (at rows : ℕ) → Low (struct_item text type at rows)
    unfolding struct_item
    struct-item-low at rows =
        either (stands text rparen at) _ _ (by_token rparen at _ λ c. tt)
        (after (field_at text type 0 at rows) _ (field-low 0 at rows) λ t.
        either (stands text comma t.next) _ _ (by_token comma t.next _ λ c. tt) (by_token rparen t.next _ λ c. tt))

    union-field-low : (at rows : ℕ) → Low (union_field text type at rows)
    unfolding union_field
    union-field-low at rows =
        after (signed_byte_at text at) _ (number-low 128 127 at) λ i. by_token colon i.next _ λ c. by_token lparen c.next _ λ p.
        after (field_at text type (id_of i.kind) p.next rows) _ (field-low (id_of i.kind) p.next rows) λ t. close-low t.row t.kids t.next

    union-item-low : (at rows : ℕ) → Low (union_item text type at rows)
    unfolding union_item
    union-item-low at rows =
        either (stands text rparen at) _ _ (by_token rparen at _ λ c. tt)
        (by_token comma at _ λ c. after (union_field text type c.next rows) _ (union-field-low c.next rows) λ t. tt)

    items-low : (turn : ℕ → ℕ → Out Item) → ((at rows : ℕ) → Low (turn at rows)) → (most at rows : ℕ) → Low (items_by turn most at rows)
    unfolding items_by
    items-low turn p zero at rows = tt
    items-low turn p (suc most) at rows = after (turn at rows) _ (p at rows) (go (λ a r. items-low turn p most a r))
      where
        go : ((a r : ℕ) → Low (items_by turn most a r)) → (i : Item) → Low (fields_from (items_by turn most) rows i)
        go ih (end next) = tt
        go ih (last t next) = tt
        go ih (more t next) = after (items_by turn most next (rows - rows_in t)) _ (ih next (rows - rows_in t)) λ fs. tt

    named-low : (at rows : ℕ) → Low (named_run_ends text type at rows)
    unfolding named_run_ends
    named-low at rows =
        after (field_at text type 0 at rows) _ (field-low 0 at rows) λ r.
        after (if eqb r.row.role 2 then done r else refuse_last 13 (last_token text at r.row.kind r.next)) _
        (either (eqb r.row.role 2) (done r) _ tt (last-low _ 13 at r.row.kind r.next tt)) λ s. by_token comma s.next _ λ c.
        after (field_at text type 0 c.next (rows - rows_in r)) _ (field-low 0 c.next (rows - rows_in r)) λ v. tt

    short-low : (at rows : ℕ) → Low (default_run_ends text type at rows)
    unfolding default_run_ends
    short-low at rows =
        either (eqb (role_at text at) 2) _ _
        (after (default_field text type run_ends at rows) _ (default-low run_ends at rows) λ r. by_token comma r.next _ λ c.
        after (default_field text type values c.next (rows - rows_in r)) _ (default-low values c.next (rows - rows_in r)) λ v. tt)
        tt

    run-ends-low : (at rows : ℕ) → Low (run_end_fields text type at rows)
    unfolding run_end_fields
    run-ends-low at rows = either (stands text double_quoted at) _ _ (named-low at rows) (short-low at rows)

    entries-low : (at rows : ℕ) → Low (entries_at text type at rows)
    unfolding entries_at
    entries-low at rows =
        after (field_at text type 0 at rows) _ (field-low 0 at rows) λ t.
        go t (eqb (entries_refusal t.row.role t.row.kind (map (λ (r : Row). r.role) (roots t.kids))) 0) refl
      where
        go : (t : Tree) (b : Bool) → eqb (entries_refusal t.row.role t.row.kind (map (λ (r : Row). r.role) (roots t.kids))) 0 ≡ b
            → Low (if b then done t else refuse_last (entries_refusal t.row.role t.row.kind (map (λ (r : Row). r.role) (roots t.kids))) (last_token text at t.row.kind t.next))
        go t true e = tt
        go t false e = last-low _ _ at t.row.kind t.next (entries-refusal-low t.row.role t.row.kind (map (λ (r : Row). r.role) (roots t.kids)) e)

    fixed-field-low : (at rows : ℕ) → Low (fixed_list_field text type at rows)
    unfolding fixed_list_field
    fixed-field-low at rows =
        either (stands text x_word at) _ _ (by_token x_word at _ λ x. list-field-low x.next rows)
        (by_token comma at _ λ c. after (type c.next rows) _ (inner c.next rows) λ t. tt)

    shape-low : (sh : Shape) (k at rows : ℕ) → Low (shape_at text type sh k at rows)
    unfolding shape_at timestamp_at time_at interval_at fixed_size_binary_at scale_at decimal_at list_at fixed_size_list_at struct_at union_at dictionary_at map_at run_end_encoded_at
    shape-low leaf k at rows = tt
    shape-low timestamp k at rows = by_token lparen at _ λ p. by_token time_unit p.next _ λ u. after (zone_at text u.next) _ (zone-low u.next) λ z. tt
    shape-low time k at rows = by_token lparen at _ λ p. after (unit_at text k p.next) _ (unit-low k p.next) λ u. close-low _ ∅ u.next
    shape-low interval k at rows = by_token lparen at _ λ p. by_token interval_unit p.next _ λ u. close-low _ ∅ u.next
    shape-low fixed k at rows = by_token lparen at _ λ p. after (length_at text p.next) _ (number-low 0 _ p.next) λ n. close-low _ ∅ n.next
    shape-low list k at rows = by_token lparen at _ λ p. after (list_field text type p.next rows) _ (list-field-low p.next rows) λ t. close-low _ _ t.next
    shape-low fixed_list k at rows =
        by_token lparen at _ λ p. after (length_at text p.next) _ (number-low 0 _ p.next) λ n.
        after (fixed_list_field text type n.next rows) _ (fixed-field-low n.next rows) λ t. close-low _ _ t.next
    shape-low struct k at rows =
        by_token lparen at _ λ p. after (items_by (struct_item text type) (suc rows) p.next rows) _ (items-low (struct_item text type) struct-item-low (suc rows) p.next rows) λ fs. tt
    shape-low union k at rows =
        by_token lparen at _ λ p. by_token union_mode p.next _ λ m.
        after (items_by (union_item text type) (suc rows) m.next rows) _ (items-low (union_item text type) union-item-low (suc rows) m.next rows) λ fs.
        either (ids_fit _) _ _ tt tt
    shape-low dictionary k at rows =
        by_token lparen at _ λ p. after (type p.next rows) _ (inner p.next rows) λ t. by_token comma t.next _ λ c.
        after (type c.next (rows - rows_in t)) _ (inner c.next (rows - rows_in t)) λ v. close-low _ _ v.next
    shape-low decimal k at rows =
        by_token lparen at _ λ p. after (precision_at text p.next) _ (number-low 0 255 p.next) λ n. by_token comma n.next _ λ c.
        after (signed_byte_at text c.next) _ (number-low 128 127 c.next) λ s.
        after (close_at text _ ∅ s.next) _ (close-low _ ∅ s.next) λ t. either (decimal_fits k _ _) _ _ tt tt
    shape-low mapping k at rows =
        by_token lparen at _ λ p. after (entries_at text type p.next rows) _ (entries-low p.next rows) λ t.
        by_token comma t.next _ λ c. by_token map_sorted c.next _ λ s. close-low _ _ s.next
    shape-low run_end_encoded k at rows =
        by_token lparen at _ λ p. after (run_end_fields text type p.next rows) _ (run-ends-low p.next rows) λ fs. close-low _ _ fs.next

    with-low : (at rows : ℕ) → Low (type_with text type at rows)
    unfolding type_with
    with-low at zero = tt
    with-low at (suc rows) = by_token type_word at _ λ t. shape-low (shape_of (value_of t.kind)) (value_of t.kind) t.next rows

  type-low : (level at rows : ℕ) → Low (type_at text level at rows)
  unfolding type_at
  type-low zero at rows = tt
  type-low (suc level) at rows = with-low (λ a r. type_at text level a r) (type-low level) at rows

  parse-low : (rows : ℕ) → Low (parse text rows)
  unfolding parse first_type
  parse-low rows =
      after (first_type text rows) _ (either (leb (length text) 16384) _ _ (either (is_utf8 text) _ _ (type-low 64 0 rows) tt) tt) λ t.
      either (text_over text t.next) _ _ tt tt

  -- A refused text has one of the numbers.
  pub refusal_low_lem : (rows : ℕ) (r : Refusal) → parse text rows ≡ refused r → (1 ≤ r.number) × (r.number ≤ 16)
  refusal_low_lem rows r e =
      let t : T (is_low r.number) = subst (λ (o : Out (Forest Row)). Low o) e (parse-low rows) in
      (leb→le 1 r.number (and_l (leb 1 r.number) (leb r.number 16) t), leb→le r.number 16 (and_r (leb 1 r.number) (leb r.number 16) t))
