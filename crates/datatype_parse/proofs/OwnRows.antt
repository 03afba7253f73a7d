-- What is accepted needs no more rows than its own: with any number of rows lent that holds the tree, it is the same tree.
use Rattle.std.specs.Prelude.{if◌then◌else◌}
use mathlib.Core.Path.{◌≡◌, refl, sym, ap, ◌∙◌, subst}
use mathlib.Core.Bool.{Bool, true, false}
use mathlib.Core.List.{List}
use Prim.Native.Nat.{ℕ, zero, suc, ◌*◌, ◌-◌, ◌≤◌, ◌<◌}
use native.Mathlib.Omega.{arith}
use lib.ListN.{length, take}
use lib.Dec.{leb, eqb}
use Rattle.tokenizer.specs.Answer.{Refusal, Out, refused, done, ◌>>=◌}
use Rattle.tokenizer.specs.Utf8.{is_utf8}
use Rattle.tokenizer.specs.Token.{value_of, double_quoted, colon, comma, lparen, rparen, x_word, union_mode, map_sorted, type_word}
use Rattle.datatype.specs.Kind.{Shape, leaf, timestamp, time, interval, fixed, list, fixed_list, struct, union, dictionary, decimal, mapping, run_end_encoded, shape_of, ids_fit, entries_refusal}
use Rattle.datatype.specs.Tree.{Forest, Row, count}
use Rattle.datatype.specs.Table.{row_words, rows_lent}
use Rattle.unchecked_rows.proofs.ParentTree.{count_parented}
use Rattle.parser.specs.Parse.{refuse_last, last_token, Name, Tree, single, Fields, Item, end, last, more, rows_in, id_of, need, signed_byte_at, length_at, list_name_at, close_at, after_role, item, run_ends, values, fields_from, items_by, stands, role_at, field_at, default_field, list_field, struct_item, union_field, union_item, named_run_ends, default_run_ends, run_end_fields, entries_at, fixed_list_field, list_at, fixed_size_list_at, struct_at, union_at, dictionary_at, map_at, run_end_encoded_at, shape_at, type_with, type_at, first_type}
use Rattle.parser.proofs.Holds.{Holds, holds_last, holds_bind, holds_if}
use Rattle.datatype_parse.specs.Parse.{text_over, parse, row_count, parse_answer, filled, parse_rows}
use Rattle.datatype_parse.proofs.MoreRows.{filled_rows, SameRows}

-- The second answer is the first one's, where that is a value of which C holds.
pub Enough : {A : Type 0} → (A → Type 0) → Out A → Out A → Type 0
Enough C (refused r) p = Unit {0}
Enough C (done x) p = C x → p ≡ done x

module _ {A : Type 0} (C : A → Type 0) where
  pub enough-same : (o : Out A) → Enough C o o
  unfolding Enough
  enough-same (refused r) = tt
  enough-same (done x) = λ c. refl

  pub enough-refused : (r : Refusal) (p : Out A) → Enough C (refused r) p
  unfolding Enough
  enough-refused r p = tt

  pub enough-never : ((x : A) → C x → ⊥) → (o p : Out A) → Enough C o p
  unfolding Enough
  enough-never n (refused r) p = tt
  enough-never n (done x) p = λ c. absurd (n x c)

  pub enough-if : (b : Bool) (o p o' p' : Out A) → Enough C o o' → Enough C p p' → Enough C (if b then o else p) (if b then o' else p')
  enough-if true o p o' p' h k = h
  enough-if false o p o' p' h k = k

module _ {A B : Type 0} (C : A → Type 0) (D : B → Type 0) where
  -- a first step that is the same where C holds of its value, as it does where D holds of what is made of it
  pub enough-bind : (o p : Out A) (f g : A → Out B) → Enough C o p → ((a : A) → Holds (λ (b : B). D b → C a) (f a)) → ((a : A) → C a → Enough D (f a) (g a))
      → Enough D (o >>= f) (p >>= g)
  unfolding Enough
  enough-bind (refused r) p f g h k l = tt
  enough-bind (done a) p f g h k l = go (f a) (k a) (l a)
    where
      go : (q : Out B) → Holds (λ (b : B). D b → C a) q → (C a → Enough D q (g a)) → Enough D q (p >>= g)
      go (refused r) k l = tt
      go (done b) k l = λ d. subst (λ (q : Out A). (q >>= g) ≡ done b) (sym (h (k d))) (l (k d) d)

  -- the same where what follows does not look at the rows
  pub enough-last : (o p : Out A) (f : A → Out B) → Enough C o p → ((a : A) → Holds (λ (b : B). D b → C a) (f a)) → Enough D (o >>= f) (p >>= f)
  enough-last o p f h k = enough-bind o p f f h k (λ a c. enough-same D (f a))

-- a first step that does not look at the rows
pub enough_then : {A B : Type 0} (D : B → Type 0) (o : Out A) (f g : A → Out B) → ((a : A) → Enough D (f a) (g a)) → Enough D (o >>= f) (o >>= g)
unfolding Enough
enough_then D (refused r) f g k = tt
enough_then D (done a) f g k = k a

-- ---- what is read has so many rows at most

abbrev Fit : ℕ → Tree → Type 0
Fit s t = rows_in t ≤ s

abbrev FitAll : ℕ → Fields → Type 0
FitAll s fs = count fs.trees ≤ s

abbrev FitItem : ℕ → Item → Type 0
FitItem s (end next) = Unit {0}
FitItem s (last t next) = rows_in t ≤ s
FitItem s (more t next) = rows_in t ≤ s

-- ---- fields turn by turn

module _ (item : ℕ → ℕ → Out Item) (own : (at r s : ℕ) → Enough (FitItem s) (item at r) (item at s)) where
  items-own : (m n at r s : ℕ) → s < n → Enough (FitAll s) (items_by item m at r) (items_by item n at s)
  unfolding items_by
  items-own zero n at r s h = enough-refused (FitAll s) _ _
  items-own (suc m) zero at r s h = absurd (omega arith)
  items-own (suc m) (suc n) at r s h =
      enough-bind (FitItem s) (FitAll s) (item at r) (item at s) (fields_from (items_by item m) r) (fields_from (items_by item n) s) (own at r s) taken
      (turn (λ a k l i. items-own m n a k l i))
    where
      taken : (i : Item) → Holds (λ (fs : Fields). FitAll s fs → FitItem s i) (fields_from (items_by item m) r i)
      taken (end next) = λ d. tt
      taken (last t next) = λ d. omega arith
      taken (more t next) = holds_bind (λ (fs : Fields). FitAll s fs → rows_in t ≤ s) (items_by item m next (r - rows_in t)) _ λ fs d. omega arith

      turn : ((a k l : ℕ) → l < n → Enough (FitAll l) (items_by item m a k) (items_by item n a l))
          → (i : Item) → FitItem s i → Enough (FitAll s) (fields_from (items_by item m) r i) (fields_from (items_by item n) s i)
      turn ih (end next) c = enough-same (FitAll s) (fields_from (items_by item m) r (end next))
      turn ih (last t next) c = enough-same (FitAll s) (fields_from (items_by item m) r (last t next))
      turn ih (more t next) c =
          enough-last (FitAll (s - rows_in t)) (FitAll s) (items_by item m next (r - rows_in t)) (items_by item n next (s - rows_in t)) _
          (ih next (r - rows_in t) (s - rows_in t) (omega arith)) λ fs d. omega arith

-- ---- types one level down need no more than their own rows, so what is made of them does not

module _ (text : List ℕ) where
  -- a type that is closed, over the children read
  closed : (X : Type 0) (s : ℕ) (r : Row) (kids : Forest Row) (at : ℕ) → (suc (count kids) ≤ s → X) → Holds (λ (t : Tree). Fit s t → X) (close_at text r kids at)
  unfolding close_at
  closed X s r kids at h = holds_bind (λ (t : Tree). Fit s t → X) (need text rparen at) _ λ c. h

  module _ (type : ℕ → ℕ → Out Tree) (own : (at r s : ℕ) → Enough (Fit s) (type at r) (type at s)) where
    field-own : (id at r s : ℕ) → Enough (Fit s) (field_at text type id at r) (field_at text type id at s)
    unfolding field_at
    field-own id at r s =
        enough_then (Fit s) (need text double_quoted at) _ _ λ n.
        enough_then (Fit s) (need text colon n.next) _ _ λ c.
        enough-last (Fit s) (Fit s) (type (after_role text c.next) r) (type (after_role text c.next) s) _ (own (after_role text c.next) r s) λ t d. d

    default-own : (n : Name) (at r s : ℕ) → Enough (Fit s) (default_field text type n at r) (default_field text type n at s)
    unfolding default_field
    default-own n at r s = enough-last (Fit s) (Fit s) (type (after_role text at) r) (type (after_role text at) s) _ (own (after_role text at) r s) λ t d. d

    list-field-own : (at r s : ℕ) → Enough (Fit s) (list_field text type at r) (list_field text type at s)
    unfolding list_field
    list-field-own at r s =
        enough-last (Fit s) (Fit s) (default_field text type item at r) (default_field text type item at s) _ (default-own item at r s) λ t.
        holds_if (λ (u : Tree). Fit s u → Fit s t) (stands text comma t.next) _ _
        (holds_bind (λ (u : Tree). Fit s u → Fit s t) (need text comma t.next) _ λ c.
        holds_bind (λ (u : Tree). Fit s u → Fit s t) (list_name_at text c.next) _ λ n d. d)
        λ d. d

    struct-item-own : (at r s : ℕ) → Enough (FitItem s) (struct_item text type at r) (struct_item text type at s)
    unfolding struct_item
    struct-item-own at r s =
        enough-if (FitItem s) (stands text rparen at) _ _ _ _ (enough-same (FitItem s) _)
        (enough-last (Fit s) (FitItem s) (field_at text type 0 at r) (field_at text type 0 at s) _ (field-own 0 at r s) λ t.
        holds_if (λ (i : Item). FitItem s i → Fit s t) (stands text comma t.next) _ _
        (holds_bind (λ (i : Item). FitItem s i → Fit s t) (need text comma t.next) _ λ c d. d)
        (holds_bind (λ (i : Item). FitItem s i → Fit s t) (need text rparen t.next) _ λ c d. d))

    union-field-own : (at r s : ℕ) → Enough (Fit s) (union_field text type at r) (union_field text type at s)
    unfolding union_field
    union-field-own at r s =
        enough_then (Fit s) (signed_byte_at text at) _ _ λ i.
        enough_then (Fit s) (need text colon i.next) _ _ λ c.
        enough_then (Fit s) (need text lparen c.next) _ _ λ p.
        enough-last (Fit s) (Fit s) (field_at text type (id_of i.kind) p.next r) (field_at text type (id_of i.kind) p.next s) _
        (field-own (id_of i.kind) p.next r s) λ t. closed (Fit s t) s t.row t.kids t.next λ d. d

    union-item-own : (at r s : ℕ) → Enough (FitItem s) (union_item text type at r) (union_item text type at s)
    unfolding union_item
    union-item-own at r s =
        enough-if (FitItem s) (stands text rparen at) _ _ _ _ (enough-same (FitItem s) _)
        (enough_then (FitItem s) (need text comma at) _ _ λ c.
        enough-last (Fit s) (FitItem s) (union_field text type c.next r) (union_field text type c.next s) _ (union-field-own c.next r s) λ t d. d)

    named-own : (at r s : ℕ) → Enough (FitAll s) (named_run_ends text type at r) (named_run_ends text type at s)
    unfolding named_run_ends
    named-own at r s =
        enough-bind (Fit s) (FitAll s) (field_at text type 0 at r) (field_at text type 0 at s) _ _ (field-own 0 at r s)
        (λ t. holds_bind (λ (fs : Fields). FitAll s fs → Fit s t) (if eqb t.row.role 2 then done t else refuse_last 13 (last_token text at t.row.kind t.next)) _ λ u.
        holds_bind (λ (fs : Fields). FitAll s fs → Fit s t) (need text comma u.next) _ λ c.
        holds_bind (λ (fs : Fields). FitAll s fs → Fit s t) (field_at text type 0 c.next (r - rows_in t)) _ λ v d. omega arith)
        λ t h.
        enough_then (FitAll s) (if eqb t.row.role 2 then done t else refuse_last 13 (last_token text at t.row.kind t.next)) _ _ λ u.
        enough_then (FitAll s) (need text comma u.next) _ _ λ c.
        enough-last (Fit (s - rows_in t)) (FitAll s) (field_at text type 0 c.next (r - rows_in t)) (field_at text type 0 c.next (s - rows_in t)) _
        (field-own 0 c.next (r - rows_in t) (s - rows_in t)) λ v d. omega arith

    short-own : (at r s : ℕ) → Enough (FitAll s) (default_run_ends text type at r) (default_run_ends text type at s)
    unfolding default_run_ends
    short-own at r s =
        enough-if (FitAll s) (eqb (role_at text at) 2) _ _ _ _
        (enough-bind (Fit s) (FitAll s) (default_field text type run_ends at r) (default_field text type run_ends at s) _ _ (default-own run_ends at r s)
        (λ t. holds_bind (λ (fs : Fields). FitAll s fs → Fit s t) (need text comma t.next) _ λ c.
        holds_bind (λ (fs : Fields). FitAll s fs → Fit s t) (default_field text type values c.next (r - rows_in t)) _ λ v d. omega arith)
        λ t h.
        enough_then (FitAll s) (need text comma t.next) _ _ λ c.
        enough-last (Fit (s - rows_in t)) (FitAll s) (default_field text type values c.next (r - rows_in t)) (default_field text type values c.next (s - rows_in t)) _
        (default-own values c.next (r - rows_in t) (s - rows_in t)) λ v d. omega arith)
        (enough-same (FitAll s) _)

    run-end-fields-own : (at r s : ℕ) → Enough (FitAll s) (run_end_fields text type at r) (run_end_fields text type at s)
    unfolding run_end_fields
    run-end-fields-own at r s = enough-if (FitAll s) (stands text double_quoted at) _ _ _ _ (named-own at r s) (short-own at r s)

    entries-own : (at r s : ℕ) → Enough (Fit s) (entries_at text type at r) (entries_at text type at s)
    unfolding entries_at
    entries-own at r s =
        enough-last (Fit s) (Fit s) (field_at text type 0 at r) (field_at text type 0 at s) _ (field-own 0 at r s) λ t.
        holds_if (λ (u : Tree). Fit s u → Fit s t) (eqb (entries_refusal _ _ _) 0) _ _ (λ d. d) (holds_last _ _ _)

    fixed-field-own : (at r s : ℕ) → Enough (Fit s) (fixed_list_field text type at r) (fixed_list_field text type at s)
    unfolding fixed_list_field
    fixed-field-own at r s =
        enough-if (Fit s) (stands text x_word at) _ _ _ _
        (enough_then (Fit s) (need text x_word at) _ _ λ x. list-field-own x.next r s)
        (enough_then (Fit s) (need text comma at) _ _ λ c.
        enough-last (Fit s) (Fit s) (type c.next r) (type c.next s) _ (own c.next r s) λ t d. d)

    -- A type's own row is taken before these: so many rows are left for its children.
    list-own : (k at r s : ℕ) → Enough (Fit (suc s)) (list_at text type k at r) (list_at text type k at s)
    unfolding list_at
    list-own k at r s =
        enough_then (Fit (suc s)) (need text lparen at) _ _ λ p.
        enough-last (Fit s) (Fit (suc s)) (list_field text type p.next r) (list_field text type p.next s) _ (list-field-own p.next r s) λ t.
        closed (Fit s t) (suc s) _ _ t.next λ d. omega arith

    fixed-list-own : (k at r s : ℕ) → Enough (Fit (suc s)) (fixed_size_list_at text type k at r) (fixed_size_list_at text type k at s)
    unfolding fixed_size_list_at
    fixed-list-own k at r s =
        enough_then (Fit (suc s)) (need text lparen at) _ _ λ p.
        enough_then (Fit (suc s)) (length_at text p.next) _ _ λ n.
        enough-last (Fit s) (Fit (suc s)) (fixed_list_field text type n.next r) (fixed_list_field text type n.next s) _ (fixed-field-own n.next r s) λ t.
        closed (Fit s t) (suc s) _ _ t.next λ d. omega arith

    struct-own : (k at r s : ℕ) → Enough (Fit (suc s)) (struct_at text type k at r) (struct_at text type k at s)
    unfolding struct_at
    struct-own k at r s =
        enough_then (Fit (suc s)) (need text lparen at) _ _ λ p.
        enough-last (FitAll s) (Fit (suc s)) (items_by (struct_item text type) (suc r) p.next r) (items_by (struct_item text type) (suc s) p.next s) _
        (items-own (struct_item text type) struct-item-own (suc r) (suc s) p.next r s (omega arith)) λ fs d. omega arith

    union-own : (k at r s : ℕ) → Enough (Fit (suc s)) (union_at text type k at r) (union_at text type k at s)
    unfolding union_at
    union-own k at r s =
        enough_then (Fit (suc s)) (need text lparen at) _ _ λ p.
        enough_then (Fit (suc s)) (need text union_mode p.next) _ _ λ m.
        enough-last (FitAll s) (Fit (suc s)) (items_by (union_item text type) (suc r) m.next r) (items_by (union_item text type) (suc s) m.next s) _
        (items-own (union_item text type) union-item-own (suc r) (suc s) m.next r s (omega arith)) λ fs.
        holds_if (λ (t : Tree). Fit (suc s) t → FitAll s fs) (ids_fit _) _ _ (λ d. omega arith) tt

    dictionary-own : (k at r s : ℕ) → Enough (Fit (suc s)) (dictionary_at text type k at r) (dictionary_at text type k at s)
    unfolding dictionary_at
    dictionary-own k at r s =
        enough_then (Fit (suc s)) (need text lparen at) _ _ λ p.
        enough-bind (Fit s) (Fit (suc s)) (type p.next r) (type p.next s) _ _ (own p.next r s)
        (λ t. holds_bind (λ (u : Tree). Fit (suc s) u → Fit s t) (need text comma t.next) _ λ c.
        holds_bind (λ (u : Tree). Fit (suc s) u → Fit s t) (type c.next (r - rows_in t)) _ λ v. closed (Fit s t) (suc s) _ _ v.next λ d. omega arith)
        λ t h.
        enough_then (Fit (suc s)) (need text comma t.next) _ _ λ c.
        enough-last (Fit (s - rows_in t)) (Fit (suc s)) (type c.next (r - rows_in t)) (type c.next (s - rows_in t)) _
        (own c.next (r - rows_in t) (s - rows_in t)) λ v. closed (Fit (s - rows_in t) v) (suc s) _ _ v.next λ d. omega arith

    map-own : (k at r s : ℕ) → Enough (Fit (suc s)) (map_at text type k at r) (map_at text type k at s)
    unfolding map_at
    map-own k at r s =
        enough_then (Fit (suc s)) (need text lparen at) _ _ λ p.
        enough-last (Fit s) (Fit (suc s)) (entries_at text type p.next r) (entries_at text type p.next s) _ (entries-own p.next r s) λ t.
        holds_bind (λ (u : Tree). Fit (suc s) u → Fit s t) (need text comma t.next) _ λ c.
        holds_bind (λ (u : Tree). Fit (suc s) u → Fit s t) (need text map_sorted c.next) _ λ m. closed (Fit s t) (suc s) _ _ m.next λ d. omega arith

    run-end-own : (k at r s : ℕ) → Enough (Fit (suc s)) (run_end_encoded_at text type k at r) (run_end_encoded_at text type k at s)
    unfolding run_end_encoded_at
    run-end-own k at r s =
        enough_then (Fit (suc s)) (need text lparen at) _ _ λ p.
        enough-last (FitAll s) (Fit (suc s)) (run_end_fields text type p.next r) (run_end_fields text type p.next s) _ (run-end-fields-own p.next r s) λ fs.
        closed (FitAll s fs) (suc s) _ _ fs.next λ d. omega arith

    shape-own : (sh : Shape) (k at r s : ℕ) → Enough (Fit (suc s)) (shape_at text type sh k at r) (shape_at text type sh k at s)
    unfolding shape_at
    shape-own leaf k at r s = enough-same (Fit (suc s)) _
    shape-own timestamp k at r s = enough-same (Fit (suc s)) _
    shape-own time k at r s = enough-same (Fit (suc s)) _
    shape-own interval k at r s = enough-same (Fit (suc s)) _
    shape-own fixed k at r s = enough-same (Fit (suc s)) _
    shape-own list k at r s = list-own k at r s
    shape-own fixed_list k at r s = fixed-list-own k at r s
    shape-own struct k at r s = struct-own k at r s
    shape-own union k at r s = union-own k at r s
    shape-own dictionary k at r s = dictionary-own k at r s
    shape-own decimal k at r s = enough-same (Fit (suc s)) _
    shape-own mapping k at r s = map-own k at r s
    shape-own run_end_encoded k at r s = run-end-own k at r s

    with-own : (at r s : ℕ) → Enough (Fit s) (type_with text type at r) (type_with text type at s)
    unfolding type_with
    with-own at zero s = enough-refused (Fit s) _ _
    with-own at (suc r) zero = enough-never (Fit 0) (λ t h. omega arith) _ _
    with-own at (suc r) (suc s) =
        enough_then (Fit (suc s)) (need text type_word at) _ _ λ t. shape-own (shape_of (value_of t.kind)) (value_of t.kind) t.next r s

  pub type-own : (level at r s : ℕ) → Enough (Fit s) (type_at text level at r) (type_at text level at s)
  unfolding type_at
  type-own zero at r s = enough-refused (Fit s) _ _
  type-own (suc level) at r s = with-own (λ a k. type_at text level a k) (type-own level) at r s

  -- ---- a whole text

  pub first-own : (r s : ℕ) → Enough (Fit s) (first_type text r) (first_type text s)
  unfolding first_type
  first-own r s =
      enough-if (Fit s) (leb (length text) 16384) _ _ _ _
      (enough-if (Fit s) (is_utf8 text) _ _ _ _ (type-own 64 0 r s) (enough-same (Fit s) _)) (enough-same (Fit s) _)

  abbrev FitTree : ℕ → Forest Row → Type 0
  FitTree s f = count f ≤ s

  parse-own : (r s : ℕ) → Enough (FitTree s) (parse text r) (parse text s)
  unfolding parse
  parse-own r s =
      enough-last (Fit s) (FitTree s) (first_type text r) (first_type text s) _ (first-own r s) λ t.
      holds_if (λ (f : Forest Row). FitTree s f → Fit s t) (text_over text t.next) _ _ (λ d. omega (arith, count_parented 0 0 (single t))) tt

  -- A text accepted with some rows lent is accepted with any number that holds its tree, with the same tree.
  pub own-rows : (r s : ℕ) (f : Forest Row) → count f ≤ s → parse text r ≡ done f → parse text s ≡ done f
  unfolding Enough
  own-rows r s f h e = kept (parse text r) (parse-own r s) e
    where
      kept : (o : Out (Forest Row)) → Enough (FitTree s) o (parse text s) → o ≡ done f → parse text s ≡ done f
      kept (refused r) k q = absurd (let z : ◌≡◌ {A = ℕ} 0 1 = cc in omega arith)
      kept (done g) k q = let w : g ≡ f = cc in k (rw w h) ∙ ap (λ (x : Forest Row). done x) w

-- ---- the public reader

-- The tree of an accepted text of so many rows.
abbrev pub Accepted : List ℕ → List ℕ → ℕ → Type 0
Accepted text before n = (tree : Forest Row) × ((parse text (rows_lent (length before)) ≡ done tree) × (count tree ≡ n))

pub accepted : (text before : List ℕ) (n : ℕ) → parse_answer text before ≡ done n → Accepted text before n
unfolding parse_answer
accepted text before n e = go (parse text (rows_lent (length before))) e
  where
    go : (o : Out (Forest Row)) → row_count o ≡ done n → (tree : Forest Row) × ((o ≡ done tree) × (count tree ≡ n))
    go (refused r) e = absurd (let z : ◌≡◌ {A = ℕ} 0 1 = cc in omega arith)
    go (done tree) e = (tree, (refl, cc))

-- An accepted text needs its own rows and no more: with these lent the answer and the rows are the same.
pub own_lent : (text before before' : List ℕ) (n : ℕ) → n ≤ rows_lent (length before') → parse_answer text before ≡ done n → SameRows text before before' n
unfolding parse_answer parse_rows
own_lent text before before' n h e = go (accepted text before n e)
  where
    go : Accepted text before n → SameRows text before before' n
    go t =
        let c = t.1.1 in
        let same : parse text (rows_lent (length before')) ≡ done t.0 = own-rows text (rows_lent (length before)) (rows_lent (length before')) t.0 (omega arith) t.1.0 in (
          ap row_count same ∙ ap (λ (k : ℕ). done k) c,
          ap (λ (o : Out (Forest Row)). take (row_words * n) (filled before' o)) same ∙ filled_rows n before' t.0 c
              ∙ sym (ap (λ (o : Out (Forest Row)). take (row_words * n) (filled before o)) t.1.0 ∙ filled_rows n before t.0 c),
        )
