-- Rows lent beyond those that a text needs change nothing: what is accepted stays accepted, with the same tree, and what
-- is refused stays refused with the same number, but for 4.
use Rattle.std.specs.Prelude.{if◌then◌else◌}
use mathlib.Core.Path.{◌≡◌, refl, sym, ap, ◌∙◌, subst}
use mathlib.Core.Bool.{Bool, true, false}
use mathlib.Core.List.{List, ◌++◌}
use Prim.Native.Nat.{ℕ, zero, suc, ◌*◌, ◌-◌, ◌≤◌}
use native.Mathlib.Omega.{arith}
use lib.ListN.{length, take, drop}
use lib.Seq.{take-append_seam}
use lib.Dec.{leb, eqb}
use Rattle.tokenizer.specs.Answer.{Refusal, Out, refused, done, refuse_at, ◌>>=◌}
use Rattle.tokenizer.specs.Utf8.{is_utf8}
use Rattle.tokenizer.specs.Token.{value_of, double_quoted, colon, comma, lparen, rparen, x_word, union_mode, type_word}
use Rattle.datatype.specs.Kind.{Shape, leaf, timestamp, time, interval, fixed, list, fixed_list, struct, union, dictionary, decimal, mapping, run_end_encoded, shape_of}
use Rattle.datatype.specs.Tree.{Forest, Row, count}
use Rattle.datatype.specs.Table.{row_words, table_of, rows_lent}
use Rattle.datatype.proofs.Table.{length_table}
use Rattle.parser.specs.Parse.{refuse_last, last_token, Name, Tree, Fields, Item, end, last, more, rows_in, id_of, need, signed_byte_at, length_at, after_role, item, run_ends, values, fields_from, items_by, stands, role_at, field_at, default_field, list_field, struct_item, union_field, union_item, named_run_ends, default_run_ends, run_end_fields, entries_at, fixed_list_field, list_at, fixed_size_list_at, struct_at, union_at, dictionary_at, map_at, run_end_encoded_at, shape_at, type_with, type_at, first_type}
use Rattle.datatype_parse.specs.Parse.{parse, row_count, parse_answer, filled, parse_rows}

-- The second answer is the first one's, where that is no refusal for lack of rows.
pub Keeps : {A : Type 0} → Out A → Out A → Type 0
Keeps (refused r) p = (r.number ≡ 4 → ⊥) → p ≡ refused r
Keeps (done x) p = p ≡ done x

module _ {A : Type 0} where
  pub keeps_same : (o : Out A) → Keeps o o
  unfolding Keeps
  keeps_same (refused r) = λ n. refl
  keeps_same (done x) = refl

  -- the rows ran out
  pub keeps-four : (n : ℕ) (p : Out A) → Keeps (refuse_at 4 n) p
  unfolding Keeps
  keeps-four place p = λ n. absurd (n refl)

  pub keeps-if : (b : Bool) (o p o' p' : Out A) → Keeps o o' → Keeps p p' → Keeps (if b then o else p) (if b then o' else p')
  keeps-if true o p o' p' h k = h
  keeps-if false o p o' p' h k = k

module _ {A B : Type 0} where
  pub keeps-bind : (o p : Out A) (f g : A → Out B) → Keeps o p → ((a : A) → Keeps (f a) (g a)) → Keeps (o >>= f) (p >>= g)
  unfolding Keeps
  keeps-bind (refused r) p f g h k = λ n. ap (λ (q : Out A). q >>= g) (h n)
  keeps-bind (done a) p f g h k = subst (λ (q : Out A). Keeps (f a) (q >>= g)) (sym h) (k a)

  -- A first step that does not look at the rows.
  pub keeps_then : (o : Out A) (f g : A → Out B) → ((a : A) → Keeps (f a) (g a)) → Keeps (o >>= f) (o >>= g)
  keeps_then o f g k = keeps-bind o o f g (keeps_same o) k

-- ---- fields turn by turn

turn_up : (go go' : ℕ → ℕ → Out Fields) (r s : ℕ) → ((next k : ℕ) → Keeps (go next (r - k)) (go' next (s - k)))
    → (i : Item) → Keeps (fields_from go r i) (fields_from go' s i)
turn_up go go' r s h (end next) = keeps_same _
turn_up go go' r s h (last t next) = keeps_same _
turn_up go go' r s h (more t next) = keeps-bind _ _ _ _ (h next (rows_in t)) (λ fs. keeps_same _)

module _ (item : ℕ → ℕ → Out Item) (up : (at r s : ℕ) → r ≤ s → Keeps (item at r) (item at s)) where
  pub items-up : (m n at r s : ℕ) → m ≤ n → r ≤ s → Keeps (items_by item m at r) (items_by item n at s)
  unfolding items_by
  items-up zero n at r s h k = keeps-four _ _
  items-up (suc m) zero at r s h k = absurd (omega arith)
  items-up (suc m) (suc n) at r s h k =
      keeps-bind (item at r) (item at s) (fields_from (items_by item m) r) (fields_from (items_by item n) s) (up at r s k) (turn_up (items_by item m) (items_by item n) r s (λ next d. items-up m n next (r - d) (s - d) (omega arith) (omega arith)))

-- ---- types one level down keep their answers, so what is made of them does

module _ (text : List ℕ) (type : ℕ → ℕ → Out Tree) (up : (at r s : ℕ) → r ≤ s → Keeps (type at r) (type at s)) where
  pub field-up : (id at r s : ℕ) → r ≤ s → Keeps (field_at text type id at r) (field_at text type id at s)
  unfolding field_at
  field-up id at r s h =
      keeps_then (need text double_quoted at) _ _ (λ n. keeps_then (need text colon n.next) _ _ (λ c.
      keeps-bind _ _ _ _ (up (after_role text c.next) r s h) (λ t. keeps_same _)))

  pub default-up : (n : Name) (at r s : ℕ) → r ≤ s → Keeps (default_field text type n at r) (default_field text type n at s)
  unfolding default_field
  default-up n at r s h = keeps-bind _ _ _ _ (up (after_role text at) r s h) (λ t. keeps_same _)

  pub list-field-up : (at r s : ℕ) → r ≤ s → Keeps (list_field text type at r) (list_field text type at s)
  unfolding list_field
  list-field-up at r s h = keeps-bind _ _ _ _ (default-up item at r s h) (λ t. keeps_same _)

  pub struct-item-up : (at r s : ℕ) → r ≤ s → Keeps (struct_item text type at r) (struct_item text type at s)
  unfolding struct_item
  struct-item-up at r s h = keeps-if (stands text rparen at) _ _ _ _ (keeps_same _) (keeps-bind _ _ _ _ (field-up 0 at r s h) (λ t. keeps_same _))

  pub union-field-up : (at r s : ℕ) → r ≤ s → Keeps (union_field text type at r) (union_field text type at s)
  unfolding union_field
  union-field-up at r s h =
      keeps_then (signed_byte_at text at) _ _ (λ i. keeps_then (need text colon i.next) _ _ (λ c. keeps_then (need text lparen c.next) _ _ (λ p.
      keeps-bind _ _ _ _ (field-up (id_of i.kind) p.next r s h) (λ t. keeps_same _))))

  pub union-item-up : (at r s : ℕ) → r ≤ s → Keeps (union_item text type at r) (union_item text type at s)
  unfolding union_item
  union-item-up at r s h =
      keeps-if (stands text rparen at) _ _ _ _ (keeps_same _) (keeps_then (need text comma at) _ _ (λ c.
      keeps-bind _ _ _ _ (union-field-up c.next r s h) (λ t. keeps_same _)))

  pub named-up : (at r s : ℕ) → r ≤ s → Keeps (named_run_ends text type at r) (named_run_ends text type at s)
  unfolding named_run_ends
  named-up at r s h =
      keeps-bind _ _ _ _ (field-up 0 at r s h) (λ t. keeps_then (if eqb t.row.role 2 then done t else refuse_last 13 (last_token text at t.row.kind t.next)) _ _ (λ u. keeps_then (need text comma u.next) _ _ (λ c.
      keeps-bind _ _ _ _ (field-up 0 c.next (r - rows_in t) (s - rows_in t) (omega arith)) (λ v. keeps_same _))))

  pub short-up : (at r s : ℕ) → r ≤ s → Keeps (default_run_ends text type at r) (default_run_ends text type at s)
  unfolding default_run_ends
  short-up at r s h =
      keeps-if (eqb (role_at text at) 2) _ _ _ _
      (keeps-bind _ _ _ _ (default-up run_ends at r s h) (λ t. keeps_then (need text comma t.next) _ _ (λ c.
      keeps-bind _ _ _ _ (default-up values c.next (r - rows_in t) (s - rows_in t) (omega arith)) (λ v. keeps_same _))))
      (keeps_same _)

  pub run-end-fields-up : (at r s : ℕ) → r ≤ s → Keeps (run_end_fields text type at r) (run_end_fields text type at s)
  unfolding run_end_fields
  run-end-fields-up at r s h = keeps-if (stands text double_quoted at) _ _ _ _ (named-up at r s h) (short-up at r s h)

  pub entries-up : (at r s : ℕ) → r ≤ s → Keeps (entries_at text type at r) (entries_at text type at s)
  unfolding entries_at
  entries-up at r s h = keeps-bind _ _ _ _ (field-up 0 at r s h) (λ t. keeps_same _)

  pub fixed-field-up : (at r s : ℕ) → r ≤ s → Keeps (fixed_list_field text type at r) (fixed_list_field text type at s)
  unfolding fixed_list_field
  fixed-field-up at r s h =
      keeps-if (stands text x_word at) _ _ _ _
      (keeps_then (need text x_word at) _ _ (λ x. list-field-up x.next r s h))
      (keeps_then (need text comma at) _ _ (λ c. keeps-bind _ _ _ _ (up c.next r s h) (λ t. keeps_same _)))

  pub list_up : (k at r s : ℕ) → r ≤ s → Keeps (list_at text type k at r) (list_at text type k at s)
  unfolding list_at
  list_up k at r s h = keeps_then (need text lparen at) _ _ (λ p. keeps-bind _ _ _ _ (list-field-up p.next r s h) (λ t. keeps_same _))

  pub fixed-list-up : (k at r s : ℕ) → r ≤ s → Keeps (fixed_size_list_at text type k at r) (fixed_size_list_at text type k at s)
  unfolding fixed_size_list_at
  fixed-list-up k at r s h =
      keeps_then (need text lparen at) _ _ (λ p. keeps_then (length_at text p.next) _ _ (λ n.
      keeps-bind _ _ _ _ (fixed-field-up n.next r s h) (λ t. keeps_same _)))

  pub struct-up : (k at r s : ℕ) → r ≤ s → Keeps (struct_at text type k at r) (struct_at text type k at s)
  unfolding struct_at
  struct-up k at r s h =
      keeps_then (need text lparen at) _ _ (λ p.
      keeps-bind _ _ _ _ (items-up (struct_item text type) struct-item-up (suc r) (suc s) p.next r s (omega arith) h) (λ fs. keeps_same _))

  pub union-up : (k at r s : ℕ) → r ≤ s → Keeps (union_at text type k at r) (union_at text type k at s)
  unfolding union_at
  union-up k at r s h =
      keeps_then (need text lparen at) _ _ (λ p. keeps_then (need text union_mode p.next) _ _ (λ m.
      keeps-bind _ _ _ _ (items-up (union_item text type) union-item-up (suc r) (suc s) m.next r s (omega arith) h) (λ fs. keeps_same _)))

  pub dictionary-up : (k at r s : ℕ) → r ≤ s → Keeps (dictionary_at text type k at r) (dictionary_at text type k at s)
  unfolding dictionary_at
  dictionary-up k at r s h =
      keeps_then (need text lparen at) _ _ (λ p. keeps-bind _ _ _ _ (up p.next r s h) (λ t. keeps_then (need text comma t.next) _ _ (λ c.
      keeps-bind _ _ _ _ (up c.next (r - rows_in t) (s - rows_in t) (omega arith)) (λ v. keeps_same _))))

  pub map-up : (k at r s : ℕ) → r ≤ s → Keeps (map_at text type k at r) (map_at text type k at s)
  unfolding map_at
  map-up k at r s h = keeps_then (need text lparen at) _ _ (λ p. keeps-bind _ _ _ _ (entries-up p.next r s h) (λ t. keeps_same _))

  pub run-end-up : (k at r s : ℕ) → r ≤ s → Keeps (run_end_encoded_at text type k at r) (run_end_encoded_at text type k at s)
  unfolding run_end_encoded_at
  run-end-up k at r s h = keeps_then (need text lparen at) _ _ (λ p. keeps-bind _ _ _ _ (run-end-fields-up p.next r s h) (λ fs. keeps_same _))

  pub shape-up : (sh : Shape) (k at r s : ℕ) → r ≤ s → Keeps (shape_at text type sh k at r) (shape_at text type sh k at s)
  unfolding shape_at
  shape-up leaf k at r s h = keeps_same _
  shape-up timestamp k at r s h = keeps_same _
  shape-up time k at r s h = keeps_same _
  shape-up interval k at r s h = keeps_same _
  shape-up fixed k at r s h = keeps_same _
  shape-up list k at r s h = list_up k at r s h
  shape-up fixed_list k at r s h = fixed-list-up k at r s h
  shape-up struct k at r s h = struct-up k at r s h
  shape-up union k at r s h = union-up k at r s h
  shape-up dictionary k at r s h = dictionary-up k at r s h
  shape-up decimal k at r s h = keeps_same _
  shape-up mapping k at r s h = map-up k at r s h
  shape-up run_end_encoded k at r s h = run-end-up k at r s h

  pub with-up : (at r s : ℕ) → r ≤ s → Keeps (type_with text type at r) (type_with text type at s)
  unfolding type_with
  with-up at zero s h = keeps-four _ _
  with-up at (suc r) zero h = absurd (omega arith)
  with-up at (suc r) (suc s) h = keeps_then (need text type_word at) _ _ (λ t. shape-up (shape_of (value_of t.kind)) (value_of t.kind) t.next r s (omega arith))

-- ---- a whole text

pub type_up : (text : List ℕ) (level at r s : ℕ) → r ≤ s → Keeps (type_at text level at r) (type_at text level at s)
unfolding type_at
type_up text zero at r s h = keeps_same _
type_up text (suc level) at r s h = with-up text (λ a k. type_at text level a k) (type_up text level) at r s h

pub first_up : (text : List ℕ) (r s : ℕ) → r ≤ s → Keeps (first_type text r) (first_type text s)
unfolding first_type
first_up text r s h = keeps-if (leb (length text) 16384) _ _ _ _ (keeps-if (is_utf8 text) _ _ _ _ (type_up text 64 0 r s h) (keeps_same _)) (keeps_same _)

pub parse_up : (text : List ℕ) (r s : ℕ) → r ≤ s → Keeps (parse text r) (parse text s)
unfolding parse
parse_up text r s h = keeps-bind _ _ _ _ (first_up text r s h) (λ t. keeps_same _)

-- A text accepted with some rows lent is accepted with more, with the same tree.
pub more_rows : (text : List ℕ) (r s : ℕ) (tree : Forest Row) → r ≤ s → parse text r ≡ done tree → parse text s ≡ done tree
more_rows text r s tree h e = kept (parse text r) (parse text s) (parse_up text r s h) e
  where
    kept : (o p : Out (Forest Row)) → Keeps o p → o ≡ done tree → p ≡ done tree
    kept o p k q = unfold Keeps in (rw q at k)

-- A text refused with some rows lent for another reason than the lack of rows is refused with more, for the same reason.
pub same_refusal : (text : List ℕ) (r s : ℕ) (x : Refusal) → r ≤ s → (x.number ≡ 4 → ⊥) → parse text r ≡ refused x → parse text s ≡ refused x
same_refusal text r s x h n e = kept (parse text r) (parse text s) (parse_up text r s h) e
  where
    kept : (o p : Out (Forest Row)) → Keeps o p → o ≡ refused x → p ≡ refused x
    kept o p k q = unfold Keeps in ((rw q at k) n)

-- ---- the public reader

-- the first words of a buffer that was filled are the tree's table
pub filled_rows : (n : ℕ) (words : List ℕ) (f : Forest Row) → count f ≡ n → take (row_words * n) (filled words (done f)) ≡ table_of f
filled_rows n words f e =
    ap (λ (k : ℕ). take k (table_of f ++ drop (length (table_of f)) words)) (ap (λ (k : ℕ). row_words * k) (sym e) ∙ sym (length_table f))
    ∙ take-append_seam (table_of f) (drop (length (table_of f)) words)

module _ (before before' : List ℕ) (n : ℕ) where
  abbrev Agrees : Out (Forest Row) → Out (Forest Row) → Type 0
  Agrees o p = (row_count p ≡ done n) × (take (row_words * n) (filled before' p) ≡ take (row_words * n) (filled before o))

  agrees : (o p : Out (Forest Row)) → Keeps o p → row_count o ≡ done n → Agrees o p
  unfolding Keeps
  agrees (refused r) p k e = absurd (let z : ◌≡◌ {A = ℕ} 0 1 = cc in omega arith)
  agrees (done f) p k e =
      let c : count f ≡ n = cc in
      (ap row_count k ∙ e, ap (λ (q : Out (Forest Row)). take (row_words * n) (filled before' q)) k ∙ filled_rows n before' f c ∙ sym (filled_rows n before f c))

-- A text fills so many rows of another buffer too, with the same words.
abbrev pub SameRows : List ℕ → List ℕ → List ℕ → ℕ → Type 0
SameRows text before before' n = (parse_answer text before' ≡ done n) × (take (row_words * n) (parse_rows text before') ≡ take (row_words * n) (parse_rows text before))

-- Lending more rows changes nothing of an accepted text: the answer and the rows are the same.
pub more_lent : (text before before' : List ℕ) (n : ℕ) → rows_lent (length before) ≤ rows_lent (length before') → parse_answer text before ≡ done n
    → SameRows text before before' n
unfolding parse_answer parse_rows
more_lent text before before' n h e = agrees before before' n (parse text (rows_lent (length before))) (parse text (rows_lent (length before'))) (parse_up text (rows_lent (length before)) (rows_lent (length before')) h) e

most_lent : (a b : ℕ) → b ≡ row_words * 1024 → rows_lent a ≤ rows_lent b
unfolding rows_lent
most_lent a b h = omega arith

-- So a text accepted with fewer than 1,024 rows lent is accepted with 1,024, with the same rows.
pub all_lent : (text before before' : List ℕ) (n : ℕ) → length before' ≡ row_words * 1024 → parse_answer text before ≡ done n
    → SameRows text before before' n
all_lent text before before' n h e = more_lent text before before' n (most_lent (length before) (length before') h) e

-- Lending more rows changes nothing of a refused text, but where the rows ran out.
pub refused_lent : (text before before' : List ℕ) (x : Refusal) → rows_lent (length before) ≤ rows_lent (length before') → (x.number ≡ 4 → ⊥)
    → parse_answer text before ≡ refused x → parse_answer text before' ≡ refused x
unfolding parse_answer
refused_lent text before before' x h n e =
    ap row_count (same_refusal text (rows_lent (length before)) (rows_lent (length before')) x h n (no_rows (parse text (rows_lent (length before))) e))
  where
    no_rows : (o : Out (Forest Row)) → row_count o ≡ refused x → o ≡ refused x
    no_rows (refused r) q = cc
    no_rows (done f) q = absurd (let z : ◌≡◌ {A = ℕ} 0 1 = cc in omega arith)
