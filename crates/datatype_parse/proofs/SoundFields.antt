-- Fields: where types one level down are read soundly, the fields made of them are sound.
use Rattle.std.specs.Prelude.{if◌then◌else◌}
use mathlib.Core.Path.{◌≡◌, refl}
use mathlib.Core.List.{List, [], ◌∷◌}
use Prim.Native.Nat.{ℕ, zero, suc, ◌-◌}
use lib.ListN.{length}
use lib.Dec.{T, eqb}
use Rattle.tokenizer.specs.Answer.{Out, done}
use Rattle.tokenizer.specs.Utf8.{is_utf8}
use Rattle.tokenizer.specs.Token.{lparen, rparen, comma, colon, double_quoted, x_word}
use Rattle.datatype.specs.Tree.{roots}
use Rattle.row_table.specs.Sound.{Standing, bare, field, union_field, two_children, arity_fits, id_fits}
use Rattle.row_table.specs.Internal.Check.{entries_ok, first_non_null}
use Rattle.parser.specs.Parse.{refuse_last, last_token, Name, item, run_ends, values, text_name, Tree, Fields, rows_in, single, pair, Item, end, last, more, fields_from, items_by, id_of, need, stands, role_at, after_role, signed_byte_at, close_at, list_name_at, field_at, default_field, list_field, struct_item, union_item, named_run_ends, default_run_ends, run_end_fields, entries_at, fixed_list_field}
use Rattle.parser.specs.Parse as P
use Rattle.parser.proofs.Holds.{Holds, holds_last, holds_bind, holds_then, holds_if}
use Rattle.datatype_parse.proofs.TokenFacts.{holds_when, role-some, Part, need-part, list-name-part}
use Rattle.datatype_parse.proofs.SoundRows.{is_field, ids_allow, field_id, union_id_lem, Found, found-text, Fits, Typed, fits-none, fits_more, fits-field}

module _ (text : List ℕ) (level : ℕ) where
  -- ---- fields turn by turn

  abbrev pub Turn : Standing → ℕ → Item → Type 0
  Turn place rows (end next) = Unit {0}
  Turn place rows (last t next) = Typed text place level rows t
  Turn place rows (more t next) = Typed text place level rows t

  abbrev pub Run : Standing → ℕ → Fields → Type 0
  Run place rows fs = Fits text place level rows fs.trees

  turn-sound : (place : Standing) (go : ℕ → ℕ → Out Fields) (rows : ℕ) → ((next k : ℕ) → Holds (Run place (rows - k)) (go next (rows - k)))
      → (i : Item) → Turn place rows i → Holds (Run place rows) (fields_from go rows i)
  turn-sound place go rows h (end next) w = fits-none text place level rows
  turn-sound place go rows h (last t next) w = w
  turn-sound place go rows h (more t next) w =
      holds_then (Run place (rows - rows_in t)) (Run place rows) (go next (rows - rows_in t)) _ (h next (rows_in t)) λ fs b.
      fits_more text place level rows t.row t.kids fs.trees w b

  pub items-sound : (place : Standing) (turn : ℕ → ℕ → Out Item) → ((at rows : ℕ) → Holds (Turn place rows) (turn at rows))
      → (most at rows : ℕ) → Holds (Run place rows) (items_by turn most at rows)
  unfolding items_by
  items-sound place turn h zero at rows = tt
  items-sound place turn h (suc most) at rows =
      holds_then (Turn place rows) (Run place rows) (turn at rows) _ (h at rows)
      (turn-sound place (items_by turn most) rows (λ next k. items-sound place turn h most next (rows - k)))

  -- ---- pairs of fields, and Map's entries

  -- RunEndEncoded's two fields, the first non-null
  pub record RunEnds (rows : ℕ) (fs : Fields) : Type 0 where
    pub fits : Fits text field level rows fs.trees
    pub two : T (arity_fits two_children (length (roots fs.trees)))
    pub first : T (first_non_null fs.trees)

  pub run-ends-pair : (rows : ℕ) (r v : Tree) (next : ℕ) → T (eqb r.row.role 2) → Typed text field level rows r → Typed text field level (rows - rows_in r) v
      → RunEnds rows (record { trees = pair r v; next = next })
  unfolding arity_fits
  run-ends-pair rows r v next t a b = record { fits = fits_more text field level rows r.row r.kids (single v) a b; two = tt; first = t }

  abbrev pub Entries : ℕ → Tree → Type 0
  Entries rows t = Typed text field level rows t × T (entries_ok (single t))

module _ (text : List ℕ) (good : T (is_utf8 text)) (level : ℕ) (type : ℕ → ℕ → Out Tree) (down : (at rows : ℕ) → Holds (Typed text bare level rows) (type at rows)) where
  field-sound : (place : Standing) (id at rows : ℕ) → T (is_field place) → (T (ids_allow place (id ∷ [])) → T (id_fits place id))
      → Holds (Typed text place level rows) (field_at text type id at rows)
  unfolding field_at
  field-sound place id at rows p i =
      holds_then (Part text good) (Typed text place level rows) (need text double_quoted at) _ (need-part text good double_quoted at tt) λ s h.
      holds_bind (Typed text place level rows) (need text colon s.next) _ λ c.
      holds_then (Typed text bare level rows) (Typed text place level rows) (type (after_role text c.next) rows) _ (down (after_role text c.next) rows) λ t w.
      fits-field text bare place level rows t.row t.kids (role_at text c.next) id (text_name s) tt p (role-some text c.next) i (found-text text s.start s.size h) w

  plain-field : (at rows : ℕ) → Holds (Typed text field level rows) (field_at text type 0 at rows)
  plain-field at rows = field-sound field 0 at rows tt (field_id 0 refl)

  -- a field of a name of the name list, with the role that stands there
  abbrev Default : ℕ → ℕ → Tree → Type 0
  Default at rows t = Typed text field level rows t × (t.row.role ≡ role_at text at)

  default-sound : (n : Name) (at rows : ℕ) → T (Found text n) → Holds (Default at rows) (default_field text type n at rows)
  unfolding default_field
  default-sound n at rows f =
      holds_then (Typed text bare level rows) (Default at rows) (type (after_role text at) rows) _ (down (after_role text at) rows) λ t w.
      (fits-field text bare field level rows t.row t.kids (role_at text at) 0 n tt tt (role-some text at) (field_id 0 refl) f w, refl)

  pub list-field-sound : (at rows : ℕ) → Holds (Typed text field level rows) (list_field text type at rows)
  unfolding list_field
  list-field-sound at rows =
      holds_then (Default at rows) (Typed text field level rows) (default_field text type item at rows) _ (default-sound item at rows tt) λ t w.
      holds_if (Typed text field level rows) (stands text comma t.next) _ _
      (holds_bind (Typed text field level rows) (need text comma t.next) _ λ c.
      holds_then (Part text good) (Typed text field level rows) (list_name_at text c.next) _ (list-name-part text good c.next) λ s h.
      fits-field text field field level rows t.row t.kids t.row.role 0 (text_name s) tt tt (rw w.1 (role-some text at)) (field_id 0 refl) (found-text text s.start s.size h) w.0)
      w.0

  pub fixed-field-sound : (at rows : ℕ) → Holds (Typed text field level rows) (fixed_list_field text type at rows)
  unfolding fixed_list_field
  fixed-field-sound at rows =
      holds_if (Typed text field level rows) (stands text x_word at) _ _
      (holds_bind (Typed text field level rows) (need text x_word at) _ λ x. list-field-sound x.next rows)
      (holds_bind (Typed text field level rows) (need text comma at) _ λ c.
      holds_then (Typed text bare level rows) (Typed text field level rows) (type c.next rows) _ (down c.next rows) λ t w.
      fits-field text bare field level rows t.row t.kids 1 0 item tt tt tt (field_id 0 refl) tt w)

  -- ---- fields turn by turn

  pub struct-item-sound : (at rows : ℕ) → Holds (Turn text level field rows) (struct_item text type at rows)
  unfolding struct_item
  struct-item-sound at rows =
      holds_if (Turn text level field rows) (stands text rparen at) _ _
      (holds_bind (Turn text level field rows) (need text rparen at) _ λ c. tt)
      (holds_then (Typed text field level rows) (Turn text level field rows) (field_at text type 0 at rows) _ (plain-field at rows) λ t w.
      holds_if (Turn text level field rows) (stands text comma t.next) _ _
      (holds_bind (Turn text level field rows) (need text comma t.next) _ λ c. w)
      (holds_bind (Turn text level field rows) (need text rparen t.next) _ λ c. w))

  union-field-sound : (at rows : ℕ) → Holds (Typed text union_field level rows) (P.union_field text type at rows)
  unfolding P.union_field close_at
  union-field-sound at rows =
      holds_bind (Typed text union_field level rows) (signed_byte_at text at) _ λ i.
      holds_bind (Typed text union_field level rows) (need text colon i.next) _ λ c.
      holds_bind (Typed text union_field level rows) (need text lparen c.next) _ λ p.
      holds_then (Typed text union_field level rows) (Typed text union_field level rows) (field_at text type (id_of i.kind) p.next rows) _
      (field-sound union_field (id_of i.kind) p.next rows tt (union_id_lem (id_of i.kind))) λ t w.
      holds_bind (Typed text union_field level rows) (need text rparen t.next) _ λ e. w

  pub union-item-sound : (at rows : ℕ) → Holds (Turn text level union_field rows) (union_item text type at rows)
  unfolding union_item
  union-item-sound at rows =
      holds_if (Turn text level union_field rows) (stands text rparen at) _ _
      (holds_bind (Turn text level union_field rows) (need text rparen at) _ λ c. tt)
      (holds_bind (Turn text level union_field rows) (need text comma at) _ λ c.
      holds_then (Typed text union_field level rows) (Turn text level union_field rows) (P.union_field text type c.next rows) _ (union-field-sound c.next rows) λ t w. w)

  -- ---- run ends, and Map's entries

  named-sound : (at rows : ℕ) → Holds (RunEnds text level rows) (named_run_ends text type at rows)
  unfolding named_run_ends
  named-sound at rows =
      holds_then (Typed text field level rows) (RunEnds text level rows) (field_at text type 0 at rows) _ (plain-field at rows) λ r a.
      holds_then (λ (s : Tree). T (eqb r.row.role 2)) (RunEnds text level rows) (if eqb r.row.role 2 then done r else refuse_last 13 (last_token text at r.row.kind r.next)) _
      (holds_when (λ (s : Tree). T (eqb r.row.role 2)) (eqb r.row.role 2) (done r) _ (λ t. t) (holds_last _ _ _)) λ s t.
      holds_bind (RunEnds text level rows) (need text comma s.next) _ λ c.
      holds_then (Typed text field level (rows - rows_in r)) (RunEnds text level rows) (field_at text type 0 c.next (rows - rows_in r)) _ (plain-field c.next (rows - rows_in r)) λ v b.
      run-ends-pair text level rows r v v.next t a b

  short-sound : (at rows : ℕ) → Holds (RunEnds text level rows) (default_run_ends text type at rows)
  unfolding default_run_ends
  short-sound at rows =
      holds_when (RunEnds text level rows) (eqb (role_at text at) 2) _ _
      (λ t. holds_then (Default at rows) (RunEnds text level rows) (default_field text type run_ends at rows) _ (default-sound run_ends at rows tt) λ r a.
      holds_bind (RunEnds text level rows) (need text comma r.next) _ λ c.
      holds_then (Default c.next (rows - rows_in r)) (RunEnds text level rows) (default_field text type values c.next (rows - rows_in r)) _ (default-sound values c.next (rows - rows_in r) tt) λ v b.
      run-ends-pair text level rows r v v.next (rw a.1 t) a.0 b.0) tt

  pub run-ends-sound : (at rows : ℕ) → Holds (RunEnds text level rows) (run_end_fields text type at rows)
  unfolding run_end_fields
  run-ends-sound at rows = holds_if (RunEnds text level rows) (stands text double_quoted at) _ _ (named-sound at rows) (short-sound at rows)

  pub entries-sound : (at rows : ℕ) → Holds (Entries text level rows) (entries_at text type at rows)
  unfolding entries_at
  entries-sound at rows =
      holds_then (Typed text field level rows) (Entries text level rows) (field_at text type 0 at rows) _ (plain-field at rows) λ t w.
      holds_when (Entries text level rows) (entries_ok (single t)) (done t) _ (λ e. (w, e)) (holds_last _ _ _)
