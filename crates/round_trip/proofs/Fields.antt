-- Fields, read back: a field with a quoted name, a field of a default name, a list's field.
use Rattle.std.specs.Prelude.{if◌then◌else◌}
use mathlib.Core.Path.{◌≡◌, refl, sym, ap, ◌∙◌}
use mathlib.Core.Bool.{Bool, true, false}
use mathlib.Core.List.{List, [], ◌∷◌, ◌++◌, append_assoc}
use Prim.Native.Nat.{ℕ, suc, ◌+◌, ◌≤◌}
use lib.ListN.{drop}
use lib.Dec.{T}
use Rattle.tokenizer.specs.Text.{bytes, same}
use Rattle.tokenizer.specs.Answer.{Out, done}
use Rattle.tokenizer.specs.Words.{words}
use Rattle.tokenizer.specs.Token.{Standing, is_separator, is_digit, token_at, sort_of, double_quoted, single_quoted, comma, field_word}
use Rattle.tokenizer.proofs.Basics.{skip, of_true}
use Rattle.tokenizer.proofs.Listed.{same_path}
use Rattle.datatype.specs.Tree.{Forest, count, Label, name_list, name_of, part}
use Rattle.row_table.specs.Sound.{is_name}
use Rattle.parser.specs.Parse.{Name, Tree, item, text_name, field_row, role_at, after_role, list_name_at, field_at, default_field, list_field}
use Rattle.display_length.specs.Display.{Shown, quoted, nullity_text, field_text, list_name_text, list_field_text, type_text, shown}
use Rattle.display_length.specs.declared.words.Spelling.{Spelling}
use Rattle.round_trip.specs.Plain.{is_plain_text}
use Rattle.round_trip.proofs.Tokens.{Stop, is_listed_word, is_word_of, word_is}
use Rattle.round_trip.proofs.PlainRows.{FieldRow, bare_label}
use Rattle.round_trip.proofs.Pieces.{Look, look-space, need-comma, need-colon, rparen-stands, comma-stands, Found, found_word, need-found, Quoted, need-quoted, double-read, single-read}
use Rattle.round_trip.proofs.Types.{TreeRead, ReadsTree, RoleRead, role-read, as_field}

-- a tree with its printed type
abbrev pub shown_tree : Spelling → Label → Forest Label → Shown
shown_tree spelling l kids = record { label = l; text = type_text spelling l (shown spelling kids) }

module _ (text : List ℕ) (type : ℕ → ℕ → Out Tree) where
  -- ---- "name": [non-null ]type

  pub record FieldRead (id : ℕ) (l : Label) (kids : Forest Label) (at rows : ℕ) (rest : List ℕ) : Type 0 where
    pub first : sort_of (token_at text at).kind ≡ double_quoted
    pub tree : TreeRead text (field_at text type id at rows) l kids rest

  -- the role is what the label says, and the field is read
  pub record DefaultRead (n : Name) (l : Label) (kids : Forest Label) (at rows : ℕ) (rest : List ℕ) : Type 0 where
    pub role : role_at text at ≡ l.role
    pub tree : TreeRead text (default_field text type n at rows) l kids rest

module _ (spelling : Spelling) (text : List ℕ) (type : ℕ → ℕ → Out Tree) where
  -- ---- "name": [non-null ]type

  field_step : (id : ℕ) (l : Label) (kids : Forest Label) (at rows : ℕ) (t rest : List ℕ) → id ≡ l.union_id → (q : Quoted text double_quoted at l.name (58 ∷ t))
      → RoleRead spelling text l kids (q.token.next + 1) rest → TreeRead text (type (after_role text (q.token.next + 1)) rows) (bare_label l) kids rest
      → FieldRead text type id l kids at rows rest
  unfolding field_at name_of
  field_step id l kids at rows t rest i q r g =
      record {
        first = ap (λ (x : Standing). sort_of x.kind) q.found ∙ q.sort;
        tree = record {
          got = record { row = field_row (role_at text (q.token.next + 1)) id (text_name q.token) g.got.row; kids = g.got.kids; next = g.got.next };
          reads = rw (need-quoted text double_quoted at l.name (58 ∷ t) q, need-colon text q.token.next t q.after, g.reads);
          after = g.after;
          row = as_field text l g.got.row (role_at text (q.token.next + 1)) id (text_name q.token) g.row r.role i q.bytes;
          below = g.below;
        };
      }

  pub field-read : (id : ℕ) (l : Label) (kids : Forest Label) (at p rows : ℕ) (rest : List ℕ) → ReadsTree spelling text type l kids → FieldRow l → id ≡ l.union_id → Stop rest
      → suc (count kids) ≤ rows → Look text at p (field_text (shown_tree spelling l kids) ++ rest) → FieldRead text type id l kids at rows rest
  unfolding field_text
  field-read id l kids at p rows rest rd f i st enough k = named (double-read text at p l.name (58 ∷ 32 ∷ tail) f.name f.plain (rw e at k))
    where
      tail : List ℕ
      tail = nullity_text l ++ (type_text spelling l (shown spelling kids) ++ rest)

      e : field_text (shown_tree spelling l kids) ++ rest ≡ quoted l.name ++ (58 ∷ 32 ∷ tail)
      e =
          append_assoc (quoted l.name) _ rest
          ∙ ap (λ (r : List ℕ). quoted l.name ++ (58 ∷ 32 ∷ r)) (append_assoc (nullity_text l) (type_text spelling l (shown spelling kids)) rest)

      typed : (q : Quoted text double_quoted at l.name (58 ∷ 32 ∷ tail)) → RoleRead spelling text l kids (q.token.next + 1) rest → FieldRead text type id l kids at rows rest
      typed q r = field_step id l kids at rows (32 ∷ tail) rest i q r (rd (after_role text (q.token.next + 1)) rows rest r.type enough)

      named : Quoted text double_quoted at l.name (58 ∷ 32 ∷ tail) → FieldRead text type id l kids at rows rest
      named q =
          typed q (role-read spelling text l kids (q.token.next + 1) (q.token.next + 1 + 1) rest f.kind st f.role
          (look-space text (q.token.next + 1) tail (skip 1 q.token.next text (58 ∷ 32 ∷ tail) q.after)))

  -- ---- [non-null ]type, as a field of a default name

  default-step : (n : Name) (l : Label) (kids : Forest Label) (at rows : ℕ) (rest : List ℕ) → 0 ≡ l.union_id
      → name_of text name_list n.home n.start n.size ≡ l.name → RoleRead spelling text l kids at rest
      → TreeRead text (type (after_role text at) rows) (bare_label l) kids rest → TreeRead text (default_field text type n at rows) l kids rest
  unfolding default_field
  default-step n l kids at rows rest i b r t =
      record {
        got = record { row = field_row (role_at text at) 0 n t.got.row; kids = t.got.kids; next = t.got.next };
        reads = rw t.reads;
        after = t.after;
        row = as_field text l t.got.row (role_at text at) 0 n t.row r.role i b;
        below = t.below;
      }

  pub default-read : (n : Name) (l : Label) (kids : Forest Label) (at p rows : ℕ) (rest : List ℕ) → ReadsTree spelling text type l kids → FieldRow l → l.union_id ≡ 0 → Stop rest
      → name_of text name_list n.home n.start n.size ≡ l.name → suc (count kids) ≤ rows
      → Look text at p (nullity_text l ++ (type_text spelling l (shown spelling kids) ++ rest)) → DefaultRead text type n l kids at rows rest
  default-read n l kids at p rows rest rd f i st b enough k = typed (role-read spelling text l kids at p rest f.kind st f.role k)
    where
      typed : RoleRead spelling text l kids at rest → DefaultRead text type n l kids at rows rest
      typed r = record { role = r.role; tree = default-step n l kids at rows rest (sym i) b r (rd (after_role text at) rows rest r.type enough) }

  -- ---- a list's field: [non-null ]type[, field: 'name']

  record NameRead (name : List ℕ) (at : ℕ) (rest : List ℕ) : Type 0 where
    token : Standing
    reads : list_name_at text at ≡ done token
    bytes : part text token.start token.size ≡ name
    after : drop token.next text ≡ rest

  name-step : (name : List ℕ) (at : ℕ) (t rest : List ℕ) → (f : Found text field_word 0 at (58 ∷ t)) → Quoted text single_quoted (f.token.next + 1) name rest → NameRead name at rest
  unfolding list_name_at
  name-step name at t rest f q =
      record {
        token = q.token;
        reads = rw (need-found text field_word 0 at (58 ∷ t) f, need-colon text f.token.next t f.after, need-quoted text single_quoted (f.token.next + 1) name rest q);
        bytes = q.bytes;
        after = q.after;
      }

  name-read : (name : List ℕ) (at : ℕ) (rest : List ℕ) → T (is_name name) → T (is_plain_text name)
      → drop at text ≡ 32 ∷ (bytes "field: '" ++ (name ++ (39 ∷ rest))) → NameRead name at rest
  unfolding is_word_of is_listed_word words is_separator is_digit
  name-read name at rest h pl e =
      worded (found_word text field_word 0 at (at + 1) (bytes "field") (58 ∷ 32 ∷ tail) (word_is field_word 0 (bytes "field") tt) tt (look-space text at _ e))
    where
      tail : List ℕ
      tail = 39 ∷ (name ++ (39 ∷ rest))

      worded : Found text field_word 0 at (58 ∷ 32 ∷ tail) → NameRead name at rest
      worded f =
          name-step name at (32 ∷ tail) rest f
          (single-read text (f.token.next + 1) (f.token.next + 1 + 1) name rest h pl (look-space text (f.token.next + 1) tail (skip 1 f.token.next text (58 ∷ 32 ∷ tail) f.after)))

  abbrev name_text : Bool → List ℕ → List ℕ
  name_text b name = if b then [] else (bytes ", field: '" ++ (name ++ bytes "'"))

  module _ (l : Label) (kids : Forest Label) (at rows : ℕ) (i : l.union_id ≡ 0) where
    -- the name is left out: it is `item`
    name_out : (s : List ℕ) → T (same l.name (bytes "item")) → RoleRead spelling text l kids at (41 ∷ s)
        → TreeRead text (type (after_role text at) rows) (bare_label l) kids (41 ∷ s) → TreeRead text (list_field text type at rows) l kids (41 ∷ s)
    unfolding list_field name_of
    name_out s h r t = whole (default-step item l kids at rows (41 ∷ s) (sym i) (sym (same_path l.name (bytes "item") h)) r t)
      where
        whole : TreeRead text (default_field text type item at rows) l kids (41 ∷ s) → TreeRead text (list_field text type at rows) l kids (41 ∷ s)
        whole g =
            record {
              got = g.got;
              reads = rw (g.reads, rparen-stands text g.got.next s comma g.after);
              after = g.after;
              row = g.row;
              below = g.below;
            }

    name-given : (t rest : List ℕ) → RoleRead spelling text l kids at (44 ∷ t) → (g : TreeRead text (type (after_role text at) rows) (bare_label l) kids (44 ∷ t))
        → NameRead l.name (g.got.next + 1) rest → TreeRead text (list_field text type at rows) l kids rest
    unfolding list_field default_field name_of
    name-given t rest r g n =
        record {
          got = record { row = field_row (role_at text at) 0 (text_name n.token) g.got.row; kids = g.got.kids; next = n.token.next };
          reads = rw (g.reads, comma-stands text g.got.next t comma g.after, need-comma text g.got.next t g.after, n.reads);
          after = n.after;
          row = as_field text l g.got.row (role_at text at) 0 (text_name n.token) g.row r.role (sym i) n.bytes;
          below = g.below;
        }

  name-stop : (b : Bool) (name s : List ℕ) → Stop (name_text b name ++ (41 ∷ s))
  unfolding is_separator
  name-stop true name s = tt
  name-stop false name s = tt

  list-named : (l : Label) (kids : Forest Label) (at rows : ℕ) (s : List ℕ) → l.union_id ≡ 0 → FieldRow l → (b : Bool) → same l.name (bytes "item") ≡ b
      → RoleRead spelling text l kids at (name_text b l.name ++ (41 ∷ s)) → TreeRead text (type (after_role text at) rows) (bare_label l) kids (name_text b l.name ++ (41 ∷ s))
      → TreeRead text (list_field text type at rows) l kids (41 ∷ s)
  list-named l kids at rows s i f true q r t = name_out l kids at rows i s (of_true _ q) r t
  list-named l kids at rows s i f false q r t =
      name-given l kids at rows i _ (41 ∷ s) r t
      (name-read l.name (t.got.next + 1) (41 ∷ s) f.name f.plain
      (skip 1 t.got.next text _ t.after ∙ ap (λ (x : List ℕ). 32 ∷ (bytes "field: '" ++ x)) (append_assoc l.name (39 ∷ []) (41 ∷ s))))

  pub list-field-read : (l : Label) (kids : Forest Label) (at p rows : ℕ) (s : List ℕ) → ReadsTree spelling text type l kids → FieldRow l → l.union_id ≡ 0
      → suc (count kids) ≤ rows → Look text at p (list_field_text (shown_tree spelling l kids) ++ (41 ∷ s)) → TreeRead text (list_field text type at rows) l kids (41 ∷ s)
  unfolding list_field_text list_name_text
  list-field-read l kids at p rows s rd f i enough k =
      typed (role-read spelling text l kids at p mid f.kind (name-stop (same l.name (bytes "item")) l.name s) f.role (rw e at k))
    where
      mid : List ℕ
      mid = name_text (same l.name (bytes "item")) l.name ++ (41 ∷ s)

      e : list_field_text (shown_tree spelling l kids) ++ (41 ∷ s) ≡ nullity_text l ++ (type_text spelling l (shown spelling kids) ++ mid)
      e = append_assoc (nullity_text l) _ (41 ∷ s) ∙ ap (λ (r : List ℕ). nullity_text l ++ r) (append_assoc (type_text spelling l (shown spelling kids)) _ (41 ∷ s))

      typed : RoleRead spelling text l kids at mid → TreeRead text (list_field text type at rows) l kids (41 ∷ s)
      typed r = list-named l kids at rows s i f (same l.name (bytes "item")) refl r (rd (after_role text at) rows mid r.type enough)
