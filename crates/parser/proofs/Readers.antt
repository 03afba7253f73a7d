-- Each return of a reader as a law: what the calls before it gave, and what the return has to show.
use Rattle.std.specs.Prelude.{if◌then◌else◌, Ok, Err}
use mathlib.Core.Path.{◌≡◌, refl, sym, ap, ◌∙◌, subst}
use mathlib.Core.Bool.{Bool, true, false}
use lib.IntN.{ℤ}
use Rattle.parser.proofs.Values.{scale-is}
use mathlib.Core.List.{List, ◌++◌}
use Prim.Native.Nat.{ℕ, suc, ◌+◌, ◌*◌, ◌-◌, ◌≤◌}
use native.Mathlib.Omega.{arith}
use lib.ListN.{length}
use Rattle.std.specs.Result.{IsErrAnd}
use Rattle.tokenizer.specs.Answer.{Refusal, Out, refused, done, refuse_at, ◌>>=◌}
use Rattle.tokenizer.specs.declared.refusal.Refusal.TheVariants.{WrongDecimal}
use Rattle.parser.specs.Answer.{refusal_in, read_answer}
use Rattle.parser.specs.declared.error.ReadError.{ReadError}
use Rattle.parser.specs.declared.Extent.{Extent}
use Rattle.parser.specs.declared.ReadValue.{ReadValue}
use Rattle.tokenizer.specs.Token.{Standing, value_of, lparen, rparen, comma, colon, double_quoted, single_quoted, time_unit, interval_unit, field_word}
use Rattle.tokenizer.specs.declared.TokenKind.{TokenKind}
use Rattle.datatype.specs.Kind.{decimal_fits}
use Rattle.datatype.specs.Tree.{Forest, ∅, node, count, Row}
use Rattle.datatype.specs.Table.{row_words, words_of}
use Rattle.parser.specs.Parse.{Name, Tree, Fields, item, bare_row, field_row, scale_of, need, unit_at, length_at, time_at, interval_at, fixed_size_binary_at, stands, role_at, after_role, number_in, close_at, zone_at, timestamp_at, scale_at, decimal_at, list_name_at, field_at, default_field, list_field}
use Rattle.parser.specs.Internal.Steps.{word_of, integer_of, integer_kind, extent, rows_left, Stored, Meets, Put, Closed, FieldWords, MeetsFields}
use Rattle.parser.proofs.Stores.{further, rows_from, with_rows, left_behind, follows, in_front, alone, as_field}
use Rattle.parser.proofs.Matched.{Read, handed_on, behind, string, GotWord, GotTree, got_word, got_integer, got-tree, lost-tree, got-fields}

-- ---- refusals, and rows

module _ (before after : List ℕ) where
  pub meets-refused : (o : Out Tree) (e : ReadError) → o ≡ refused (refusal_in e) → Meets o before (Err e) after
  unfolding Meets
  meets-refused o e w = rw w refl

  -- a refusal is handed on
  pub meets-handed : (o : Out Tree) (a : Read) (x : Refusal) → read_answer a ≡ refused x → o ≡ refused x → Meets o before a after
  unfolding Meets
  meets-handed o a x f e = rw e f

  pub meets-lost : (o : Out Tree) (a : Read) (e : ReadError) → IsErrAnd a (λ y. y ≡ e) → o ≡ refused (refusal_in e) → Meets o before a after
  meets-lost o a e h w = meets-handed o a (refusal_in e) (handed_on a e h) w

  pub meets-done : (o : Out Tree) (r : Row) (kids : Forest Row) (n k : ℕ) → o ≡ done (record { row = r; kids = kids; next = n }) → k ≡ suc (count kids)
      → Stored (node r kids ∅) before after → Meets o before (Ok (extent n k)) after
  unfolding Meets
  meets-done o r kids n k e f s = rw e (ap (λ (i : ℕ). Ok (extent n i)) f, s)

  -- a row that was written, with its children's or alone
  pub meets-put : (o : Out Tree) (r : Row) (kids : Forest Row) (n used : ℕ) (a : Extent) (row : List ℕ) → o ≡ done (record { row = r; kids = kids; next = n }) → used ≡ count kids
      → Put n used r a row → (row ≡ words_of r (used + 1) → Stored (node r kids ∅) before after) → Meets o before (Ok a) after
  meets-put o r kids n used a row e u w s =
      subst (λ (x : Extent). Meets o before (Ok x) after) (sym w.0) (meets-done o r kids n (used + 1) e (omega arith) (s w.1))

  -- more rows behind stay as they were
  pub meets-further : (o : Out Tree) (a : Read) (rest : List ℕ) → Meets o before a after → Meets o (before ++ rest) a (after ++ rest)
  unfolding Meets
  meets-further (refused x) a rest m = m
  meets-further (done t) a rest m = (m.0, further (node t.row t.kids ∅) before after m.1 rest)

module _ (used : ℕ) (r : Row) (row : List ℕ) (o : Out Standing) where
  pub closed-lost : (a : Read) (x : Refusal) → read_answer a ≡ refused x → o ≡ refused x → Closed o used r a row
  unfolding Closed
  closed-lost a x h w = rw w h

  pub closed-done : (a : Extent) (t : Standing) (n : ℕ) → o ≡ done (behind t n) → Put n used r a row → Closed o used r (Ok a) row
  unfolding Closed
  closed-done a t n e w = rw e (ap (λ (x : Extent). Ok x) w.0, w.1)

-- a type whose closing mark was read, or is missing
closes : (text : List ℕ) (r : Row) (kids : Forest Row) (at used : ℕ) (row before after : List ℕ) (a : Read) → used ≡ count kids
    → (row ≡ words_of r (used + 1) → Stored (node r kids ∅) before after) → Closed (need text rparen at) used r a row → Meets (close_at text r kids at) before a after
unfolding close_at
closes text r kids at used row before after a u s = go (need text rparen at)
  where
    go : (o : Out Standing) → Closed o used r a row → Meets (o >>= (λ c. done (record { row = r; kids = kids; next = c.next }))) before a after
    go (refused x) h = unfold Closed Meets in h
    go (done t) h = unfold Closed Meets in (h.0 ∙ ap (λ (i : ℕ). Ok (extent t.next i)) (omega arith), s h.1)

-- where its children's rows stand behind its own, and where it has none
pub closes-over : (text : List ℕ) (r : Row) (kids : Forest Row) (at used : ℕ) (row row₂ before mid : List ℕ) (a : Read) → length row ≡ row_words → Stored kids before mid → used ≡ count kids
    → Closed (need text rparen at) used r a row₂ → Meets (close_at text r kids at) (row ++ before) a (row₂ ++ mid)
closes-over text r kids at used row row₂ before mid a l s u =
    closes text r kids at used row₂ (row ++ before) (row₂ ++ mid) a u (in_front r kids row row₂ before mid (used + 1) l s (omega arith))

pub closes-alone : (text : List ℕ) (r : Row) (at : ℕ) (row row₂ : List ℕ) (a : Read) → length row ≡ row_words → Closed (need text rparen at) 0 r a row₂ → Meets (close_at text r ∅ at) row a row₂
closes-alone text r at row row₂ a l = closes text r ∅ at 0 row₂ row row₂ a refl (alone r row row₂ l)

-- ---- room

-- a type that was read fills one row or more, and no more than are left
pub read_most : (o : Out Tree) (e : Extent) (before after : List ℕ) → Meets o before (Ok e) after → row_words * e.used ≤ length before
read_most o e before after h = let g = got-tree before after o e h in let u = g.rows in let m = g.stored.room in omega arith

pub read_some : (o : Out Tree) (e : Extent) (before after : List ℕ) → Meets o before (Ok e) after → 1 ≤ e.used
read_some o e before after h = let g = got-tree before after o e h in let u = g.rows in omega arith

-- and so do some fields
pub read_fields_most : (o : Out Fields) (e : Extent) (before after : List ℕ) → MeetsFields o before (Ok e) after → row_words * e.used ≤ length before
read_fields_most o e before after h = let g = got-fields before after o e h in let u = g.rows in let m = g.stored.room in omega arith

-- ---- a tree behind another

-- how many rows are left for it
pub rest_of : (o : Out Tree) (n used left : ℕ) (before mid : List ℕ) (g : GotTree o n used before mid) → left ≡ rows_left before → rows_left (rows_from used mid) ≡ left - suc (count g.kids)
rest_of o n used left before mid g i =
    let u = g.rows in
    left_behind (node g.row g.kids ∅) before mid used (omega arith) g.stored ∙ ap (λ (l : ℕ). l - used) (sym i) ∙ ap (λ (n : ℕ). left - n) g.rows

pub pair_stored : (o₁ o₂ : Out Tree) (n m used k : ℕ) (before mid sub : List ℕ) (g : GotTree o₁ n used before mid) (h : GotTree o₂ m k (rows_from used mid) sub)
    → Stored (node g.row g.kids (node h.row h.kids ∅)) before (with_rows used mid sub)
pair_stored o₁ o₂ n m used k before mid sub g h =
    let u = g.rows in
    follows (node g.row g.kids ∅) before mid used (omega arith) g.stored (node h.row h.kids ∅) sub h.stored

-- ---- types without children

module _ (text : List ℕ) (k at : ℕ) where
  pub timestamp-1 : (x : Refusal) → need text lparen at ≡ refused x → timestamp_at text k at ≡ refused x
  unfolding timestamp_at
  timestamp-1 x e = rw e refl

  pub decimal-1 : (x : Refusal) → need text lparen at ≡ refused x → decimal_at text k at ≡ refused x
  unfolding decimal_at
  decimal-1 x e = rw e refl

  module _ (p : Standing) (a : ℕ) (e : need text lparen at ≡ done (behind p a)) where
    -- Timestamp
    pub timestamp-2 : (x : Refusal) → need text time_unit a ≡ refused x → timestamp_at text k at ≡ refused x
    unfolding timestamp_at
    timestamp-2 x f = rw (e, f) refl

    module _ (u : ReadValue ℕ) (h : done u ≡ word_of (need text time_unit a)) where
      g : GotWord (need text time_unit a) u.value u.next
      g = got_word (need text time_unit a) u h

      pub timestamp-3 : (x : Refusal) → zone_at text u.next ≡ refused x → timestamp_at text k at ≡ refused x
      unfolding timestamp_at
      timestamp-3 x f = rw (e, g.is, f) refl

      timestamp-4 : (s l n : ℕ) → zone_at text u.next ≡ done (record { start = s; size = l; next = n }) → timestamp_at text k at ≡ done (record { row = bare_row k u.value 0 s l; kids = ∅; next = n })
      unfolding timestamp_at
      timestamp-4 s l n f = rw (e, g.is, f) (ap (λ (i : ℕ). done (record { row = bare_row k i 0 s l; kids = ∅; next = n })) g.value)

      pub timestamp-5 : (s l n : ℕ) (row row₂ : List ℕ) (r : Extent) → length row ≡ row_words → zone_at text u.next ≡ done (record { start = s; size = l; next = n }) → Put n 0 (bare_row k u.value 0 s l) r row₂
          → Meets (timestamp_at text k at) row (Ok r) row₂
      timestamp-5 s l n row row₂ r i f w = meets-put row row₂ (timestamp_at text k at) (bare_row k u.value 0 s l) ∅ n 0 r row₂ (timestamp-4 s l n f) refl w (alone (bare_row k u.value 0 s l) row row₂ i)

    pub decimal-2 : (x : Refusal) → number_in text 0 255 a ≡ refused x → decimal_at text k at ≡ refused x
    unfolding decimal_at
    decimal-2 x f = rw (e, f) refl

    module _ (n : ReadValue ℕ) (i : done n ≡ word_of (number_in text 0 255 a)) where
      precision : GotWord (number_in text 0 255 a) n.value n.next
      precision = got_word (number_in text 0 255 a) n i

      pub decimal-3 : (x : Refusal) → need text comma n.next ≡ refused x → decimal_at text k at ≡ refused x
      unfolding decimal_at
      decimal-3 x f = rw (e, precision.is, f) refl

      pub decimal-4 : (c : Standing) (d : ℕ) (before after : List ℕ) (r : Read) → need text comma n.next ≡ done (behind c d) → Meets (scale_at text k n.value d) before r after → Meets (decimal_at text k at) before r after
      unfolding decimal_at
      decimal-4 c d before after r f h = rw (e, precision.is, f, precision.value) h

-- a type of one value: Time32, Time64, Duration, Interval, FixedSizeBinary
abbrev pub value_at : List ℕ → (ℕ → Out Standing) → ℕ → ℕ → Out Tree
value_at text value k at = need text lparen at >>= (λ p. value p.next >>= (λ v. close_at text (bare_row k (value_of v.kind) 0 0 0) ∅ v.next))

module _ (text : List ℕ) (value : ℕ → Out Standing) (k at : ℕ) where
  pub value-1 : (x : Refusal) → need text lparen at ≡ refused x → value_at text value k at ≡ refused x
  value-1 x e = rw e refl

  module _ (p : Standing) (a : ℕ) (e : need text lparen at ≡ done (behind p a)) where
    pub value-2 : (x : Refusal) → value a ≡ refused x → value_at text value k at ≡ refused x
    value-2 x f = rw (e, f) refl

    pub value-3 : (v : ReadValue ℕ) (row row₂ : List ℕ) (r : Read) → length row ≡ row_words → done v ≡ word_of (value a) → Closed (need text rparen v.next) 0 (bare_row k v.value 0 0 0) r row₂ → Meets (value_at text value k at) row r row₂
    value-3 v row row₂ r l w h = let g = got_word (value a) v w in rw (e, g.is, g.value) (closes-alone text (bare_row k v.value 0 0 0) v.next row row₂ r l h)

-- each of them, with its mark that closes it
module _ (text : List ℕ) (k at : ℕ) (p : Standing) (a : ℕ) (e : need text lparen at ≡ done (behind p a)) (v : ReadValue ℕ) (row row₂ : List ℕ) (r : Read) (l : length row ≡ row_words) where
  pub time-3 : done v ≡ word_of (unit_at text k a) → Closed (need text rparen v.next) 0 (bare_row k v.value 0 0 0) r row₂ → Meets (time_at text k at) row r row₂
  unfolding time_at
  time-3 = value-3 text (unit_at text k) k at p a e v row row₂ r l

  pub interval-3 : done v ≡ word_of (need text interval_unit a) → Closed (need text rparen v.next) 0 (bare_row k v.value 0 0 0) r row₂ → Meets (interval_at text k at) row r row₂
  unfolding interval_at
  interval-3 = value-3 text (need text interval_unit) k at p a e v row row₂ r l

  pub fixed-3 : done v ≡ word_of (length_at text a) → Closed (need text rparen v.next) 0 (bare_row k v.value 0 0 0) r row₂ → Meets (fixed_size_binary_at text k at) row r row₂
  unfolding fixed_size_binary_at
  fixed-3 = value-3 text (length_at text) k at p a e v row row₂ r l

-- a decimal's scale
module _ (text : List ℕ) (k v at : ℕ) where
  pub scale-1 : (x : Refusal) → number_in text 128 127 at ≡ refused x → scale_at text k v at ≡ refused x
  unfolding scale_at
  scale-1 x e = rw e refl

  -- it is known, and the closing mark was read or is missing
  module _ (n : ReadValue ℤ) (i : done n ≡ integer_of (number_in text 128 127 at)) (scale : ℕ) (w : scale ≡ scale_of (integer_kind n.value)) (row row₂ : List ℕ) (l : length row ≡ row_words) where
    abbrev closed : Out Tree
    closed = close_at text (bare_row k v scale 0 0) ∅ n.next

    scaled : scale_at text k v at ≡ (closed >>= (λ t. if decimal_fits k v scale then done t else refuse_at 12 (t.next - 1)))
    unfolding scale_at
    scaled =
        let g = got_integer (number_in text 128 127 at) n i in
        let s = w ∙ scale-is _ n.value n.next g in
        rw (g.is, ← s) refl

    pub scale-2 : (x : ReadError) (b : Read) → Closed (need text rparen n.next) 0 (bare_row k v scale 0 0) (Err x) row₂ → IsErrAnd b (λ y. y ≡ x) → Meets (scale_at text k v at) row b row₂
    scale-2 x b c h = meets-handed row row₂ (scale_at text k v at) b (refusal_in x) (handed_on b x h) (scaled ∙ rw (lost-tree row row₂ closed x (closes-alone text (bare_row k v scale 0 0) n.next row row₂ (Err x) l c)))

    module _ (e : Extent) (c : Closed (need text rparen n.next) 0 (bare_row k v scale 0 0) (Ok e) row₂) where
      tree : GotTree closed e.next e.used row row₂
      tree = got-tree row row₂ closed e (closes-alone text (bare_row k v scale 0 0) n.next row row₂ (Ok e) l c)

      pub scale-3 : (fit : Bool) → fit ≡ decimal_fits k v scale → fit ≡ true → Meets (scale_at text k v at) row (Ok e) row₂
      scale-3 fit q z = meets-done row row₂ (scale_at text k v at) tree.row tree.kids e.next e.used (scaled ∙ rw (tree.is, ← q, z)) tree.rows tree.stored

      pub scale-4 : (fit : Bool) → fit ≡ decimal_fits k v scale → fit ≡ false → (place : ℕ) → place ≡ e.next - 1 → Meets (scale_at text k v at) row (Err (record { place = place; refusal = WrongDecimal })) row₂
      unfolding refusal_in
      scale-4 fit q z place i = meets-refused row row₂ (scale_at text k v at) (record { place = place; refusal = WrongDecimal }) (scaled ∙ rw (tree.is, ← q, z, i) refl)

-- ---- fields

module _ (text : List ℕ) (type : ℕ → ℕ → Out Tree) where
  -- "name": [nullability] type
  module _ (id at left : ℕ) where
    pub field-1 : (x : Refusal) → need text double_quoted at ≡ refused x → field_at text type id at left ≡ refused x
    unfolding field_at
    field-1 x e = rw e refl

    module _ (q : Out TokenKind) (s l b : ℕ) (e : need text double_quoted at ≡ done (string q s l b)) where
      pub field-2 : (x : Refusal) → need text colon b ≡ refused x → field_at text type id at left ≡ refused x
      unfolding field_at
      field-2 x f = rw (e, f) refl

      module _ (c : Standing) (d role next : ℕ) (f : need text colon b ≡ done (behind c d)) (ro : role ≡ role_at text d) (ne : next ≡ after_role text d) where
        pub field-3 : (x : Refusal) → type next left ≡ refused x → field_at text type id at left ≡ refused x
        unfolding field_at
        field-3 x g = rw (e, f, ← ne, g) refl

        field-4 : (n k : ℕ) (before mid after : List ℕ) → GotTree (type next left) n k before mid → FieldWords mid role id 1 s l after → GotTree (field_at text type id at left) n k before after
        unfolding field_at
        field-4 n k before mid after g w =
            let name : Name = record { home = 1; start = s; size = l } in
            record {
              row = field_row role id name g.row;
              kids = g.kids;
              is = rw (e, f, ← ne, g.is, ← ro) refl;
              rows = g.rows;
              stored = as_field role id name g.row g.kids before mid after g.stored w;
            }

        pub field-5 : (n k : ℕ) (before mid after : List ℕ) → GotTree (type next left) n k before mid → FieldWords mid role id 1 s l after → Meets (field_at text type id at left) before (Ok (extent n k)) after
        field-5 n k before mid after g words =
            let t = field-4 n k before mid after g words in
            meets-done before after (field_at text type id at left) t.row t.kids n k t.is t.rows t.stored

  -- [nullability] type, as a field of a name of the name list
  module _ (name : Name) (at left role next : ℕ) (ro : role ≡ role_at text at) (ne : next ≡ after_role text at) where
    pub default-1 : (x : Refusal) → type next left ≡ refused x → default_field text type name at left ≡ refused x
    unfolding default_field
    default-1 x g = rw (← ne, g) refl

    module _ (n k : ℕ) (before mid : List ℕ) (g : GotTree (type next left) n k before mid) where
      pub default-is : default_field text type name at left ≡ done (record { row = field_row role 0 name g.row; kids = g.kids; next = n })
      unfolding default_field
      default-is = rw (← ne, g.is, ← ro) refl

      pub default-tree : (after : List ℕ) → FieldWords mid role 0 name.home name.start name.size after → GotTree (default_field text type name at left) n k before after
      default-tree after w = record {
        row = field_row role 0 name g.row;
        kids = g.kids;
        is = default-is;
        rows = g.rows;
        stored = as_field role 0 name g.row g.kids before mid after g.stored w;
      }

  -- [nullability] type [, field: 'name']
  module _ (at left role next : ℕ) (ro : role ≡ role_at text at) (ne : next ≡ after_role text at) where
    pub list-field-1 : (x : Refusal) → type next left ≡ refused x → list_field text type at left ≡ refused x
    unfolding list_field
    list-field-1 x g = rw (default-1 item at left role next ro ne x g) refl

    module _ (n k : ℕ) (before mid : List ℕ) (g : GotTree (type next left) n k before mid) where
      -- no comma: the name is `item`
      pub list-field-2 : (after : List ℕ) → stands text comma n ≡ false → FieldWords mid role 0 2 0 4 after → Meets (list_field text type at left) before (Ok (extent n k)) after
      unfolding list_field
      list-field-2 after f w =
          meets-done before after (list_field text type at left) (field_row role 0 item g.row) g.kids n k
          (rw (default-is item at left role next ro ne n k before mid g, f) refl) g.rows
          (as_field role 0 item g.row g.kids before mid after g.stored w)

      module _ (c : Standing) (d : ℕ) (f : stands text comma n ≡ true) (h : need text comma n ≡ done (behind c d)) where
        pub list-field-3 : (x : Refusal) → list_name_at text d ≡ refused x → list_field text type at left ≡ refused x
        unfolding list_field
        list-field-3 x y = rw (default-is item at left role next ro ne n k before mid g, f, h, y) refl

        pub list-field-4 : (q : Out TokenKind) (s l e : ℕ) (after : List ℕ) → list_name_at text d ≡ done (string q s l e) → FieldWords mid role 0 1 s l after
            → Meets (list_field text type at left) before (Ok (extent e k)) after
        unfolding list_field
        list-field-4 q s l e after y w =
            let name : Name = record { home = 1; start = s; size = l } in
            meets-done before after (list_field text type at left) (field_row role 0 name g.row) g.kids e k
            (rw (default-is item at left role next ro ne n k before mid g, f, h, y) refl) g.rows
            (as_field role 0 name g.row g.kids before mid after g.stored w)

-- field: 'name'
module _ (text : List ℕ) (at : ℕ) where
  pub name-1 : (x : Refusal) → need text field_word at ≡ refused x → list_name_at text at ≡ refused x
  unfolding list_name_at
  name-1 x e = rw e refl

  module _ (f : Standing) (a : ℕ) (e : need text field_word at ≡ done (behind f a)) where
    pub name-2 : (x : Refusal) → need text colon a ≡ refused x → list_name_at text at ≡ refused x
    unfolding list_name_at
    name-2 x g = rw (e, g) refl

    pub name-3 : (c : Standing) (b : ℕ) → need text colon a ≡ done (behind c b) → list_name_at text at ≡ need text single_quoted b
    unfolding list_name_at
    name-3 c b g = rw (e, g) refl
