-- Struct and Union, whose fields are read turn by turn; a type by its word.
use mathlib.Core.Path.{◌≡◌, refl, sym, ap, ◌∙◌, subst}
use mathlib.Core.Bool.{Bool, true, false}
use mathlib.Core.List.{List, ◌++◌, map}
use Prim.Native.Nat.{ℕ, suc, ◌+◌, ◌-◌, ◌≤◌, ◌<◌}
use native.Mathlib.Omega.{arith}
use lib.ListN.{length, take, drop}
use lib.Seq.{length-take-le}
use Rattle.std.proofs.lemmas.List.{take-append-drop}
use Rattle.std.specs.Prelude.{Ok, Some, None, if◌then◌else◌}
use Rattle.tokenizer.specs.Answer.{Refusal, Out, refused, done, refuse_at}
use Rattle.tokenizer.specs.declared.refusal.Refusal.TheVariants.{TooDeep, TooManyRows, WrongUnionId}
use Rattle.parser.specs.Answer.{refusal_in}
use Rattle.parser.specs.declared.error.ReadError.{ReadError}
use Rattle.tokenizer.specs.Token.{Standing, lparen, rparen, comma, union_mode, type_word}
use Rattle.std.proofs.lemmas.Bool.Decides.{nat_tests}
use Rattle.datatype.proofs.KindShapes.{shape_by}
use Rattle.datatype.specs.Kind.{Shape, leaf, timestamp, time, interval, fixed, list, fixed_list, struct, union, dictionary, decimal, mapping, run_end_encoded, shape_of, ids_fit}
use Rattle.datatype.specs.Tree.{Forest, ∅, count, roots, Row}
use Rattle.datatype.specs.Table.{row_words}
use Rattle.parser.specs.Parse.{Tree, Fields, bare_row, need, timestamp_at, time_at, interval_at, fixed_size_binary_at, decimal_at, list_at, fixed_size_list_at, dictionary_at, map_at, run_end_encoded_at, field_at, struct_item, union_field, union_item, struct_at, union_at, shape_at, type_with, type_at}
use Rattle.parser.specs.Internal.Steps.{next_of, look_of, word_of, extent, rows_left, Stored, Meets, Put, Closed}
use Rattle.parser.specs.declared.Extent.{Extent}
use Rattle.parser.specs.declared.ReadValue.{ReadValue}
use Rattle.parser.proofs.Stores.{rows_from, with_rows, in_front, alone}
use Rattle.parser.proofs.Matched.{Read, error_at, behind, GotTree, got_look, got_next, got_word, lost_look, lost_next}
use Rattle.parser.proofs.Readers.{meets-handed, meets-put, meets-further}
use Rattle.unchecked_rows.specs.UnionFields.{type_ids_fit}
use Rattle.parser.proofs.Entries.{ids-read}
use Rattle.parser.proofs.FieldLaws.{struct-end, struct-field-1, struct_more, struct-last, union-end, union-open, union-lost, union_more}
use Rattle.parser.proofs.Loops.{Loop, all_read, all_stored, all_counted, loop-start, loop-lost, loop-end, loop-last, loop-more}

-- a row in front of its fields
fronted : (o : Out Tree) (r : Row) (kids : Forest Row) (n used : ℕ) (row row₂ before mid : List ℕ) (a : Extent) → length row ≡ row_words → o ≡ done (record { row = r; kids = kids; next = n })
    → Stored kids before mid → used ≡ count kids → Put n used r a row₂ → Meets o (row ++ before) (Ok a) (row₂ ++ mid)
fronted o r kids n used row row₂ before mid a l e s u w =
    meets-put (row ++ before) (row₂ ++ mid) o r kids n used a row₂ e u w (in_front r kids row row₂ before mid (used + 1) l s (omega arith))

module _ (text : List ℕ) (type : ℕ → ℕ → Out Tree) (k at left : ℕ) where
  pub struct-1 : (x : Refusal) → need text lparen at ≡ refused x → struct_at text type k at left ≡ refused x
  unfolding struct_at
  struct-1 x e = rw e refl

  pub union-at-1 : (x : Refusal) → need text lparen at ≡ refused x → union_at text type k at left ≡ refused x
  unfolding union_at
  union-at-1 x e = rw e refl

  pub union-at-2 : (p : Standing) (b : ℕ) → need text lparen at ≡ done (behind p b) → (x : Refusal) → need text union_mode b ≡ refused x → union_at text type k at left ≡ refused x
  unfolding union_at
  union-at-2 p b e x f = rw (e, f) refl

-- a Struct before a turn
unfoldable pub struct_of : ℕ → Fields → Out Tree
struct_of k fs = done (record { row = bare_row k 0 0 0 0; kids = fs.trees; next = fs.next })

abbrev pub StructLoop : List ℕ → (ℕ → ℕ → Out Tree) → ℕ → ℕ → List ℕ → List ℕ → ℕ → ℕ → Type 0
StructLoop text type k at before now next used = Loop (struct_at text type k at (rows_left before)) (struct_of k) (struct_item text type) before now next used

module _ (text : List ℕ) (type : ℕ → ℕ → Out Tree) (k at : ℕ) (before : List ℕ) where
  abbrev struct_type : Out Tree
  struct_type = struct_at text type k at (rows_left before)

  pub struct-start : (b : ℕ) → done b ≡ next_of (need text lparen at) → StructLoop text type k at before before b 0
  unfolding struct_at struct_of
  struct-start b o = let p = got_next (need text lparen at) b o in loop-start struct_type (struct_of k) (struct_item text type) before b (rw p.1 refl)

  module _ (now : List ℕ) (next used : ℕ) (l : StructLoop text type k at before now next used) where
    abbrev struct_left : ℕ
    struct_left = rows_left (rows_from used now)

    pub struct-3 : (n : ℕ) → Some n ≡ look_of (need text rparen next) → (row row₂ : List ℕ) (a : Extent) → length row ≡ row_words → Put n used (bare_row k 0 0 0 0) a row₂ → Meets struct_type (row ++ before) (Ok a) (row₂ ++ now)
    unfolding struct_of
    struct-3 n z row row₂ a i w =
        let c = got_look (need text rparen next) n z in
        fronted struct_type (bare_row k 0 0 0 0) l.trees n used row row₂ before now a i (loop-end _ _ _ before now next used l n (struct-end text type next struct_left c.0 n c.1)) l.stored l.counted w

    -- no mark closes the fields
    module _ (s : Refusal) (z : need text rparen next ≡ refused s) where
      pub struct-2 : (x : Refusal) → field_at text type 0 next struct_left ≡ refused x → struct_type ≡ refused x
      struct-2 x f = loop-lost _ _ _ before now next used l x (struct-field-1 text type next struct_left s z x f)

      module _ (n more : ℕ) (sub : List ℕ) (g : GotTree (field_at text type 0 next struct_left) n more (rows_from used now) sub) where
        pub struct-loop : (c : Standing) (d : ℕ) → need text comma n ≡ done (behind c d) → StructLoop text type k at before (with_rows used now sub) d (used + more)
        struct-loop c d e = loop-more _ _ _ before now next used l _ n more sub g d (struct_more text type next struct_left s z n more (rows_from used now) sub g c d e)

        -- behind a field that no comma follows
        pub struct-4 : (t : Refusal) → need text comma n ≡ refused t → (row row₂ : List ℕ) (a : Read) → length row ≡ row_words → Closed (need text rparen n) (used + more) (bare_row k 0 0 0 0) a row₂
            → Meets struct_type (row ++ before) a (row₂ ++ with_rows used now sub)
        unfolding Closed struct_of
        struct-4 t y row row₂ a i = go (need text rparen n) refl
          where
            go : (o : Out Standing) → need text rparen n ≡ o → Closed o (used + more) (bare_row k 0 0 0 0) a row₂ → Meets struct_type (row ++ before) a (row₂ ++ with_rows used now sub)
            go (refused x) e h =
                meets-handed (row ++ before) (row₂ ++ with_rows used now sub) struct_type a x h
                (loop-lost _ _ _ before now next used l x (struct-last text type next struct_left s z n more (rows_from used now) sub g t y ∙ rw e refl))
            go (done c) e h =
                subst (λ (x : Read). Meets struct_type (row ++ before) x (row₂ ++ with_rows used now sub)) (sym h.0)
                (fronted struct_type (bare_row k 0 0 0 0) (all_read _ _ _ before now next used l _ n more sub g) c.next (used + more) row row₂ before (with_rows used now sub) (extent c.next (used + more + 1)) i
                (loop-last _ _ _ before now next used l _ n more sub g c.next (struct-last text type next struct_left s z n more (rows_from used now) sub g t y ∙ rw e refl))
                (all_stored _ _ _ before now next used l _ n more sub g) (all_counted _ _ _ before now next used l _ n more sub g) (refl, h.1))

-- a Union before a turn
unfoldable pub union_of : ℕ → ℕ → Fields → Out Tree
union_of k mode fs = if ids_fit (map (λ r. r.union_id) (roots fs.trees)) then done (record { row = bare_row k mode 0 0 0; kids = fs.trees; next = fs.next }) else refuse_at 15 (fs.next - 1)

abbrev pub UnionLoop : List ℕ → (ℕ → ℕ → Out Tree) → ℕ → ℕ → ℕ → List ℕ → List ℕ → ℕ → ℕ → Type 0
UnionLoop text type k mode at before now next used = Loop (union_at text type k at (rows_left before)) (union_of k mode) (union_item text type) before now next used

module _ (text : List ℕ) (type : ℕ → ℕ → Out Tree) (k at : ℕ) (before : List ℕ) where
  abbrev union_type : Out Tree
  union_type = union_at text type k at (rows_left before)

  pub union-start : (b : ℕ) (v : ReadValue ℕ) → done b ≡ next_of (need text lparen at) → done v ≡ word_of (need text union_mode b) → UnionLoop text type k v.value at before before v.next 0
  unfolding union_at union_of
  union-start b v o h =
      let p = got_next (need text lparen at) b o in
      let m = got_word (need text union_mode b) v h in
      loop-start union_type (union_of k v.value) (union_item text type) before v.next (rw (p.1, m.is, m.value) refl)

  module _ (mode : ℕ) (now : List ℕ) (next used : ℕ) (l : UnionLoop text type k mode at before now next used) where
    abbrev union_left : ℕ
    union_left = rows_left (rows_from used now)

    -- no mark closes the fields
    module _ (z : None ≡ look_of (need text rparen next)) where
      no_mark : (s : Refusal) × (need text rparen next ≡ refused s)
      no_mark = lost_look (need text rparen next) z

      pub union-at-3 : (x : Refusal) → refused x ≡ next_of (need text comma next) → union_type ≡ refused x
      union-at-3 x f = loop-lost _ _ _ before now next used l x (union-open text type next union_left no_mark.0 no_mark.1 x (lost_next (need text comma next) x f))

      module _ (d : ℕ) (e : done d ≡ next_of (need text comma next)) where
        separated : (c : Standing) × (need text comma next ≡ done (behind c d))
        separated = got_next (need text comma next) d e

        pub union-at-4 : (x : Refusal) → union_field text type d union_left ≡ refused x → union_type ≡ refused x
        union-at-4 x g = loop-lost _ _ _ before now next used l x (union-lost text type next union_left no_mark.0 no_mark.1 separated.0 d separated.1 x g)

        pub union-loop : (n more : ℕ) (sub : List ℕ) → GotTree (union_field text type d union_left) n more (rows_from used now) sub → UnionLoop text type k mode at before (with_rows used now sub) n (used + more)
        union-loop n more sub g =
            loop-more _ _ _ before now next used l _ n more sub g n (union_more text type next union_left no_mark.0 no_mark.1 separated.0 d separated.1 n more (rows_from used now) sub g)

    -- the mark is there, and the ids are judged
    module _ (n : ℕ) (z : Some n ≡ look_of (need text rparen next)) (fit : Bool) (q : fit ≡ type_ids_fit now 0 used) where
      judged : union_type ≡ (if fit then done (record { row = bare_row k mode 0 0 0; kids = l.trees; next = n }) else refuse_at 15 (n - 1))
      unfolding union_of
      judged =
          let c = got_look (need text rparen next) n z in
          rw (q, ids-read l.trees used before now l.stored l.counted) (loop-end _ _ _ before now next used l n (union-end text type next union_left c.0 n c.1))

      pub union-at-5 : fit ≡ false → (place : ℕ) → place ≡ n - 1 → union_type ≡ refused (refusal_in (record { place = place; refusal = WrongUnionId }))
      unfolding refusal_in
      union-at-5 e place p = judged ∙ rw (e, p) refl

      pub union-at-6 : fit ≡ true → (row row₂ : List ℕ) (a : Extent) → length row ≡ row_words → Put n used (bare_row k mode 0 0 0) a row₂ → Meets union_type (row ++ before) (Ok a) (row₂ ++ now)
      union-at-6 e row row₂ a i w = fronted union_type (bare_row k mode 0 0 0) l.trees n used row row₂ before now a i (judged ∙ rw e refl) l.stored l.counted w

-- ---- a type

-- what `split_first_chunk_mut` lends: a row, and the rows below it
abbrev pub Split : List ℕ → List ℕ → List ℕ → Type 0
Split rows row below = (row ≡ take row_words rows) × (below ≡ drop row_words rows) × (length below + row_words ≡ length rows)

module _ (text : List ℕ) (level at : ℕ) where
  pub type-deep : (left : ℕ) → level ≡ 0 → (err : ReadError) → err ≡ error_at text at TooDeep → type_at text level at left ≡ refused (refusal_in err)
  unfolding type_at refusal_in
  type-deep left e err q = rw (e, q) refl

  module _ (deep : level ≡ 0 → ⊥) where
    down : (left : ℕ) → type_at text level at left ≡ type_with text (type_at text (level - 1)) at left
    unfolding type_at
    down left = let e : level ≡ suc (level - 1) = omega arith in ap (λ (i : ℕ). type_at text i at left) e

    pub type-full : (rows : List ℕ) → length rows < row_words → (err : ReadError) → err ≡ error_at text at TooManyRows → type_at text level at (rows_left rows) ≡ refused (refusal_in err)
    unfolding type_with refusal_in
    type-full rows h err q = let e : rows_left rows ≡ 0 = omega arith in down (rows_left rows) ∙ rw (e, q) refl

    one-row : (rows : List ℕ) (left : ℕ) → rows_left rows ≡ suc left → type_at text level at (rows_left rows) ≡ type_with text (type_at text (level - 1)) at (suc left)
    one-row rows left e = down (rows_left rows) ∙ ap (λ (i : ℕ). type_with text (type_at text (level - 1)) at i) e

    pub type-word : (rows : List ℕ) → row_words ≤ length rows → (x : Refusal) → need text type_word at ≡ refused x → type_at text level at (rows_left rows) ≡ refused x
    unfolding type_with
    type-word rows h x e = one-row rows (rows_left rows - 1) (omega arith) ∙ rw e refl

    module _ (rows row below : List ℕ) (split : Split rows row below) where
      whole : row ++ below ≡ rows
      whole = rw (split.0, split.1) (take-append-drop row_words rows)

      -- its word is read: the rest is the reader's of its shape
      module _ (w : ReadValue ℕ) (h : done w ≡ word_of (need text type_word at)) where
        abbrev by_shape : Shape → Out Tree
        by_shape s = shape_at text (type_at text (level - 1)) s w.value w.next (rows_left below)

        type-parent : (s : Shape) → shape_of w.value ≡ s → (a : Read) (after : List ℕ) → Meets (by_shape s) (row ++ below) a after → Meets (type_at text level at (rows_left rows)) rows a after
        unfolding type_with
        type-parent s i a after m =
            let g = got_word (need text type_word at) w h in
            let n = split.2 in
            rw (one-row rows (rows_left below) (omega arith), g.is, g.value, i) (subst (λ (l : List ℕ). Meets (by_shape s) l a after) whole m)

        type-childless : (s : Shape) → shape_of w.value ≡ s → (a : Read) (row₂ : List ℕ) → Meets (by_shape s) row a row₂ → Meets (type_at text level at (rows_left rows)) rows a (row₂ ++ below)
        type-childless s i a row₂ m = type-parent s i a (row₂ ++ below) (meets-further row row₂ (by_shape s) a below m)

        -- by the number of its kind: without children
        module _ (a : Read) (row₂ : List ℕ) where
          pub type-timestamp : w.value ≡ 13 → Meets (timestamp_at text w.value w.next) row a row₂ → Meets (type_at text level at (rows_left rows)) rows a (row₂ ++ below)
          unfolding shape_at
          type-timestamp e = type-childless timestamp (shape_by w.value ∙ grind (arith, nat_tests)) a row₂

          pub type-time : 16 ≤ w.value → w.value < 19 → Meets (time_at text w.value w.next) row a row₂ → Meets (type_at text level at (rows_left rows)) rows a (row₂ ++ below)
          unfolding shape_at
          type-time l m = type-childless time (shape_by w.value ∙ grind (arith, nat_tests)) a row₂

          pub type-interval : w.value ≡ 19 → Meets (interval_at text w.value w.next) row a row₂ → Meets (type_at text level at (rows_left rows)) rows a (row₂ ++ below)
          unfolding shape_at
          type-interval e = type-childless interval (shape_by w.value ∙ grind (arith, nat_tests)) a row₂

          pub type-fixed : w.value ≡ 21 → Meets (fixed_size_binary_at text w.value w.next) row a row₂ → Meets (type_at text level at (rows_left rows)) rows a (row₂ ++ below)
          unfolding shape_at
          type-fixed e = type-childless fixed (shape_by w.value ∙ grind (arith, nat_tests)) a row₂

          pub type-decimal : 35 ≤ w.value → w.value < 39 → Meets (decimal_at text w.value w.next) row a row₂ → Meets (type_at text level at (rows_left rows)) rows a (row₂ ++ below)
          unfolding shape_at
          type-decimal l m = type-childless decimal (shape_by w.value ∙ grind (arith, nat_tests)) a row₂

        -- and with them
        module _ (a : Read) (after : List ℕ) where
          pub type-list : 27 ≤ w.value → w.value < 32 → (w.value ≡ 29 → ⊥) → Meets (list_at text (type_at text (level - 1)) w.value w.next (rows_left below)) (row ++ below) a after → Meets (type_at text level at (rows_left rows)) rows a after
          unfolding shape_at
          type-list l m n = type-parent list (shape_by w.value ∙ grind (arith, nat_tests)) a after

          pub type-fixed-list : w.value ≡ 29 → Meets (fixed_size_list_at text (type_at text (level - 1)) w.value w.next (rows_left below)) (row ++ below) a after → Meets (type_at text level at (rows_left rows)) rows a after
          unfolding shape_at
          type-fixed-list e = type-parent fixed_list (shape_by w.value ∙ grind (arith, nat_tests)) a after

          pub type-struct : w.value ≡ 32 → Meets (struct_at text (type_at text (level - 1)) w.value w.next (rows_left below)) (row ++ below) a after → Meets (type_at text level at (rows_left rows)) rows a after
          unfolding shape_at
          type-struct e = type-parent struct (shape_by w.value ∙ grind (arith, nat_tests)) a after

          pub type-union : w.value ≡ 33 → Meets (union_at text (type_at text (level - 1)) w.value w.next (rows_left below)) (row ++ below) a after → Meets (type_at text level at (rows_left rows)) rows a after
          unfolding shape_at
          type-union e = type-parent union (shape_by w.value ∙ grind (arith, nat_tests)) a after

          pub type-dictionary : w.value ≡ 34 → Meets (dictionary_at text (type_at text (level - 1)) w.value w.next (rows_left below)) (row ++ below) a after → Meets (type_at text level at (rows_left rows)) rows a after
          unfolding shape_at
          type-dictionary e = type-parent dictionary (shape_by w.value ∙ grind (arith, nat_tests)) a after

          pub type-map : w.value ≡ 39 → Meets (map_at text (type_at text (level - 1)) w.value w.next (rows_left below)) (row ++ below) a after → Meets (type_at text level at (rows_left rows)) rows a after
          unfolding shape_at
          type-map e = type-parent mapping (shape_by w.value ∙ grind (arith, nat_tests)) a after

          pub type-run-ends : w.value ≡ 40 → Meets (run_end_encoded_at text (type_at text (level - 1)) w.value w.next (rows_left below)) (row ++ below) a after → Meets (type_at text level at (rows_left rows)) rows a after
          unfolding shape_at
          type-run-ends e = type-parent run_end_encoded (shape_by w.value ∙ grind (arith, nat_tests)) a after

        -- a leaf's row
        pub type-leaf : shape_of w.value ≡ leaf → (a : Extent) (row₂ : List ℕ) → Put w.next 0 (bare_row w.value 0 0 0 0) a row₂ → Meets (type_at text level at (rows_left rows)) rows (Ok a) (row₂ ++ below)
        unfolding shape_at
        type-leaf i a row₂ p =
            let l : length row ≡ row_words = let n = split.2 in ap length split.0 ∙ length-take-le row_words rows (omega arith) in
            type-childless leaf i (Ok a) row₂ (meets-put row row₂ (by_shape leaf) (bare_row w.value 0 0 0 0) ∅ w.next 0 a row₂ refl refl p (alone (bare_row w.value 0 0 0 0) row row₂ l))
