-- Fields read side by side: run ends and values, and one turn of a Struct's or a Union's fields.
use mathlib.Core.Path.{◌≡◌, refl, sym, ap, ◌∙◌}
use lib.ListN.{get_or}
use lib.IntN.{ℤ}
use Rattle.parser.specs.declared.ReadValue.{ReadValue}
use mathlib.Core.Bool.{true, false}
use mathlib.Core.List.{List}
use Prim.Native.Nat.{ℕ, ◌+◌}
use native.Mathlib.Omega.{arith}
use borrow.Author.Tests.{eq-eqb, ne_eqb}
use Rattle.std.specs.Prelude.{Ok, Err}
use Rattle.tokenizer.specs.Answer.{Refusal, Out, refused, done, ◌>>=◌}
use Rattle.tokenizer.specs.declared.refusal.Refusal.TheVariants.{MustBeNonNull}
use Rattle.parser.specs.Answer.{refusal_in, read_answer}
use Rattle.parser.specs.declared.error.ReadError.{ReadError}
use Rattle.tokenizer.specs.Token.{Standing, lparen, rparen, comma, colon, double_quoted}
use Rattle.datatype.specs.Tree.{Forest, ∅, node, count, Row}
use Rattle.parser.specs.Parse.{role_place, last_token, Tree, Fields, end, last, more, run_ends, values, id_of, need, stands, role_at, after_role, signed_byte_at, close_at, field_at, default_field, named_run_ends, default_run_ends, run_end_fields, struct_item, union_field, union_item}
use Rattle.parser.specs.Internal.Steps.{integer_of, integer_kind, extent, rows_left, Stored, Meets, MeetsFields, FieldWords}
use Rattle.parser.proofs.Matched.{Read, behind, GotTree, GotNumber, got_integer}
use Rattle.parser.proofs.Looks.{needed-stands, refused-stands}
use Rattle.parser.proofs.Values.{id-is}
use Rattle.parser.proofs.Readers.{meets-done, rest_of, pair_stored, default-1, default-is, default-tree}
use Rattle.parser.proofs.Stores.{rows_from, with_rows, kind_said, role_said}

module _ (before after : List ℕ) where
  pub fields-refused : (o : Out Fields) (e : ReadError) → o ≡ refused (refusal_in e) → MeetsFields o before (Err e) after
  unfolding MeetsFields
  fields-refused o e w = rw w refl

  fields-done : (o : Out Fields) (f : Forest Row) (n k : ℕ) → o ≡ done (record { trees = f; next = n }) → k ≡ count f → Stored f before after → MeetsFields o before (Ok (extent n k)) after
  unfolding MeetsFields
  fields-done o f n k e c s = rw e (ap (λ (i : ℕ). Ok (extent n i)) c, s)

  -- a refusal is handed on
  pub fields-handed : (o : Out Fields) (a : Read) (x : Refusal) → read_answer a ≡ refused x → o ≡ refused x → MeetsFields o before a after
  unfolding MeetsFields
  fields-handed o a x h w = rw w h

-- a tree that was read
abbrev pub tree_of : (o : Out Tree) (n k : ℕ) (before after : List ℕ) → GotTree o n k before after → Tree
tree_of o n k before after g = record { row = g.row; kids = g.kids; next = n }

-- two trees, one behind the other
pair_done : (o : Out Fields) (o₁ o₂ : Out Tree) (n m used k : ℕ) (before mid sub : List ℕ) (g : GotTree o₁ n used before mid) (h : GotTree o₂ m k (rows_from used mid) sub)
    → o ≡ done (record { trees = node g.row g.kids (node h.row h.kids ∅); next = m }) → MeetsFields o before (Ok (extent m (used + k))) (with_rows used mid sub)
pair_done o o₁ o₂ n m used k before mid sub g h e =
    let u = g.rows in
    let v = h.rows in
    fields-done before (with_rows used mid sub) o (node g.row g.kids (node h.row h.kids ∅)) m (used + k) e (omega arith) (pair_stored o₁ o₂ n m used k before mid sub g h)

module _ (text : List ℕ) (type : ℕ → ℕ → Out Tree) where
  -- ---- run ends and values

  module _ (at left : ℕ) where
    -- the long form
    pub long-1 : (x : Refusal) → field_at text type 0 at left ≡ refused x → named_run_ends text type at left ≡ refused x
    unfolding named_run_ends
    long-1 x e = rw e refl

    module _ (n used : ℕ) (before mid : List ℕ) (g : GotTree (field_at text type 0 at left) n used before mid) where
      -- its role was read back from its row
      module _ (role : ℕ) (said : role ≡ get_or mid 2 0) where
        role-is : role ≡ g.row.role
        role-is = said ∙ role_said g.row g.kids before mid g.stored

        pub long-2 : (role ≡ 2 → ⊥) → (kind : ℕ) → kind ≡ get_or mid 0 0 → (place : ℕ) → done place ≡ last_token text at kind n → named_run_ends text type at left ≡ refused (refusal_in (record { place = place; refusal = MustBeNonNull }))
        unfolding named_run_ends refusal_in
        long-2 z kind k place p =
            let q = p ∙ ap (λ (i : ℕ). last_token text at i n) (k ∙ kind_said g.row g.kids before mid g.stored) in
            rw (g.is, ← role-is, ne_eqb role 2 z, ← q) refl

        pub long-last : (role ≡ 2 → ⊥) → (kind : ℕ) → kind ≡ get_or mid 0 0 → (x : Refusal) → refused x ≡ last_token text at kind n → named_run_ends text type at left ≡ refused x
        unfolding named_run_ends
        long-last z kind k x p =
            let q = p ∙ ap (λ (i : ℕ). last_token text at i n) (k ∙ kind_said g.row g.kids before mid g.stored) in
            rw (g.is, ← role-is, ne_eqb role 2 z, ← q) refl

      module _ (role : ℕ) (said : role ≡ get_or mid 2 0) (two : role ≡ 2) where
        z : g.row.role ≡ 2
        z = sym (role-is role said) ∙ two

        pub long-3 : (x : Refusal) → need text comma n ≡ refused x → named_run_ends text type at left ≡ refused x
        unfolding named_run_ends
        long-3 x e = rw (g.is, eq-eqb g.row.role 2 z, e) refl

        module _ (c : Standing) (d : ℕ) (f : need text comma n ≡ done (behind c d)) (i : left ≡ rows_left before) where
          pub long-4 : (x : Refusal) → field_at text type 0 d (rows_left (rows_from used mid)) ≡ refused x → named_run_ends text type at left ≡ refused x
          unfolding named_run_ends
          long-4 x e = rw (g.is, eq-eqb g.row.role 2 z, f, ← rest_of _ n used left before mid g i, e) refl

          pub long-5 : (m k : ℕ) (sub : List ℕ) → GotTree (field_at text type 0 d (rows_left (rows_from used mid))) m k (rows_from used mid) sub
              → MeetsFields (named_run_ends text type at left) before (Ok (extent m (used + k))) (with_rows used mid sub)
          unfolding named_run_ends
          long-5 m k sub h = pair_done _ _ _ n m used k before mid sub g h (rw (g.is, eq-eqb g.row.role 2 z, f, ← rest_of _ n used left before mid g i, h.is) refl)

    -- the short form
    pub short-1 : (role : ℕ) → role ≡ role_at text at → (role ≡ 2 → ⊥) → (place : ℕ) → place ≡ role_place text at → default_run_ends text type at left ≡ refused (refusal_in (record { place = place; refusal = MustBeNonNull }))
    unfolding default_run_ends refusal_in
    short-1 role e z place p = rw (← e, ne_eqb role 2 z, ← p) refl

    module _ (role next : ℕ) (ro : role ≡ role_at text at) (z : role ≡ 2) (ne : next ≡ after_role text at) where
      two : 2 ≡ role_at text at
      two = sym z ∙ ro

      pub short-2 : (x : Refusal) → type next left ≡ refused x → default_run_ends text type at left ≡ refused x
      unfolding default_run_ends
      short-2 x e = rw (← ro, eq-eqb role 2 z, default-1 text type run_ends at left role next ro ne x e) refl

      pub short-3 : (n used : ℕ) (before mid₀ : List ℕ) → GotTree (type next left) n used before mid₀ → (x : Refusal) → need text comma n ≡ refused x → default_run_ends text type at left ≡ refused x
      unfolding default_run_ends
      short-3 n used before mid₀ t x e = rw (← ro, eq-eqb role 2 z, default-is text type run_ends at left 2 next two ne n used before mid₀ t, e) refl

      module _ (n used : ℕ) (before mid₀ mid : List ℕ) (t : GotTree (type next left) n used before mid₀) (w : FieldWords mid₀ 2 0 2 4 8 mid) where
        g : GotTree (default_field text type run_ends at left) n used before mid
        g = default-tree text type run_ends at left 2 next two ne n used before mid₀ t mid w

        module _ (c : Standing) (d role₂ next₂ : ℕ) (f : need text comma n ≡ done (behind c d)) (i : left ≡ rows_left before) (ro₂ : role₂ ≡ role_at text d) (ne₂ : next₂ ≡ after_role text d) where
          pub short-4 : (x : Refusal) → type next₂ (rows_left (rows_from used mid)) ≡ refused x → default_run_ends text type at left ≡ refused x
          unfolding default_run_ends
          short-4 x e =
              rw (← ro, eq-eqb role 2 z, g.is, f, ← rest_of _ n used left before mid g i, default-1 text type values d (rows_left (rows_from used mid)) role₂ next₂ ro₂ ne₂ x e) refl

          pub short-5 : (m k : ℕ) (sub₀ sub : List ℕ) → GotTree (type next₂ (rows_left (rows_from used mid))) m k (rows_from used mid) sub₀ → FieldWords sub₀ role₂ 0 2 12 6 sub
              → MeetsFields (default_run_ends text type at left) before (Ok (extent m (used + k))) (with_rows used mid sub)
          unfolding default_run_ends
          short-5 m k sub₀ sub u v =
              let h = default-tree text type values d (rows_left (rows_from used mid)) role₂ next₂ ro₂ ne₂ m k (rows_from used mid) sub₀ u sub v in
              pair_done _ _ _ n m used k before mid sub g h (rw (← ro, eq-eqb role 2 z, g.is, f, ← rest_of _ n used left before mid g i, h.is) refl)

    -- which form it is
    pub run-ends-long : (before after : List ℕ) (a : Read) → stands text double_quoted at ≡ true → MeetsFields (named_run_ends text type at left) before a after → MeetsFields (run_end_fields text type at left) before a after
    unfolding run_end_fields
    run-ends-long before after a e h = rw e h

    pub run-ends-short : (before after : List ℕ) (a : Read) → stands text double_quoted at ≡ false → MeetsFields (default_run_ends text type at left) before a after → MeetsFields (run_end_fields text type at left) before a after
    unfolding run_end_fields
    run-ends-short before after a e h = rw e h

    -- ---- one turn of a Struct's fields

    pub struct-end : (c : Standing) (n : ℕ) → need text rparen at ≡ done (behind c n) → struct_item text type at left ≡ done (end n)
    unfolding struct_item
    struct-end c n e = rw (needed-stands text rparen at (behind c n) e, e) refl

    module _ (s : Refusal) (z : need text rparen at ≡ refused s) where
      pub struct-field-1 : (x : Refusal) → field_at text type 0 at left ≡ refused x → struct_item text type at left ≡ refused x
      unfolding struct_item
      struct-field-1 x e = rw (refused-stands text rparen at s z, e) refl

      module _ (n k : ℕ) (before after : List ℕ) (g : GotTree (field_at text type 0 at left) n k before after) where
        pub struct_more : (c : Standing) (d : ℕ) → need text comma n ≡ done (behind c d) → struct_item text type at left ≡ done (more (tree_of _ n k before after g) d)
        unfolding struct_item
        struct_more c d e = rw (refused-stands text rparen at s z, g.is, needed-stands text comma n (behind c d) e, e) refl

        pub struct-last : (t : Refusal) → need text comma n ≡ refused t → struct_item text type at left ≡ (need text rparen n >>= (λ c. done (last (tree_of _ n k before after g) c.next)))
        unfolding struct_item
        struct-last t y = rw (refused-stands text rparen at s z, g.is, refused-stands text comma n t y) refl

    -- ---- one turn of a Union's fields

    pub union-end : (c : Standing) (n : ℕ) → need text rparen at ≡ done (behind c n) → union_item text type at left ≡ done (end n)
    unfolding union_item
    union-end c n e = rw (needed-stands text rparen at (behind c n) e, e) refl

    module _ (s : Refusal) (z : need text rparen at ≡ refused s) where
      pub union-open : (x : Refusal) → need text comma at ≡ refused x → union_item text type at left ≡ refused x
      unfolding union_item
      union-open x e = rw (refused-stands text rparen at s z, e) refl

      module _ (c : Standing) (b : ℕ) (e : need text comma at ≡ done (behind c b)) where
        pub union-lost : (x : Refusal) → union_field text type b left ≡ refused x → union_item text type at left ≡ refused x
        unfolding union_item
        union-lost x f = rw (refused-stands text rparen at s z, e, f) refl

        pub union_more : (n k : ℕ) (before after : List ℕ) (g : GotTree (union_field text type b left) n k before after)
            → union_item text type at left ≡ done (more (tree_of _ n k before after g) n)
        unfolding union_item
        union_more n k before after g = rw (refused-stands text rparen at s z, e, g.is) refl

    -- ---- a Union's field

    pub union-1 : (x : Refusal) → signed_byte_at text at ≡ refused x → union_field text type at left ≡ refused x
    unfolding union_field
    union-1 x e = rw e refl

    module _ (z : ReadValue ℤ) (r : done z ≡ integer_of (signed_byte_at text at)) where
      f : GotNumber (signed_byte_at text at) z.value z.next
      f = got_integer (signed_byte_at text at) z r

      pub union-2 : (x : Refusal) → need text colon z.next ≡ refused x → union_field text type at left ≡ refused x
      unfolding union_field
      union-2 x g = rw (f.is, g) refl

      module _ (l : Standing) (m : ℕ) (g : need text colon z.next ≡ done (behind l m)) where
        pub union-3 : (x : Refusal) → need text lparen m ≡ refused x → union_field text type at left ≡ refused x
        unfolding union_field
        union-3 x h = rw (f.is, g, h) refl

        module _ (p : Standing) (q id : ℕ) (h : need text lparen m ≡ done (behind p q)) (i : id ≡ id_of (integer_kind z.value)) where
          w : id ≡ id_of f.token.kind
          w = i ∙ id-is _ z.value z.next f

          pub union-4 : (x : Refusal) → field_at text type id q left ≡ refused x → union_field text type at left ≡ refused x
          unfolding union_field
          union-4 x v = rw (f.is, g, h, ← w, v) refl

          module _ (n k : ℕ) (before after : List ℕ) (v : GotTree (field_at text type id q left) n k before after) where
            pub union-5 : (x : Refusal) → need text rparen n ≡ refused x → union_field text type at left ≡ refused x
            unfolding union_field close_at
            union-5 x y = rw (f.is, g, h, ← w, v.is, y) refl

            pub union-6 : (t : Standing) (y : ℕ) → need text rparen n ≡ done (behind t y) → Meets (union_field text type at left) before (Ok (extent y k)) after
            unfolding union_field close_at
            union-6 t y u = meets-done before after (union_field text type at left) v.row v.kids y k (rw (f.is, g, h, ← w, v.is, u) refl) v.rows v.stored
