-- The number that falls while fields are read never decides an answer: each field takes a row.
use mathlib.Core.Path.{◌≡◌, refl, ap}
use mathlib.Core.List.{List}
use Prim.Native.Nat.{ℕ, zero, suc, ◌-◌, ◌<◌}
use native.Mathlib.Omega.{arith}
use Rattle.tokenizer.specs.Answer.{Out, refused, done, ◌>>=◌}
use Rattle.tokenizer.specs.Token.{lparen, rparen, comma, colon, double_quoted}
use Rattle.datatype.specs.Tree.{node}
use Rattle.parser.specs.Parse.{Tree, Fields, Item, end, last, more, rows_in, id_of, fields_from, items_by, need, stands, after_role, number_in, field_at, struct_item, union_field, union_item, type_with, type_at}
use Rattle.parser.proofs.Holds.{Holds, Refuses, holds_bind, holds_if, refuses_bind, bind_ext}

-- a turn that reads no field
abbrev NoField : Item → Type 0
NoField (end next) = Unit {0}
NoField (last t next) = ⊥
NoField (more t next) = ⊥

-- enough is one more than the rows left, where no field is read without a row
module _ (item : ℕ → ℕ → Out Item) (rowless : (at : ℕ) → Holds NoField (item at 0)) where
  pub items-enough : (m n at rows : ℕ) → rows < m → rows < n → items_by item m at rows ≡ items_by item n at rows
  unfolding items_by
  items-enough zero n at rows p q = absurd (omega arith)
  items-enough (suc m) zero at rows p q = absurd (omega arith)
  items-enough (suc m) (suc n) at zero p q = go (item at 0) (rowless at)
    where
      go : (o : Out Item) → Holds NoField o → (o >>= fields_from (items_by item m) 0) ≡ (o >>= fields_from (items_by item n) 0)
      go (refused r) h = refl
      go (done (end next)) h = refl
      go (done (last t next)) h = absurd h
      go (done (more t next)) h = absurd h
  items-enough (suc m) (suc n) at (suc rows) p q =
      bind_ext (item at (suc rows)) _ _ λ i. go i (λ a r u v. items-enough m n a r u v)
    where
      go : (i : Item) → ((a r : ℕ) → r < m → r < n → items_by item m a r ≡ items_by item n a r) → fields_from (items_by item m) (suc rows) i ≡ fields_from (items_by item n) (suc rows) i
      go (end next) ih = refl
      go (last t next) ih = refl
      go (more t next) ih =
          ap (λ (o : Out Fields). o >>= (λ fs. done (record { trees = node t.row t.kids fs.trees; next = fs.next })))
          (ih next (suc rows - rows_in t) (omega arith) (omega arith))

module _ (text : List ℕ) where
  -- no type begins where no row is left: what reads types meets the premise `rowless` below
  pub no_row : (level at : ℕ) → Refuses (type_at text level at 0)
  unfolding type_at type_with
  no_row zero at = tt
  no_row (suc level) at = tt

  module _ (type : ℕ → ℕ → Out Tree) (rowless : (at : ℕ) → Refuses (type at 0)) where
    field-no-row : (id at : ℕ) → Refuses (field_at text type id at 0)
    unfolding field_at
    field-no-row id at =
        holds_bind (λ (t : Tree). ⊥) (need text double_quoted at) _ λ s.
        holds_bind (λ (t : Tree). ⊥) (need text colon s.next) _ λ c.
        refuses_bind (type (after_role text c.next) 0) _ (rowless (after_role text c.next))

    union-no-row : (at : ℕ) → Refuses (union_field text type at 0)
    unfolding union_field
    union-no-row at =
        holds_bind (λ (t : Tree). ⊥) (number_in text 128 127 at) _ λ i.
        holds_bind (λ (t : Tree). ⊥) (need text colon i.next) _ λ c.
        holds_bind (λ (t : Tree). ⊥) (need text lparen c.next) _ λ p.
        refuses_bind (field_at text type (id_of i.kind) p.next 0) _ (field-no-row (id_of i.kind) p.next)

    -- a refusal is followed by no field
    refused-then : {A : Type 0} (o : Out A) (f : A → Out Item) → Refuses o → Holds NoField (o >>= f)
    refused-then (refused r) f h = tt
    refused-then (done a) f h = absurd h

    struct-rowless : (at : ℕ) → Holds NoField (struct_item text type at 0)
    unfolding struct_item
    struct-rowless at =
        holds_if NoField (stands text rparen at) _ _
        (holds_bind NoField (need text rparen at) _ (λ c. tt))
        (refused-then (field_at text type 0 at 0) _ (field-no-row 0 at))

    union-rowless : (at : ℕ) → Holds NoField (union_item text type at 0)
    unfolding union_item
    union-rowless at =
        holds_if NoField (stands text rparen at) _ _
        (holds_bind NoField (need text rparen at) _ (λ c. tt))
        (holds_bind NoField (need text comma at) _ λ c. refused-then (union_field text type c.next 0) _ (union-no-row c.next))

    pub struct-enough : (m n at rows : ℕ) → rows < m → rows < n → items_by (struct_item text type) m at rows ≡ items_by (struct_item text type) n at rows
    struct-enough = items-enough (struct_item text type) struct-rowless

    pub union-enough : (m n at rows : ℕ) → rows < m → rows < n → items_by (union_item text type) m at rows ≡ items_by (union_item text type) n at rows
    union-enough = items-enough (union_item text type) union-rowless
