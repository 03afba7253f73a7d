-- The fields of a Struct and of a Union, read back turn by turn.
use mathlib.Core.Path.{◌≡◌, refl, sym, ap, ◌∙◌}
use mathlib.Core.Bool.{false}
use mathlib.Core.List.{List, ◌∷◌, ◌++◌, append_assoc}
use Prim.Native.Nat.{ℕ, zero, suc, ◌+◌, ◌-◌, ◌≤◌, ◌<◌}
use native.Mathlib.Omega.{arith}
use lib.ListN.{length, drop}
use lib.Dec.{eqb}
use Rattle.tokenizer.specs.Text.{bytes}
use Rattle.tokenizer.specs.Answer.{Out, done}
use Rattle.tokenizer.specs.Token.{token, is_separator, token_at, sort_of, double_quoted, rparen, comma}
use Rattle.tokenizer.specs.declared.TokenKind.TheVariants.{RParen}
use Rattle.tokenizer.proofs.Basics.{skip}
use Rattle.datatype.specs.Tree.{Forest, ∅, node, count, roots, Label, labels}
use Rattle.row_table.specs.Sound.{field, union_field}
use Rattle.parser.specs.Parse as P
use Rattle.parser.specs.Parse.{Tree, Item, end, last, more, single, id_of, stands, items_by, field_at, struct_item, union_item}
use Rattle.parser.proofs.TokenLaws.{here}
use Rattle.writer.specs.Digits.{digits}
use Rattle.display_length.specs.Display.{field_text, struct_text, union_text, shown}
use Rattle.display_length.specs.declared.words.Spelling.{Spelling}
use Rattle.round_trip.proofs.Tokens.{mark_stop, comma_stop}
use Rattle.round_trip.proofs.PlainRows.{PlainRows, FieldRow, field_row_lem, union_row, field_id, union_id_lem}
use Rattle.round_trip.proofs.Pieces.{Look, look-here, look-space, stands-is, rparen-token, need-lparen-behind, need-rparen, need-comma, need-colon, rparen-stands, comma-stands, closes, NumberRead, number_read}
use Rattle.round_trip.proofs.Types.{TreeRead, FieldsRead, count-read, ReadsTree, ReadsAll}
use Rattle.round_trip.proofs.Fields.{shown_tree, FieldRead, field-read}

module _ (spelling : Spelling) (text : List ℕ) where
  -- ---- one turn, of a Struct's fields or of a Union's

  module _ (item : ℕ → ℕ → Out Item) (most at rows : ℕ) (rest : List ℕ) where
    items-end : (next : ℕ) → item at rows ≡ done (end next) → drop next text ≡ rest → FieldsRead text (items_by item (suc most) at rows) ∅ rest
    unfolding items_by labels
    items-end next e d = record { got = record { trees = ∅; next = next }; reads = rw e; after = d; trees = refl }

    module _ (l : Label) (kids : Forest Label) (o : Out Tree) (s : List ℕ) (t : TreeRead text o l kids s) where
      items-last : (next : ℕ) → item at rows ≡ done (last t.got next) → drop next text ≡ rest
          → FieldsRead text (items_by item (suc most) at rows) (node l kids ∅) rest
      unfolding items_by labels
      items-last next e d =
          record { got = record { trees = single t.got; next = next }; reads = rw e; after = d; trees = λ j. node (t.row j) (t.below j) ∅ }

      items_more : (others : Forest Label) (next : ℕ) → item at rows ≡ done (more t.got next)
          → FieldsRead text (items_by item most next (rows - suc (count kids))) others rest
          → FieldsRead text (items_by item (suc most) at rows) (node l kids others) rest
      unfolding items_by labels
      items_more others next e f =
          record {
            got = record { trees = node t.got.row t.got.kids f.got.trees; next = f.got.next };
            reads = rw (e, count-read text t.got.kids kids t.below, f.reads);
            after = f.after;
            trees = λ j. node (t.row j) (t.below j) (f.trees j);
          }

  module _ (type : ℕ → ℕ → Out Tree) where
    -- ---- a Struct's fields

    struct-end : (at p rows : ℕ) (rest : List ℕ) → Look text at p (41 ∷ rest) → struct_item text type at rows ≡ done (end (p + 1))
    unfolding struct_item
    struct-end at p rows rest k =
        let t = rparen-token text at p rest k in
        rw (stands-is text rparen at (token (done RParen) p 1) t, here text rparen at (token (done RParen) p 1) (sym t) refl)

    no_end : (at : ℕ) → sort_of (token_at text at).kind ≡ double_quoted → stands text rparen at ≡ false
    no_end at e = stands-is text rparen at (token_at text at) refl ∙ ap (λ (k : ℕ). eqb k rparen) e

    struct-last : (l : Label) (kids : Forest Label) (at rows : ℕ) (rest : List ℕ) (f : FieldRead text type 0 l kids at rows (41 ∷ rest))
        → struct_item text type at rows ≡ done (last f.tree.got (f.tree.got.next + 1))
    unfolding struct_item
    struct-last l kids at rows rest f =
        let n = f.tree.got.next in
        rw (no_end at f.first, f.tree.reads, rparen-stands text n rest comma f.tree.after, need-rparen text n rest f.tree.after)

    struct_more : (l : Label) (kids : Forest Label) (at rows : ℕ) (t : List ℕ) (f : FieldRead text type 0 l kids at rows (44 ∷ t))
        → struct_item text type at rows ≡ done (more f.tree.got (f.tree.got.next + 1))
    unfolding struct_item
    struct_more l kids at rows t f =
        let n = f.tree.got.next in
        rw (no_end at f.first, f.tree.reads, comma-stands text n t comma f.tree.after, need-comma text n t f.tree.after)

    abbrev StructRead : ℕ → ℕ → ℕ → Forest Label → List ℕ → Type 0
    StructRead most at rows kids rest = FieldsRead text (items_by (struct_item text type) most at rows) kids rest

    -- a field is read, and then those behind the comma and the space
    struct-on : (l : Label) (kids others : Forest Label) (most at rows : ℕ) (t rest : List ℕ) → FieldRead text type 0 l kids at rows (44 ∷ 32 ∷ t)
        → ((a p : ℕ) → Look text a p t → StructRead most a (rows - suc (count kids)) others rest)
        → StructRead (suc most) at rows (node l kids others) rest
    struct-on l kids others most at rows t rest f h =
        let n = f.tree.got.next in
        items_more (struct_item text type) most at rows rest l kids (field_at text type 0 at rows) (44 ∷ 32 ∷ t) f.tree others (n + 1) (struct_more l kids at rows (32 ∷ t) f)
        (h (n + 1) (n + 1 + 1) (look-space text (n + 1) t (skip 1 n text (44 ∷ 32 ∷ t) f.tree.after)))

    struct-one : (l : Label) (kids : Forest Label) (most at rows : ℕ) (rest : List ℕ) → FieldRead text type 0 l kids at rows (41 ∷ rest)
        → StructRead (suc most) at rows (node l kids ∅) rest
    struct-one l kids most at rows rest f =
        let n = f.tree.got.next in
        items-last (struct_item text type) most at rows rest l kids (field_at text type 0 at rows) (41 ∷ rest) f.tree (n + 1) (struct-last l kids at rows rest f)
        (skip 1 n text (41 ∷ rest) f.tree.after)

    pub struct_fields : (kids : Forest Label) → ReadsAll spelling text type kids → PlainRows field kids → (most at p rows : ℕ) (rest : List ℕ)
        → length (roots kids) < most → count kids ≤ rows → Look text at p (struct_text (shown spelling kids) ++ (41 ∷ rest)) → StructRead most at rows kids rest
    unfolding struct_text shown
    struct_fields ∅ rd pl zero at p rows rest lt enough k = absurd (omega arith)
    struct_fields ∅ rd pl (suc most) at p rows rest lt enough k =
        items-end (struct_item text type) most at rows rest (p + 1) (struct-end at p rows rest k) (skip 1 p text (41 ∷ rest) k.on)
    struct_fields (node l kids ∅) rd pl zero at p rows rest lt enough k = absurd (omega arith)
    struct_fields (node l kids ∅) rd pl (suc most) at p rows rest lt enough k =
        struct-one l kids most at rows rest
        (field-read spelling text type 0 l kids at p rows (41 ∷ rest) rd.0 (field_row_lem l kids pl.0) (sym (field_id l kids pl.0)) (mark_stop rest) (omega arith) k)
    struct_fields (node l kids (node m ks os)) rd pl zero at p rows rest lt enough k = absurd (omega arith)
    struct_fields (node l kids (node m ks os)) rd pl (suc most) at p rows rest lt enough k =
        let t : List ℕ = struct_text (shown spelling (node m ks os)) ++ (41 ∷ rest) in
        let e = append_assoc (field_text (shown_tree spelling l kids)) (bytes ", " ++ struct_text (shown spelling (node m ks os))) (41 ∷ rest) in
        struct-on l kids (node m ks os) most at rows t rest
        (field-read spelling text type 0 l kids at p rows (44 ∷ 32 ∷ t) rd.0 (field_row_lem l kids pl.0) (sym (field_id l kids pl.0)) (comma_stop (32 ∷ t)) (omega arith) (rw e at k))
        (λ a q k'. struct_fields (node m ks os) rd.1 pl.2 most a q (rows - suc (count kids)) rest (omega arith) (omega arith) k')

    -- ---- a Union's fields

    union-end : (at rows : ℕ) (rest : List ℕ) → drop at text ≡ 41 ∷ rest → union_item text type at rows ≡ done (end (at + 1))
    unfolding union_item
    union-end at rows rest e = rw (rparen-stands text at rest rparen e, need-rparen text at rest e)

    -- id: ("name": type)
    union-field : (l : Label) (kids : Forest Label) (at rows : ℕ) (t rest : List ℕ) (i : NumberRead text 128 127 at id_of l.union_id (58 ∷ 32 ∷ 40 ∷ t))
        → FieldRead text type (id_of i.token.kind) l kids (i.token.next + 1 + 1 + 1) rows (41 ∷ rest) → TreeRead text (P.union_field text type at rows) l kids rest
    unfolding P.union_field
    union-field l kids at rows t rest i f =
        let n = i.token.next in
        let c = f.tree.got.next in
        record {
          got = record { row = f.tree.got.row; kids = f.tree.got.kids; next = c + 1 };
          reads =
              rw (
                i.reads,
                need-colon text n (32 ∷ 40 ∷ t) i.after,
                need-lparen-behind text (n + 1) t (skip 1 n text (58 ∷ 32 ∷ 40 ∷ t) i.after),
                f.tree.reads,
                closes text f.tree.got.row f.tree.got.kids c rest f.tree.after,
              );
          after = skip 1 c text (41 ∷ rest) f.tree.after;
          row = f.tree.row;
          below = f.tree.below;
        }

    union_more : (l : Label) (kids : Forest Label) (at rows : ℕ) (t rest : List ℕ) → drop at text ≡ 44 ∷ t
        → (u : TreeRead text (P.union_field text type (at + 1) rows) l kids rest) → union_item text type at rows ≡ done (more u.got u.got.next)
    unfolding union_item
    union_more l kids at rows t rest e u = rw (comma-stands text at t rparen e, need-comma text at t e, u.reads)

    abbrev UnionRead : ℕ → ℕ → ℕ → Forest Label → List ℕ → Type 0
    UnionRead most at rows kids rest = FieldsRead text (items_by (union_item text type) most at rows) kids rest

    -- a field is read, and then those behind its closing mark
    union-on : (l : Label) (kids others : Forest Label) (most at rows : ℕ) (t s rest : List ℕ) → drop at text ≡ 44 ∷ t
        → TreeRead text (P.union_field text type (at + 1) rows) l kids s
        → ((a : ℕ) → drop a text ≡ s → UnionRead most a (rows - suc (count kids)) others rest)
        → UnionRead (suc most) at rows (node l kids others) rest
    union-on l kids others most at rows t s rest e u h =
        items_more (union_item text type) most at rows rest l kids (P.union_field text type (at + 1) rows) s u others u.got.next (union_more l kids at rows t s e u)
        (h u.got.next u.after)

    abbrev member_text : Label → Forest Label → List ℕ → List ℕ
    member_text l kids s = digits l.union_id ++ (58 ∷ 32 ∷ 40 ∷ (field_text (shown_tree spelling l kids) ++ (41 ∷ s)))

    member-text : (l : Label) (kids : Forest Label) (u s : List ℕ)
        → (digits l.union_id ++ (bytes ": (" ++ (field_text (shown_tree spelling l kids) ++ (bytes ")" ++ u)))) ++ s ≡ member_text l kids (u ++ s)
    member-text l kids u s =
        append_assoc (digits l.union_id) _ s
        ∙ ap (λ (x : List ℕ). digits l.union_id ++ (58 ∷ 32 ∷ 40 ∷ x)) (append_assoc (field_text (shown_tree spelling l kids)) (41 ∷ u) s)

    member-read : (l : Label) (kids : Forest Label) (at p rows : ℕ) (s : List ℕ) → ReadsTree spelling text type l kids → FieldRow l → l.union_id < 128
        → suc (count kids) ≤ rows → Look text at p (member_text l kids s) → TreeRead text (P.union_field text type at rows) l kids s
    member-read l kids at p rows s rd f small enough k =
        numbered (number_read text 128 127 id_of l.union_id at p l.union_id (58 ∷ 32 ∷ 40 ∷ t) (omega arith) (omega arith) refl (unfold is_separator in tt) k)
      where
        t : List ℕ
        t = field_text (shown_tree spelling l kids) ++ (41 ∷ s)

        numbered : NumberRead text 128 127 at id_of l.union_id (58 ∷ 32 ∷ 40 ∷ t) → TreeRead text (P.union_field text type at rows) l kids s
        numbered i =
            let a : ℕ = i.token.next + 1 + 1 + 1 in
            union-field l kids at rows t s i
            (field-read spelling text type (id_of i.token.kind) l kids a a rows (41 ∷ s) rd f i.value (mark_stop s) enough
            (look-here text a t
            (skip 1 (i.token.next + 1 + 1) text (40 ∷ t) (skip 1 (i.token.next + 1) text (32 ∷ 40 ∷ t) (skip 1 i.token.next text (58 ∷ 32 ∷ 40 ∷ t) i.after)))))

    pub union-fields : (kids : Forest Label) → ReadsAll spelling text type kids → PlainRows union_field kids → (most at rows : ℕ) (rest : List ℕ)
        → length (roots kids) < most → count kids ≤ rows → drop at text ≡ union_text (shown spelling kids) ++ (41 ∷ rest) → UnionRead most at rows kids rest
    unfolding union_text shown
    union-fields ∅ rd pl zero at rows rest lt enough e = absurd (omega arith)
    union-fields ∅ rd pl (suc most) at rows rest lt enough e =
        items-end (union_item text type) most at rows rest (at + 1) (union-end at rows rest e) (skip 1 at text (41 ∷ rest) e)
    union-fields (node l kids others) rd pl zero at rows rest lt enough e = absurd (omega arith)
    union-fields (node l kids others) rd pl (suc most) at rows rest lt enough e =
        let s : List ℕ = union_text (shown spelling others) ++ (41 ∷ rest) in
        let t : List ℕ = member_text l kids s in
        let e₁ : drop at text ≡ 44 ∷ 32 ∷ t = e ∙ ap (λ (x : List ℕ). 44 ∷ 32 ∷ x) (member-text l kids (union_text (shown spelling others)) (41 ∷ rest)) in
        union-on l kids others most at rows (32 ∷ t) s rest e₁
        (member-read l kids (at + 1) (at + 1 + 1) rows s rd.0 (union_row l kids pl.0) (union_id_lem l kids pl.0) (omega arith)
        (look-space text (at + 1) t (skip 1 at text (44 ∷ 32 ∷ t) e₁)))
        (λ a e'. union-fields others rd.1 pl.2 most a (rows - suc (count kids)) rest (omega arith) (omega arith) e')
