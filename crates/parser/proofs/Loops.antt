-- Fields turn by turn: what holds before each turn of a loop over fields, whatever a turn reads.
use mathlib.Core.Path.{◌≡◌, refl, sym, ap, ◌∙◌}
use mathlib.Core.List.{List}
use Prim.Native.Nat.{ℕ, suc, ◌+◌, ◌-◌, ◌*◌, ◌≤◌, ◌<◌}
use native.Mathlib.Omega.{arith}
use lib.ListN.{length}
use Rattle.tokenizer.specs.Answer.{Refusal, Out, refused, done, ◌>>=◌}
use Rattle.datatype.specs.Tree.{Forest, ∅, node, count, Row}
use Rattle.datatype.specs.Table.{row_words, table_of}
use Rattle.parser.specs.Parse.{Tree, Fields, Item, end, last, more, single, rows_in, fields_from, items_by}
use Rattle.parser.specs.Internal.Steps.{rows_left, Stored}
use Rattle.parser.proofs.Stores.{append, count_append, append_none, append_append, rows_from, with_rows, left_behind, follows}
use Rattle.parser.proofs.Matched.{GotTree}
use Rattle.parser.proofs.FieldLaws.{tree_of}

-- fields behind those that were read before them
abbrev prepend : Forest Row → Out Fields → Out Fields
prepend f (refused r) = refused r
prepend f (done fs) = done (record { trees = append f fs.trees; next = fs.next })

prepend_none : (o : Out Fields) → prepend ∅ o ≡ o
prepend_none (refused r) = refl
prepend_none (done fs) = refl

prepend_more : (f : Forest Row) (t : Tree) (o : Out Fields)
    → prepend f (o >>= (λ fs. done (record { trees = node t.row t.kids fs.trees; next = fs.next }))) ≡ prepend (append f (single t)) o
prepend_more f t (refused r) = refl
prepend_more f t (done fs) = ap (λ (g : Forest Row). done (record { trees = g; next = fs.next })) (sym (append_append f (single t) fs.trees))

-- before a turn: the trees read so far, their rows, and what is left to be read until the fields make the type
pub record Loop (type : Out Tree) (made : Fields → Out Tree) (item : ℕ → ℕ → Out Item) (before now : List ℕ) (at used : ℕ) : Type 0 where
  pub trees : Forest Row
  pub most : ℕ
  pub enough : rows_left before - used < most
  pub counted : used ≡ count trees
  pub so_far : type ≡ (prepend trees (items_by item most at (rows_left before - used)) >>= made)
  pub stored : Stored trees before now

module _ (type : Out Tree) (made : Fields → Out Tree) (item : ℕ → ℕ → Out Item) (before : List ℕ) where
  pub loop-start : (first : ℕ) → type ≡ (items_by item (suc (rows_left before)) first (rows_left before) >>= made) → Loop type made item before before first 0
  unfolding table_of
  loop-start first h =
      let e : rows_left before ≡ rows_left before - 0 = omega arith in
      record {
        trees = ∅;
        most = suc (rows_left before);
        enough = omega arith;
        counted = refl;
        so_far = h ∙ ap (λ (o : Out Fields). o >>= made) (sym (prepend_none _) ∙ ap (λ (i : ℕ). prepend ∅ (items_by item (suc (rows_left before)) first i)) e);
        stored = record { room = omega arith; rows = refl };
      }

  module _ (now : List ℕ) (at used : ℕ) (l : Loop type made item before now at used) where
    -- a field begins behind those that were read
    pub loop-most : row_words * used ≤ length before
    loop-most = let c = l.counted in let m = l.stored.room in omega arith

    here : rows_left (rows_from used now) ≡ rows_left before - used
    here = left_behind l.trees before now used l.counted l.stored

    -- what one more turn makes of the fields
    turned : (o : Out Item) → item at (rows_left (rows_from used now)) ≡ o → type ≡ (prepend l.trees (o >>= fields_from (items_by item (l.most - 1)) (rows_left before - used)) >>= made)
    unfolding items_by
    turned o e =
        let n = l.enough in
        let m : l.most ≡ suc (l.most - 1) = omega arith in
        l.so_far ∙ ap (λ (k : ℕ). prepend l.trees (items_by item k at (rows_left before - used)) >>= made) m
        ∙ ap (λ (o : Out Item). prepend l.trees (o >>= fields_from (items_by item (l.most - 1)) (rows_left before - used)) >>= made) (ap (item at) (sym here) ∙ e)

    pub loop-lost : (x : Refusal) → item at (rows_left (rows_from used now)) ≡ refused x → type ≡ refused x
    loop-lost x e = turned (refused x) e

    pub loop-end : (n : ℕ) → item at (rows_left (rows_from used now)) ≡ done (end n) → type ≡ made (record { trees = l.trees; next = n })
    loop-end n e = turned (done (end n)) e ∙ ap (λ (f : Forest Row). made (record { trees = f; next = n })) (append_none l.trees)

    -- a field of so many rows behind those that were read
    module _ (o : Out Tree) (n k : ℕ) (sub : List ℕ) (g : GotTree o n k (rows_from used now) sub) where
      abbrev pub all_read : Forest Row
      all_read = append l.trees (node g.row g.kids ∅)

      abbrev tree : Tree
      tree = tree_of o n k (rows_from used now) sub g

      pub all_stored : Stored all_read before (with_rows used now sub)
      all_stored = follows l.trees before now used l.counted l.stored (node g.row g.kids ∅) sub g.stored

      pub all_counted : used + k ≡ count all_read
      all_counted = let c = l.counted in let u = g.rows in omega (arith, count_append l.trees (node g.row g.kids ∅))

      pub loop-last : (m : ℕ) → item at (rows_left (rows_from used now)) ≡ done (last tree m) → type ≡ made (record { trees = all_read; next = m })
      loop-last m e = turned (done (last tree m)) e

      pub loop-more : (m : ℕ) → item at (rows_left (rows_from used now)) ≡ done (more tree m) → Loop type made item before (with_rows used now sub) m (used + k)
      loop-more m e =
          let u = g.rows in
          let w = loop-most in
          let r = all_stored.room in
          let c = all_counted in
          let q = l.enough in
          let i : rows_left before - used - rows_in tree ≡ rows_left before - (used + k) = omega arith in
          record {
            trees = all_read;
            most = l.most - 1;
            enough = omega arith;
            counted = all_counted;
            so_far =
                turned (done (more tree m)) e
                ∙ ap (λ (o : Out Fields). o >>= made)
                (prepend_more l.trees tree (items_by item (l.most - 1) m (rows_left before - used - rows_in tree))
                ∙ ap (λ (j : ℕ). prepend all_read (items_by item (l.most - 1) m j)) i);
            stored = all_stored;
          }
