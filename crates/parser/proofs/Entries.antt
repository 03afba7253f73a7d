-- Rows read back: Map's entries and union ids.
use mathlib.Core.Path.{◌≡◌, refl, ap, ◌∙◌}
use mathlib.Core.List.{List, map}
use Prim.Native.Nat.{ℕ, ◌-◌}
use native.Mathlib.Omega.{arith}
use Rattle.datatype.specs.Kind.{entries_refusal, ids_fit}
use Rattle.datatype.specs.Tree.{Forest, ∅, node, count, roots, Row}
use Rattle.unchecked_rows.specs.Internal.Run.{entries_of}
use Rattle.unchecked_rows.specs.UnionFields.{type_ids_fit}
use Rattle.unchecked_rows.specs.MapEntries.{entries_refusal_at}
use Rattle.unchecked_rows.proofs.UnionLaws.{type_ids_fit_lem}
use Rattle.unchecked_rows.proofs.EntryLaws.{entries_nest}
use Rattle.unchecked_rows.proofs.Runs.{Is, nests_is, forest_is}
use Rattle.tokenizer.specs.Answer.{Out}
use Rattle.parser.specs.Parse.{Tree}
use Rattle.parser.specs.Internal.Steps.{Stored}
use Rattle.parser.proofs.Stores.{first_words, same_length}
use Rattle.parser.proofs.Matched.{GotTree}

-- what was stored is there
stored_is : (f : Forest Row) (n : ℕ) (before after : List ℕ) → Stored f before after → n ≡ count f → Is after 0 (n - 0) f
stored_is f n before after s e =
    let z : n - 0 ≡ count f = omega arith in
    let r = s.room in
    let l = same_length f before after s in
    rw z (record { room = omega arith; rows = first_words f before after s; size = refl })

module _ (o : Out Tree) (n k : ℕ) (before after : List ℕ) (g : GotTree o n k before after) where
  -- the rows are refused as entries as the tree is
  pub entries-are : entries_refusal_at after 0 ≡ entries_refusal g.row.role g.row.kind (map (λ r. r.role) (roots g.kids))
  entries-are =
      let u = g.rows in
      let is = stored_is (node g.row g.kids ∅) k before after g.stored (omega arith) in
      entries_nest after 0 k (nests_is after 0 (k - 0) (node g.row g.kids ∅) is) (omega arith) ∙ ap entries_of (forest_is after 0 (k - 0) (node g.row g.kids ∅) is)

-- the ids of the rows are those of the trees
pub ids-read : (f : Forest Row) (k : ℕ) (before after : List ℕ) → Stored f before after → k ≡ count f → type_ids_fit after 0 k ≡ ids_fit (map (λ r. r.union_id) (roots f))
ids-read f k before after s e =
    let is = stored_is f k before after s e in
    type_ids_fit_lem after 0 k (nests_is after 0 (k - 0) f is) (omega arith) ∙ ap (λ (f : Forest Row). ids_fit (map (λ r. r.union_id) (roots f))) (forest_is after 0 (k - 0) f is)
