-- Parents of rows (document 02, 'Rows that know their parent'): word 11 of a row is its parent's row number, 0 for the
-- root.
use Rattle.std.specs.Prelude.{Bool, true, ◌&&◌, List, [], ◌∷◌, ◌++◌, ℕ, zero, suc, ◌+◌, ◌*◌, ◌/◌, length, set, nat_lt, nat_eq, if◌then◌else◌}
use Rattle.datatype.specs.Tree.{Forest, ∅, node, count, Row}
use Rattle.datatype.specs.Table.{row_words, table_of, rows_lent, rows_at, parent_word_at}

-- ---- of a run of trees

-- Words 11 of a run's rows, in their order.
abbrev pub parent_column : Forest Row → List ℕ
parent_column ∅ = []
parent_column (node r kids next) = r.parent ∷ (parent_column kids ++ parent_column next)

-- What they are to be where the run's first row is row i and its roots stand under row p.
unfoldable pub parents_from : {A : Type 0} → ℕ → ℕ → Forest A → List ℕ
parents_from p i ∅ = []
parents_from p i (node a kids next) = p ∷ (parents_from i (suc i) kids ++ parents_from p (i + suc (count kids)) next)

-- The parents of a tree's rows.
abbrev pub parents_of : {A : Type 0} → Forest A → List ℕ
parents_of f = parents_from 0 0 f

unfoldable pub with_parent : ℕ → Row → Row
with_parent p r =
    record {
      kind = r.kind;
      role = r.role;
      union_id = r.union_id;
      number = r.number;
      scale = r.scale;
      home = r.home;
      name_start = r.name_start;
      name_length = r.name_length;
      zone_start = r.zone_start;
      zone_length = r.zone_length;
      parent = p;
    }

-- The same run with its parents in the rows.
unfoldable pub parented_from : ℕ → ℕ → Forest Row → Forest Row
parented_from p i ∅ = ∅
parented_from p i (node r kids next) = node (with_parent p r) (parented_from i (suc i) kids) (parented_from p (i + suc (count kids)) next)

abbrev pub parented : Forest Row → Forest Row
parented f = parented_from 0 0 f

-- The table of a tree with the parents in it.
abbrev pub table_with : Forest Row → List ℕ
table_with f = table_of (parented f)

-- A run has its parents right: soundness asks it of a tree.
unfoldable pub parents_right : ℕ → ℕ → Forest Row → Bool
parents_right p i ∅ = true
parents_right p i (node r kids next) = nat_eq r.parent p && parents_right i (suc i) kids && parents_right p (i + suc (count kids)) next

-- ---- of any table

-- The last of the first n rows whose subtree holds row i too; row 0 where none does.
unfoldable pub holder : List ℕ → ℕ → ℕ → ℕ
holder table i zero = 0
holder table i (suc p) =
    let before = holder table i p in
    if nat_lt i (p + rows_at table p) then p else before

-- The parent of row i: the last row before it whose subtree holds it; 0 for the root.
abbrev pub parent_at : List ℕ → ℕ → ℕ
parent_at table i = holder table i i

-- A table with the parents of its first n rows set.
unfoldable pub parents_set : List ℕ → ℕ → List ℕ
parents_set table zero = table
parents_set table (suc i) = set (parents_set table i) (row_words * i + 11) (parent_at table i)

-- A table with the parents of its rows set, of as many as it holds and 1,024 at the most.
unfoldable pub with_parents : List ℕ → List ℕ
with_parents table = parents_set table (rows_lent (length table))

-- Whether n rows from row i on have their parents.
unfoldable pub fit_from : List ℕ → ℕ → ℕ → Bool
fit_from table i zero = true
fit_from table i (suc n) = nat_eq (parent_word_at table i) (parent_at table i) && fit_from table (suc i) n

-- Whether each whole row of a table has its parent.
unfoldable pub parents_fit : List ℕ → Bool
parents_fit table = fit_from table 0 (length table / row_words)
