-- Taking a column out (docs/SCOPE.md, 'Columns taken out'): a field of a Struct goes with all that stands
-- below it, and the names and zones that stay are packed into fresh lent rows and text.
use Rattle.std.specs.Prelude.{List, [], ◌∷◌, ℕ, zero, suc, length, nat_lt, if◌then◌else◌}
use Rattle.tokenizer.specs.Answer.{Out, refused, done, refuse, ◌>>=◌}
use Rattle.datatype.specs.Kind.{struct_kind}
use Rattle.datatype.specs.Tree.{Forest, ∅, node, roots, Label}
use Rattle.datatype.specs.Table.{tree_of}
use Rattle.row_table.specs.Sound.{struct_fields}
use Rattle.packing.specs.Packed.{size_fits, packed_rows, packed_bytes, packed_size, size_by}
use Rattle.packing.specs.declared.Packed.{Packed}
use Rattle.column_out.specs.declared.NotTaken.{NotTaken}
use Rattle.column_out.specs.declared.NotTaken.TheVariants.{NotSound, NotStruct, NoSuchField, NoRoom}

-- A run of trees without its n-th, counted from 0.
abbrev pub without : {A : Type 0} → ℕ → Forest A → Forest A
without n ∅ = ∅
without zero (node a kids next) = next
without (suc n) (node a kids next) = node a kids (without n next)

-- The trees of a run, each by itself, in their order.
abbrev pub trees : {A : Type 0} → Forest A → List (Forest A)
trees ∅ = []
trees (node a kids next) = node a kids ∅ ∷ trees next

-- A tree without its root's n-th field.
abbrev pub taken_out : {A : Type 0} → ℕ → Forest A → Forest A
taken_out n ∅ = ∅
taken_out n (node root fields next) = node root (without n fields) next

-- The tree that stays: 17 where the tree is not sound, 25 where its root is not a Struct, 29 where there is no such field.
unfoldable pub tree_left : List ℕ → List ℕ → List ℕ → ℕ → Out (Forest Label)
tree_left text names table n = do
  fields ← struct_fields text names table
  if nat_lt n (length (roots fields)) then done (taken_out n (tree_of text names table)) else refuse 29

-- The same where so many words and bytes are lent: 28 where they have no room for it.
unfoldable pub column_out : List ℕ → List ℕ → List ℕ → ℕ → ℕ → ℕ → Out (Forest Label)
column_out text names table n words bytes = do
  f ← tree_left text names table n
  if size_fits (packed_size f) words bytes then done f else refuse 28

-- ---- the answer, and what the lent rows and the lent text hold behind it; a refusal changes none of them

abbrev pub rows_by : Out (Forest Label) → List ℕ → List ℕ
rows_by (refused r) rows = rows
rows_by (done f) rows = packed_rows f rows

abbrev pub bytes_by : Out (Forest Label) → List ℕ → List ℕ
bytes_by (refused r) bytes = bytes
bytes_by (done f) bytes = packed_bytes f bytes

module _ (text names table : List ℕ) (n : ℕ) (rows bytes : List ℕ) where
  unfoldable pub column_out_answer : Out Packed
  column_out_answer = size_by (column_out text names table n (length rows) (length bytes))

  unfoldable pub column_out_rows : List ℕ
  column_out_rows = rows_by (column_out text names table n (length rows) (length bytes)) rows

  unfoldable pub column_out_bytes : List ℕ
  column_out_bytes = bytes_by (column_out text names table n (length rows) (length bytes)) bytes

-- What `Struct()` says.
abbrev pub empty_struct : Label
empty_struct = record { kind = struct_kind; role = 0; union_id = 0; number = 0; scale = 0; name = []; zone = [] }

-- ---- the answers of the code

-- The number of each refusal.
abbrev pub number_of : NotTaken → ℕ
number_of NotSound = 17
number_of NotStruct = 25
number_of NoSuchField = 29
number_of NoRoom = 28
