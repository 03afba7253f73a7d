-- Union ids as the Rust's `UnionFields::try_new` judges them: 0 to 127, each once.
use Rattle.std.specs.Prelude.{Bool, false, List, ℕ, ◌-◌}
use Rattle.std.proofs.Math.Option.{Option, none, some}
use Rattle.datatype.specs.Kind.{ids_fit}
use Rattle.unchecked_rows.specs.Siblings.{siblings}

abbrev pub all_fit : Option (List ℕ) → Bool
all_fit none = false
all_fit (some ids) = ids_fit ids

-- Whether the union ids, word 3, of the rows that stand side by side from row `first` up to row `end` are 0 to 127 and
-- distinct.
unfoldable pub type_ids_fit : List ℕ → ℕ → ℕ → Bool
type_ids_fit table first end = all_fit (siblings (end - first) 3 table first end)
