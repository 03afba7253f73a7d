-- Map's entries (document 01, 'The row table'), as a row of any table with its subtree.
use Rattle.std.specs.Prelude.{List, [], ℕ, ◌+◌, ◌*◌, ◌-◌, length, get_or, nat_le, if◌then◌else◌}
use Rattle.std.specs.declared.result.Result.{Result}
use Rattle.std.specs.declared.result.Result.TheVariants.{Ok, Err}
use Rattle.std.proofs.Math.Option.{Option, none, some}
use Rattle.tokenizer.specs.declared.refusal.Refusal as R
use Rattle.tokenizer.specs.Answer.{number_of}
use Rattle.datatype.specs.Kind.{entries_refusal}
use Rattle.datatype.specs.Table.{row_words, rows_at}
use Rattle.unchecked_rows.specs.Siblings.{siblings}

abbrev pub listed : Option (List ℕ) → List ℕ
listed none = []
listed (some ws) = ws

-- The roles, word 2, of a row's fields: of none where they do not stand side by side in the table.
unfoldable pub field_roles : List ℕ → ℕ → List ℕ
field_roles table i = listed (siblings (rows_at table i - 1) 2 table (i + 1) (i + rows_at table i))

-- The number that an answer refuses with, 0 where it does not.
abbrev pub refused_with : {A : Type 0} → Result A R.Refusal → ℕ
refused_with (Ok value) = 0
refused_with (Err e) = number_of e

-- The number that the entries are refused with, 0 where they are not: 14 where the row is not in the table.
unfoldable pub entries_refusal_at : List ℕ → ℕ → ℕ
entries_refusal_at table i =
    let refusal = entries_refusal (get_or table (row_words * i + 2) 0) (get_or table (row_words * i + 0) 0) (field_roles table i) in
    if nat_le (row_words * (i + 1)) (length table) then refusal else 14
