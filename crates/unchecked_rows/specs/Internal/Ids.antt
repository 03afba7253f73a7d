-- How the code finds union ids fresh, one after the other, by a bit for each that it met. Nothing here has to be
-- believed, since no public function's contract cites it.
use Rattle.std.specs.Prelude.{Bool, true, false, not, ◌&&◌, List, [], ◌∷◌, ℕ, ◌*◌, ◌/◌, ◌%◌, ◌^◌, nat_lt, nat_eq}
use Rattle.std.specs.Int.RustNames.{bit_and, bit_or}
use Rattle.std.proofs.Math.Option.{Option, none, some}
use Rattle.unchecked_rows.specs.Internal.Beside.{beside}

-- Ids from 0 to 127, each once, and none whose bit is set.
unfoldable pub fresh_ids : ℕ → List ℕ → Bool
fresh_ids seen [] = true
fresh_ids seen (x ∷ xs) = nat_lt x 128 && not (nat_eq (bit_and (seen / 2 ^ x) 1) 1) && fresh_ids (bit_or seen (1 * 2 ^ x % 2 ^ 128)) xs

abbrev pub all_fresh : ℕ → Option (List ℕ) → Bool
all_fresh seen none = false
all_fresh seen (some ids) = fresh_ids seen ids

-- Whether the ids of the rows from row `at` up to row `end` are.
unfoldable pub left_fit : List ℕ → ℕ → ℕ → ℕ → Bool
left_fit table seen at end = all_fresh seen (beside 3 table at end)
