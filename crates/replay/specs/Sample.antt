-- Stored samples: numbers in decimal, each with one byte behind it, and bytes with their count before them and one byte
-- behind them. What stands past the end of a sample is empty.
use Rattle.std.specs.Prelude.{None, Some, Bool, true, false, List, [], ◌∷◌, ℕ, zero, suc, ◌+◌, ◌*◌, ◌-◌, min, length, drop, nat_lt, if◌then◌else◌}
use Rattle.std.specs.Option.{option_or}
use Rattle.replay.specs.declared.Number.{Number}
use Rattle.replay.specs.declared.Agreement.{Agreement}

-- A number with one more digit behind it, and never more than 32 bits hold.
abbrev pub shift : ℕ → ℕ → ℕ
shift value digit = min (10 * value + digit) 4294967295

-- The number at the head of bytes, which stands at a place, with digits of a value before it: it ends with a byte below
-- the digits.
unfoldable pub number_from : ℕ → ℕ → List ℕ → Number
number_from value at [] = record { value = value; next = at }
number_from value at (b ∷ bs) =
    let more = number_from (shift value (b - 48)) (suc at) bs in
    if nat_lt b 48 then record { value = value; next = suc at } else more

unfoldable pub number_at : List ℕ → ℕ → Number
number_at sample at = number_from 0 at (drop at sample)

-- So many numbers from a place on, and the place behind them.
unfoldable pub numbers_at : List ℕ → ℕ → ℕ → List ℕ
numbers_at sample zero at = []
numbers_at sample (suc n) at = (number_at sample at).value ∷ numbers_at sample n (number_at sample at).next

unfoldable pub after_numbers : List ℕ → ℕ → ℕ → ℕ
after_numbers sample zero at = at
after_numbers sample (suc n) at = after_numbers sample n (number_at sample at).next

-- The place behind so many bytes and the byte that ends them.
abbrev pub after_part : List ℕ → ℕ → ℕ → ℕ
after_part sample at size = min (at + size + 1) (length sample)

-- One more, and never more than 32 bits hold.
abbrev pub one_more : ℕ → ℕ
one_more n = min (n + 1) 4294967295

-- A agreement of no case yet, at a place.
abbrev pub start_at : ℕ → Agreement
start_at next = record { all = 0; alike = 0; first = None; next = next }

-- A agreement with one case more; the first that is not alike is kept by its number, from 1.
unfoldable pub counted : Agreement → Bool → ℕ → Agreement
counted t true next = record { all = one_more t.all; alike = one_more t.alike; first = t.first; next = next }
counted t false next = record { all = one_more t.all; alike = t.alike; first = option_or t.first (Some (one_more t.all)); next = next }

-- ---- all cases

-- The most words, half words and bytes that a case is lent.
abbrev pub most_words : ℕ
most_words = 13000

abbrev pub most_halves : ℕ
most_halves = 13500

abbrev pub most_bytes : ℕ
most_bytes = 20000

-- A agreement with so many cases more, each by one step.
unfoldable pub times : (Agreement → Agreement) → ℕ → Agreement → Agreement
times one zero t = t
times one (suc n) t = times one n (one t)

-- The agreement of a whole sample: how many cases, and then the cases.
unfoldable pub replayed : (Agreement → Agreement) → List ℕ → Agreement
replayed one sample = times one (number_at sample 0).value (start_at (number_at sample 0).next)
