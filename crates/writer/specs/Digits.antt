-- A number in decimal digits.
use Rattle.std.specs.Prelude.{List, [], ◌∷◌, ◌++◌, ℕ, zero, suc, ◌+◌, ◌/◌, ◌%◌, nat_lt, if◌then◌else◌}

-- Decimal digits. The first number only falls, and never runs out where it is above the number printed.
unfoldable pub digits_with : ℕ → ℕ → List ℕ
digits_with zero n = []
digits_with (suc f) n =
    let longer = digits_with f (n / 10) ++ ((48 + n % 10) ∷ []) in
    if nat_lt n 10 then (48 + n) ∷ [] else longer

unfoldable pub digits : ℕ → List ℕ
digits n = digits_with (suc n) n
