-- How the code knows a number and finds its way through it; nothing here has to be believed.
use Rattle.std.specs.Prelude.{Bool, false, ◌&&◌, ◌||◌, T, List, [], ◌∷◌, ℕ, ◌-◌, ◌^◌, nat_eq, nat_le, if◌then◌else◌}
use Rattle.tokenizer.specs.Answer.{Out, done, refuse}
use Rattle.tokenizer.specs.Text.{all}
use Rattle.tokenizer.specs.Token.{is_digit, number_from}
use Rattle.tokenizer.specs.declared.TokenKind.{TokenKind}
use Rattle.tokenizer.specs.declared.TokenKind.TheVariants.{Integer}

-- A word begins as a number does: with a minus sign or a digit.
abbrev pub begins_number : List ℕ → Bool
begins_number [] = false
begins_number (c ∷ s) = nat_eq c 45 || is_digit c

abbrev pub BeginsNumber : List ℕ → Type 0
BeginsNumber s = T (begins_number s)

-- The greatest magnitude.
abbrev pub limit : Bool → ℕ
limit negative = if negative then 2 ^ 63 else (2 ^ 63 - 1)

-- The token of a number of which v was spelled before the digits that are left.
unfoldable pub kind_from : Bool → ℕ → List ℕ → Out TokenKind
kind_from negative v digits =
    if all is_digit digits && nat_le (number_from v digits) (limit negative) then done (Integer negative (number_from v digits)) else refuse 8
