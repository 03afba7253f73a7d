-- Answers as two numbers: the status, 0 or the refusal's number, and the value, 0 where it was refused.
use Rattle.std.specs.Prelude.{Option, Some, None, Bool, true, false, List, [], ◌∷◌, ℕ}
use Rattle.tokenizer.specs.Answer.{Out, refused, done}

unfoldable pub status_of : {A : Type 0} → Out A → ℕ
status_of (refused r) = r.number
status_of (done n) = 0

unfoldable pub value_of : Out ℕ → ℕ
value_of (refused r) = 0
value_of (done n) = n

-- Where in a text it was refused; 0 where it was not, or where the refusal has no place.
abbrev pub place_or_0 : Option ℕ → ℕ
place_or_0 None = 0
place_or_0 (Some place) = place

unfoldable pub place_of : {A : Type 0} → Out A → ℕ
place_of (refused r) = place_or_0 r.place
place_of (done a) = 0

-- Yes and no as numbers.
unfoldable pub flag : Bool → ℕ
flag true = 1
flag false = 0

-- A verdict as two numbers beside the status: 1 for yes, else 0; the first row that breaks a rule, else 0.
unfoldable pub yes_of : Out (Option ℕ) → ℕ
yes_of (refused r) = 0
yes_of (done None) = 1
yes_of (done (Some i)) = 0

unfoldable pub row_of : Out (Option ℕ) → ℕ
row_of (refused r) = 0
row_of (done None) = 0
row_of (done (Some i)) = i

-- The first need that is not met is told as a verdict's row is.
abbrev pub unmet_of : Out (Option ℕ) → ℕ
unmet_of answer = row_of answer

-- A number of a name's place, 0 where the name is empty.
unfoldable pub if_named : List ℕ → ℕ → ℕ
if_named [] n = 0
if_named (c ∷ name) n = n
