-- A rewrite's outcome as five numbers, each 0 where there is none.
use Rattle.std.specs.Prelude.{ℕ}
use Rattle.rewrite.specs.Rewrite.{Outcome, text, not_read, not_printed, not_read_back, differs}
use Rattle.arrow_types.specs.Status.{place_or_0}

-- The step that ended it: 0 where none refused, 1 reading, 2 printing, 3 reading back, 4 comparing; the printed length and the
-- row count; the refusal's number and its place, in the text lent or, of reading back, in the text printed.
pub record Told : Type 0 where
  pub step : ℕ
  pub bytes : ℕ
  pub rows : ℕ
  pub number : ℕ
  pub place : ℕ

abbrev pub told : ℕ → ℕ → ℕ → ℕ → ℕ → Told
told step bytes rows number place = record { step = step; bytes = bytes; rows = rows; number = number; place = place }

unfoldable pub told_of : Outcome → Told
told_of (text bytes rows) = told 0 bytes rows 0 0
told_of (not_read r) = told 1 0 0 r.number (place_or_0 r.place)
told_of (not_printed n) = told 2 0 0 n 0
told_of (not_read_back r) = told 3 0 0 r.number (place_or_0 r.place)
told_of differs = told 4 0 0 0 0
