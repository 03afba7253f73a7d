-- The numbers of the refusals (docs/SCOPE.md, 'Needed columns').
use Rattle.std.specs.Prelude.{ℕ}
use Rattle.needs.specs.declared.NotChecked.{NotChecked}
use Rattle.needs.specs.declared.NotChecked.TheVariants.{NotSound, NotStruct, TooManyNeeds, WrongName}

-- The number of each refusal.
abbrev pub number_of : NotChecked → ℕ
number_of NotSound = 17
number_of NotStruct = 25
number_of TooManyNeeds = 26
number_of WrongName = 27
