-- Where a quoted string ends: how the code finds its way. Contracts of private functions cite these; nothing
-- here has to be believed.
use Rattle.std.specs.Prelude.{Bool, not, ◌&&◌, List, ℕ, ◌+◌, length, drop, nat_lt, nat_eq, if◌then◌else◌}
use Rattle.std.proofs.Math.Option.{Option, none, some}
use Rattle.std.specs.declared.option.Option as S
use Rattle.std.specs.declared.option.Option.TheVariants.{Some, None}
use Rattle.tokenizer.specs.Token.{until_quote}

-- A byte ends the string.
abbrev pub closes : ℕ → Bool → ℕ → Bool
closes quote escaped c = nat_eq c quote && not escaped

-- A place n bytes behind another, or the end.
abbrev pub place_or : ℕ → ℕ → Option ℕ → ℕ
place_or end at none = end
place_or end at (some n) = at + n

-- The place of the mark that ends a string, from a place in it on; the text's length where none does.
unfoldable pub quote_end : List ℕ → ℕ → Bool → ℕ → ℕ
quote_end text quote escaped at = place_or (length text) at (until_quote quote escaped (drop at text))

-- The same as a place, if a mark ends it.
abbrev pub mark_place : List ℕ → ℕ → Bool → ℕ → S.Option ℕ
mark_place text quote escaped at = let end = quote_end text quote escaped at in if nat_lt end (length text) then Some end else None
