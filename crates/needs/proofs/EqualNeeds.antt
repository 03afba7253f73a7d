-- Equal trees meet the same needs: where the names, zones and rows stand counts for nothing.
use mathlib.Core.Path.{◌≡◌}
use mathlib.Core.Bool.{Bool}
use mathlib.Core.List.{List}
use Prim.Native.Nat.{ℕ}
use lib.Dec.{T}
use Rattle.unchecked_rows.specs.Equal.{equal_trees}
use Rattle.row_table.specs.Sound.{is_sound}
use Rattle.row_table.proofs.FieldLaws.{equal-fields}
use Rattle.needs.specs.declared.Need.{Need}
use Rattle.needs.specs.Needs.{columns_of, need_of, needs_of}

module _ (text names table text' names' table' : List ℕ) (sound : T (is_sound text names table)) (sound' : T (is_sound text' names' table')) (equal : T (equal_trees text names text' names' table table')) where
  columns_alike : columns_of text names table ≡ columns_of text' names' table'
  unfolding columns_of
  columns_alike = rw (equal-fields text names table text' names' table' sound sound' equal)

  pub equal-need : (kind number scale : ℕ) (null_allowed zoned : Bool) (name : List ℕ) → need_of text names table kind number scale null_allowed zoned name ≡ need_of text' names' table' kind number scale null_allowed zoned name
  unfolding need_of
  equal-need kind number scale null_allowed zoned name = rw columns_alike

  pub equal-needs : (words : List ℕ) (needs : List Need) → needs_of text names table words needs ≡ needs_of text' names' table' words needs
  unfolding needs_of
  equal-needs words needs = rw columns_alike
