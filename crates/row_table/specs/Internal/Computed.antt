-- One name for the definitions that a worked example computes with: `unfolding computed` unfolds them all.
use Rattle.unchecked_rows.specs.Internal.Computed as subtrees
use Rattle.row_table.specs.Sound.{arity_fits, role_fits, id_fits, name_fits, rules_of, zone_fits, shape_fits, row_fits, rows_fit, name_placed, zone_placed, placed, view_sound, is_sound, depth_of, struct_fields}

unfoldable pub computed : Unit {0}
unfolding
    subtrees.computed
    arity_fits role_fits id_fits name_fits rules_of zone_fits shape_fits row_fits rows_fit name_placed zone_placed placed view_sound is_sound depth_of struct_fields
computed = tt
