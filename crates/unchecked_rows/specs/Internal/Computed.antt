-- One name for the definitions that a worked example computes with: `unfolding computed` unfolds them all.
use Rattle.datatype.specs.Internal.Computed as datatype
use Rattle.unchecked_rows.specs.Parents.{with_parent, parented_from, parents_right}
use Rattle.unchecked_rows.specs.Equal.{whole_rows, equal_row, equal_rows, equal_trees}

unfoldable pub computed : Unit {0}
unfolding
    datatype.computed
    with_parent parented_from parents_right
    whole_rows equal_row equal_rows equal_trees
computed = tt
