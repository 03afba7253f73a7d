-- One name for the definitions that a worked example computes with: `unfolding computed` unfolds them all.
use Rattle.datatype.specs.Kind.{shape_of, unit_fits, max_precision, decimal_fits, entries_refusal, ids_fit}
use Rattle.datatype.specs.Tree.{name_of, zone_of, label_of, labels}
use Rattle.datatype.specs.Table.{words_of, row_of, table_of, view_with, view_of, tree_of, rows_lent}

unfoldable pub computed : Unit {0}
unfolding
    shape_of unit_fits max_precision decimal_fits entries_refusal ids_fit
    name_of zone_of label_of labels
    words_of row_of table_of view_with view_of tree_of rows_lent
computed = tt
