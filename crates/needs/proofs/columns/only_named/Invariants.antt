use Rattle.needs.specs.Internal.Columns.{columns_in}
use Rattle.needs.proofs.ColumnLaws.{Searching}
use Rattle.needs.proofs.columns.only_named.Given as goal

abbrev pub invariant-loop-column : goal.invariant-loop-column
invariant-loop-column l = Searching l.name (columns_in l.fn.columns) l.found l.column-iterator
