-- In a loop over nodes the laws take what the iterator gave, which the check does not hand them.
use mathlib.Core.Path.{sym, ◌∙◌}
use Rattle.needs.proofs.ColumnLaws.{search_pass, search_twice, search_found}
use Rattle.needs.proofs.columns.only_named.Goals as goal

pub loop-column-preserved-then-not-equal_bytes : goal.loop-column-preserved-then-not-equal_bytes
loop-column-preserved-then-not-equal_bytes c =
    search_pass _ _ _ _ c.loop-column.invariant _ _ c.in-Some.ensures.steps _ c.name.ensures _ c.equal_bytes.ensures c.if-not-equal_bytes.true

pub returns-then-is_some : goal.returns-then-is_some
returns-then-is_some c =
    search_twice _ _ _ _ c.loop-column.invariant _ _ c.in-Some.ensures.steps _ c.name.ensures _ c.equal_bytes.ensures c.if-not-equal_bytes.false (sym c.is_some.ensures ∙ c.if-is_some.true)

pub loop-column-preserved : goal.loop-column-preserved
loop-column-preserved c =
    search_found _ _ _ _ c.loop-column.invariant _ _ c.in-Some.ensures.steps _ c.name.ensures _ c.equal_bytes.ensures c.if-not-equal_bytes.false (sym c.is_some.ensures ∙ c.if-is_some.false)
