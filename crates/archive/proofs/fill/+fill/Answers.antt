use mathlib.Core.Path.{sym, ◌∙◌}
use native.Mathlib.Omega.{arith}
use Rattle.archive.proofs.Filling.{handed-on, some-left, none-left, going-start, going-end, going-lost, going-few, going-shorter, turn, turn-lost, deep-scanned, deep-lost}
use Rattle.archive.proofs.fill.+fill.Goals as goal

pub returns-in_err-room : goal.returns-in_err-room
returns-in_err-room t c = deep-lost _ c.if-level-eq0.true _ _ _ _ _ c.in_err-room.ensures (handed-on _ _ c.from_residual.ensures.1)

pub returns-then-level-eq0 : goal.returns-then-level-eq0
returns-then-level-eq0 t c = deep-scanned _ c.if-level-eq0.true _ _ _ _ _ c.in_ok-room.ensures c.is_empty-deep.ensures

pub loop-rest-init : goal.loop-rest-init
loop-rest-init t c = going-start _ _ _ _ c.requires.few

pub returns-in_err-head : goal.returns-in_err-head
returns-in_err-head t c =
    going-lost _ _ _ _ _ _ _ _ c.loop-rest.invariant (some-left _ (sym c.is_empty.ensures ∙ c.loop-rest-test.true)) _ _ _ (sym c.in_err-head.ensures)
    (handed-on _ _ c.from_residual-in_err-head.ensures.1)

pub fill-requires : goal.fill-requires
fill-requires t c = (omega arith, going-few _ _ _ _ _ _ _ _ c.loop-rest.invariant (some-left _ (sym c.is_empty.ensures ∙ c.loop-rest-test.true)) c.in_ok-head.head (sym c.in_ok-head.ensures))

pub returns-in_err-below : goal.returns-in_err-below
returns-in_err-below t c =
    turn-lost _ _ _ _ _ _ _ _ c.loop-rest.invariant (some-left _ (sym c.is_empty.ensures ∙ c.loop-rest-test.true)) c.in_ok-head.head (sym c.in_ok-head.ensures) (omega arith) _ c.put_row.ensures.packed _ _ c.fill.ensures
    _ _ _ c.in_err-below.was (handed-on _ _ c.from_residual-in_err-below.ensures.1)

pub loop-rest-preserved : goal.loop-rest-preserved
loop-rest-preserved t c =
    turn _ _ _ _ _ _ _ _ c.loop-rest.invariant (some-left _ (sym c.is_empty.ensures ∙ c.loop-rest-test.true)) c.in_ok-head.head (sym c.in_ok-head.ensures) (omega arith) _ c.put_row.ensures.packed _ _ c.fill.ensures
    _ _ c.in_ok-below.was c.set_subtree.ensures

pub loop-rest-smaller : goal.loop-rest-smaller
loop-rest-smaller t c = going-shorter _ _ _ _ _ _ _ _ c.loop-rest.invariant (some-left _ (sym c.is_empty.ensures ∙ c.loop-rest-test.true)) c.in_ok-head.head (sym c.in_ok-head.ensures)

pub returns : goal.returns
returns t c = going-end _ _ _ _ _ _ _ _ c.loop-rest.invariant (none-left _ (sym c.is_empty.ensures ∙ c.loop-rest-test.false))
