-- the loop has stored all bytes
use mathlib.Core.Path.{refl, ap, ◌∙◌}
use mathlib.Core.List.{List}
use Prim.Native.Nat.{ℕ}
use native.Mathlib.Omega.{arith}
use lib.Seq.{sets, take_all}
use Rattle.datatype_display.proofs.Writes.{store_all}
use Rattle.datatype_display.proofs.write.store.Goals as goal

pub returns : goal.returns
returns c = store_all (c.loop-i.invariant ∙ ap (λ (x : List ℕ). sets c.args.out.now c.args.at x) (take_all c.loop-i.i c.args.s.now (omega (arith, c.loop-i-test.false)))) refl
