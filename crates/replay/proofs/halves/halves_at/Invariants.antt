use mathlib.Core.Path.{◌≡◌}
use mathlib.Core.List.{◌++◌}
use Prim.Native.Nat.{◌-◌}
use lib.ListN.{length, take}
use Rattle.replay.specs.Sample.{after_numbers}
use Rattle.replay.specs.HalfCase.{halves_at}
use Rattle.replay.proofs.halves.halves_at.Given as goal

-- The half words so far and those still to come are all of them.
abbrev pub invariant-loop-place : goal.invariant-loop-place
invariant-loop-place l =
    let n = length l.initial.out in
    record {
      halves : take l.place-index l.out ++ halves_at l.sample (n - l.place-index) l.next ≡ halves_at l.sample n l.at;
      place : after_numbers l.sample (n - l.place-index) l.next ≡ after_numbers l.sample n l.at;
    }
