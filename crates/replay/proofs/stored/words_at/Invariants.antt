use mathlib.Core.Path.{◌≡◌}
use mathlib.Core.List.{◌++◌}
use Prim.Native.Nat.{◌-◌}
use lib.ListN.{length, take}
use Rattle.replay.specs.Sample.{numbers_at, after_numbers}
use Rattle.replay.proofs.stored.words_at.Given as goal

-- The numbers so far and those still to come are all of them.
abbrev pub invariant-loop-word : goal.invariant-loop-word
invariant-loop-word l =
    let n = length l.initial.out in
    record {
      words : take l.word-index l.out ++ numbers_at l.sample (n - l.word-index) l.next ≡ numbers_at l.sample n l.at;
      place : after_numbers l.sample (n - l.word-index) l.next ≡ after_numbers l.sample n l.at;
    }
