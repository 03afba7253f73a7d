use mathlib.Core.Path.{◌≡◌}
use Prim.Native.Nat.{◌+◌, ◌-◌, ◌≤◌}
use lib.ListN.{length}
use Rattle.token_stream.proofs.CountLaws.{tokens_left, last_end}
use Rattle.token_stream.proofs.count_tokens.Given as goal

-- `tokens` of them stand before the place, and the others from it on.
abbrev pub invariant-loop-token : goal.invariant-loop-token
invariant-loop-token l =
    record {
      inside : l.at ≤ length l.text;
      fewer : l.tokens ≤ l.at;
      left : tokens_left l.text 0 ≡ l.tokens + tokens_left l.text l.at;
      end : last_end l.text 0 ≡ last_end l.text l.at;
    }

abbrev pub decreases-loop-token : goal.decreases-loop-token
decreases-loop-token l = length l.text - l.at
