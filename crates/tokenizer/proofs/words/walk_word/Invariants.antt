use mathlib.Core.Path.{◌≡◌}
use Prim.Native.Nat.{◌≤◌}
use lib.ListN.{drop}
use Rattle.tokenizer.specs.Token.{word_of}
use Rattle.tokenizer.specs.Places.{word_end}
use Rattle.tokenizer.specs.WordTable.{walk}
use Rattle.tokenizer.proofs.words.walk_word.Given as goal

-- The loop keeps where the walk leads and where the word ends, as seen from the place reached.
abbrev pub invariant-loop-i : goal.invariant-loop-i
invariant-loop-i l =
    record {
      bound : l.state ≤ 510;
      walks : walk l.table 0 (word_of (drop l.at l.text)) ≡ walk l.table l.state (word_of (drop l.i l.text));
      ends : word_end l.text l.at ≡ word_end l.text l.i;
    }
