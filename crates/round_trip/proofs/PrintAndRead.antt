-- `print_and_read`: what its two calls say, put together, and demand 3 of them.
--   demand3          under demand 3's conditions the answer and both buffers are what the demand says
--   demand3-asks     its conditions in its own words: a tree that it speaks of, an output that holds the printed text, 1,024 rows lent
--   rows_kept        a refused print leaves the words lent to the reader as they were
--   large-buffers    16,384 bytes hold the printed text of every such tree
--   never-one-text   two such trees that are not equal never get one text, in whichever spelling each is printed
use mathlib.Core.Path.{◌≡◌, refl, sym, ap, ◌∙◌}
use mathlib.Core.Bool.{false}
use mathlib.Core.List.{List}
use Prim.Native.Nat.{ℕ, ◌*◌, ◌≤◌}
use native.Mathlib.Omega.{arith}
use lib.ListN.{length, take}
use lib.Dec.{T}
use Rattle.tokenizer.specs.Answer.{done, refuse}
use Rattle.datatype.specs.Tree.{count}
use Rattle.datatype.specs.Table.{row_words, tree_of}
use Rattle.unchecked_rows.specs.Equal.{equal_trees}
use Rattle.datatype_parse.specs.Parse.{parse_rows}
use Rattle.datatype_display.specs.Print.{print, print_bytes}
use Rattle.display_length.specs.declared.words.Spelling.{Spelling}
use Rattle.round_trip.specs.Plain.{printed, in_demand3}
use Rattle.round_trip.specs.PrintAndRead.{Outcome, tree, print_and_read_answer, print_and_read_rows, bytes_of, Asks3, Demand3}
use Rattle.round_trip.proofs.RoundTrip.{conditions, round_trip, prints, not_equal}
use Rattle.round_trip.proofs.Buffers.{print-start, ReadAnswer, read_answer}

module _ (spelling : Spelling) (text names table out back : List ℕ) where
  -- ---- demand 3

  pub demand3 : (answer : Outcome) (out' back' : List ℕ) → answer ≡ print_and_read_answer spelling text names table out back → out' ≡ print_bytes spelling text names table out
      → back' ≡ print_and_read_rows spelling text names table out back → Asks3 spelling text names table out back → Demand3 spelling text names table answer out' back'
  unfolding print_and_read_answer print_and_read_rows
  demand3 answer out' back' a o b asks =
      let s : List ℕ = printed spelling text names table in
      let n : ℕ = count (tree_of text names table) in
      let short = (conditions spelling text names table asks.tree).short in
      let room = asks.bytes in
      let fits : length s ≤ length out = omega arith in
      let p : print spelling text names table (length out) ≡ done s = prints spelling text names table (length out) asks.tree fits in
      let r : ReadAnswer spelling text names table back = read_answer spelling text names table back asks.tree asks.rows in
      let answers : answer ≡ tree (length s) n = rw (a, p, r.answer) in
      let start : take (length s) out' ≡ s = ap (take (length s)) o ∙ print-start spelling text names table out asks.tree fits in
      let rows : back' ≡ parse_rows s back = rw (b, p) in
      record {
        answers = answers;
        bytes = rw answers start;
        sound = rw (answers, start, rows) r.sound;
        equal = rw (answers, start, rows) r.equal;
      }

  -- ---- where no text is printed

  -- the rows lent to the reader are as they were, since it is not called, not on an empty text either
  pub rows_kept : (n : ℕ) → print spelling text names table (length out) ≡ refuse n → print_and_read_rows spelling text names table out back ≡ back
  unfolding print_and_read_rows
  rows_kept n e = rw e refl

  -- ---- its conditions

  -- demand 3's own words
  pub demand3-asks : T (in_demand3 spelling text names table) → length (printed spelling text names table) ≤ length out → row_words * 1024 ≤ length back → Asks3 spelling text names table out back
  demand3-asks h l k =
      let few = (round_trip spelling text names table h).few in
      record { tree = h; bytes = omega arith; rows = omega arith }

  -- buffers that are always large enough
  pub large-buffers : T (in_demand3 spelling text names table) → 16384 ≤ length out → row_words * 1024 ≤ length back → Asks3 spelling text names table out back
  large-buffers h l k = let short = (conditions spelling text names table h).short in demand3-asks h (omega arith) k

-- ---- two trees

-- Two trees that demand 3 speaks of and that are not equal never get one text, whichever calls printed them and
-- in whichever spelling each.
module _ (spelling spelling' : Spelling) (text names table text' names' table' : List ℕ) (h : T (in_demand3 spelling text names table)) (h' : T (in_demand3 spelling' text' names' table')) where
  pub never-one-text : equal_trees text names text' names' table table' ≡ false → (answer answer' : Outcome) (out back out' back' : List ℕ)
      → Demand3 spelling text names table answer out back → Demand3 spelling' text' names' table' answer' out' back' → bytes_of answer out ≡ bytes_of answer' out' → ⊥
  never-one-text n answer answer' out back out' back' d d' e = not_equal spelling spelling' text names table text' names' table' h h' n (sym d.bytes ∙ e ∙ d'.bytes)
