-- `rewrite`: what its calls say, put together.
use mathlib.Core.Path.{◌≡◌, refl, sym, ap, ◌∙◌}
use mathlib.Core.Bool.{Bool, true, false}
use mathlib.Core.List.{List}
use Prim.Native.Nat.{ℕ, suc, ◌+◌, ◌*◌, ◌≤◌}
use native.Mathlib.Omega.{arith}
use lib.ListN.{length, take, drop, replicate, length-append}
use lib.Seq.{length-take-le}
use lib.Dec.{T}
use Rattle.std.proofs.Common.{Fits, w64}
use Rattle.std.specs.declared.result.Result.{Result}
use Rattle.std.specs.declared.result.Result.TheVariants.{Ok, Err}
use Rattle.tokenizer.specs.Answer.{Out, refused, done, number_of}
use Rattle.tokenizer.specs.declared.refusal.Refusal.{Refusal}
use Rattle.parser.specs.Answer.{refusal_in, read_answer}
use Rattle.parser.specs.declared.error.ReadError.{ReadError}
use Rattle.datatype.specs.Tree.{Forest, node, count, ∅, Row, name_list}
use Rattle.datatype.specs.Table.{row_words, rows_lent}
use Rattle.unchecked_rows.specs.Equal.{equal_trees}
use Rattle.row_table.specs.Sound.{is_sound}
use Rattle.parser.proofs.Holds.{Holds}
use Rattle.unchecked_rows.proofs.ParentTree.{count_parented}
use Rattle.datatype_parse.specs.Parse.{parse, row_count, parse_answer, parse_rows}
use Rattle.datatype_parse.proofs.ReadSound.{Read, parse_read, lent-sound}
use Rattle.display_length.specs.declared.words.Spelling.{Spelling}
use Rattle.datatype_display.specs.Print.{print, written, print_bytes}
use Rattle.round_trip.specs.PrintAndRead as P
use Rattle.round_trip.specs.declared.PrintedAndRead.{PrintedAndRead}
use Rattle.round_trip.specs.declared.NotReadBack.{NotReadBack}
use Rattle.round_trip.specs.declared.NotReadBack.TheVariants as B
use Rattle.rewrite.specs.Rewrite.{rewritten_means, is_same, printed_again, bytes_again, rewrite_answer, rewrite_bytes, rewrite_back}
use Rattle.rewrite.specs.declared.NotRewritten.{NotRewritten}
use Rattle.rewrite.specs.declared.NotRewritten.TheVariants as W

-- ---- how many rows

-- a text that is read has at most 1,024 rows, so that their words can be counted
few_rows : (text before : List ℕ) (n : ℕ) → parse_answer text before ≡ done n → n ≤ 1024
unfolding parse_answer rows_lent
few_rows text before n e = go (parse text (rows_lent (length before))) (parse_read text (rows_lent (length before))) e
  where
    go : (o : Out (Forest Row)) → Holds (Read text (rows_lent (length before))) o → row_count o ≡ done n → n ≤ 1024
    go (refused x) r h = absurd (let z : ◌≡◌ {A = ℕ} 0 1 = cc in omega arith)
    go (done f) r h =
        let c : count f ≡ n = cc in
        let k : count f ≡ suc (count r.kids) + 0 = ap count r.is ∙ count_parented 0 0 (node r.root r.kids ∅) in
        let w = r.fits.few in
        omega arith

-- ---- a tree, printed and read back

-- a text printed and read back: its bytes stand at the start of the output, its rows at the start of the words lent
record Room (o : Out (List ℕ)) (n m : ℕ) (out back : List ℕ) : Type 0 where
  pub bytes : n ≤ length (written out o)
  pub few : m ≤ 1024
  pub rows : row_words * m ≤ length back

room : (o : Out (List ℕ)) (n m : ℕ) (out back : List ℕ) → P.tree n m ≡ P.answer_to back o → Room o n m out back
room (refused r) n m out back e = absurd (let z : ◌≡◌ {A = ℕ} 0 1 = cc in omega arith)
room (done s) n m out back e = go (parse_answer s back) refl e
  where
    go : (a : Out ℕ) → parse_answer s back ≡ a → P.tree n m ≡ P.outcome_of (length s) a → Room (done s) n m out back
    go (refused r) f h = absurd (let z : ◌≡◌ {A = ℕ} 0 1 = cc in omega arith)
    go (done k) f h =
        let size : length s ≡ n = cc in
        let count : k ≡ m = cc in
        let l = length-append s (drop (length s) out) in
        let lent = (lent-sound s back k f).lent in
        let w = few_rows s back k f in
        record { bytes = omega arith; few = omega arith; rows = omega arith }

module _ (spelling : Spelling) (source names table out back : List ℕ) (r : Result PrintedAndRead NotReadBack) (out' back' : List ℕ)
    (a : P.printed_and_read_means r ≡ P.print_and_read_answer spelling source names table out back) (o : out' ≡ print_bytes spelling source names table out)
    (b : back' ≡ P.print_and_read_rows spelling source names table out back) where
  module _ (f : NotReadBack) (h : r ≡ Err f) (n : Refusal) (i : f ≡ B.NotPrinted n) where
    refusal_printed : P.not_printed (number_of n) ≡ P.print_and_read_answer spelling source names table out back
    unfolding P.printed_and_read_means
    refusal_printed = sym (ap P.printed_and_read_means (h ∙ ap Err i)) ∙ a

    pub not-printed-answer : rewritten_means (Err (W.NotPrinted n)) ≡ printed_again spelling source names table out back
    unfolding rewritten_means printed_again
    not-printed-answer = rw (← refusal_printed)

    pub not-printed-bytes : out' ≡ bytes_again spelling source names table out back
    unfolding printed_again bytes_again
    not-printed-bytes = rw (← refusal_printed, o)

  module _ (f : NotReadBack) (h : r ≡ Err f) (x : ReadError) (i : f ≡ B.NotRead x) where
    refusal_read : P.not_read (refusal_in x) ≡ P.print_and_read_answer spelling source names table out back
    unfolding P.printed_and_read_means
    refusal_read = sym (ap P.printed_and_read_means (h ∙ ap Err i)) ∙ a

    pub not-read-back-answer : rewritten_means (Err (W.NotReadBack x)) ≡ printed_again spelling source names table out back
    unfolding rewritten_means printed_again
    not-read-back-answer = rw (← refusal_read)

    pub not-read-back-bytes : (bytes : List ℕ) → bytes ≡ replicate (length out') 0 → bytes ≡ bytes_again spelling source names table out back
    unfolding printed_again bytes_again
    not-read-back-bytes bytes z = rw (← refusal_read, z, o)

  module _ (t : PrintedAndRead) (h : r ≡ Ok t) where
    answer : P.tree t.bytes t.rows ≡ P.print_and_read_answer spelling source names table out back
    unfolding P.printed_and_read_means
    answer = sym (ap P.printed_and_read_means h) ∙ a

    has_room : Room (print spelling source names table (length out)) t.bytes t.rows out back
    unfolding P.print_and_read_answer
    has_room = room (print spelling source names table (length out)) t.bytes t.rows out back answer

    pub bytes_fit : t.bytes ≤ length out'
    unfolding print_bytes
    bytes_fit = let x = has_room.bytes in let y = ap length o in omega arith

    pub bytes_counted : t.bytes ≡ length (take t.bytes out')
    bytes_counted = sym (length-take-le t.bytes out' bytes_fit)

    pub words_counted : Fits w64 (row_words * t.rows)
    words_counted = let x = has_room.few in omega arith

    module _ (k : length back' ≡ length back) where
      pub rows_fit : row_words * t.rows ≤ length back'
      rows_fit = let x = has_room.rows in omega arith

      pub rows_counted : row_words * t.rows ≡ length (take (row_words * t.rows) back')
      rows_counted = sym (length-take-le (row_words * t.rows) back' rows_fit)

    module _ (same : Bool) (s : same ≡ equal_trees (take t.bytes out') names source names (take (row_words * t.rows) back') table) where
      compared : is_same spelling source names table out back ≡ same
      unfolding is_same
      compared = rw (← answer, ← o, ← b) (sym s)

      pub same-answer : same ≡ true → rewritten_means (Ok t) ≡ printed_again spelling source names table out back
      unfolding rewritten_means printed_again
      same-answer q = rw (compared, q, ← answer)

      pub same-bytes : same ≡ true → out' ≡ bytes_again spelling source names table out back
      unfolding printed_again bytes_again
      same-bytes q = rw (compared, q, ← answer, o)

      pub other-answer : same ≡ false → rewritten_means (Err W.Differs) ≡ printed_again spelling source names table out back
      unfolding rewritten_means printed_again
      other-answer q = rw (compared, q, ← answer)

      pub other-bytes : same ≡ false → (bytes : List ℕ) → bytes ≡ replicate (length out') 0 → bytes ≡ bytes_again spelling source names table out back
      unfolding printed_again bytes_again
      other-bytes q bytes z = rw (compared, q, ← answer, z, o)

pub ruleset compared_steps = (same-answer, same-bytes, other-answer, other-bytes)

-- ---- a text

module _ (source rows : List ℕ) (q : Result ℕ ReadError) (rows' : List ℕ) (e : read_answer q ≡ parse_answer source rows) (p : rows' ≡ parse_rows source rows) where
  module _ (x : ReadError) (h : q ≡ Err x) (spelling : Spelling) (out back : List ℕ) where
    is_refused : parse_answer source rows ≡ refused (refusal_in x)
    is_refused = sym e ∙ ap read_answer h

    pub not-read-answer : rewritten_means (Err (W.NotRead x)) ≡ rewrite_answer spelling source rows out back
    unfolding rewritten_means rewrite_answer
    not-read-answer = rw is_refused

    pub not-read-bytes : out ≡ rewrite_bytes spelling source rows out back
    unfolding rewrite_bytes
    not-read-bytes = rw is_refused

    pub not-read-again : back ≡ rewrite_back spelling source rows out back
    unfolding rewrite_back
    not-read-again = rw is_refused

  module _ (n : ℕ) (h : q ≡ Ok n) where
    is_read : parse_answer source rows ≡ done n
    is_read = sym e ∙ ap read_answer h

    pub words_read : Fits w64 (row_words * n)
    words_read = let w = few_rows source rows n is_read in omega arith

    pub rows_lent_fit : length rows' ≡ length rows → row_words * n ≤ length rows'
    rows_lent_fit k = let l = (lent-sound source rows n is_read).lent in omega arith

    pub rows_taken : length rows' ≡ length rows → row_words * n ≡ length (take (row_words * n) rows')
    rows_taken k = sym (length-take-le (row_words * n) rows' (rows_lent_fit k))

    -- what was read is sound
    pub tree-sound : T (is_sound source name_list (take (row_words * n) rows'))
    tree-sound = rw p ((lent-sound source rows n is_read).sound)

    module _ (spelling : Spelling) (out back : List ℕ) where
      pub rewrites-answer : (w : Result PrintedAndRead NotRewritten) → rewritten_means w ≡ printed_again spelling source name_list (take (row_words * n) rows') out back → rewritten_means w ≡ rewrite_answer spelling source rows out back
      unfolding rewrite_answer
      rewrites-answer w x = rw (is_read, ← p) x

      pub rewrites-bytes : (out' : List ℕ) → out' ≡ bytes_again spelling source name_list (take (row_words * n) rows') out back → out' ≡ rewrite_bytes spelling source rows out back
      unfolding rewrite_bytes
      rewrites-bytes out' y = rw (is_read, ← p) y

      pub rewrites-again : (back' : List ℕ) → back' ≡ P.print_and_read_rows spelling source name_list (take (row_words * n) rows') out back → back' ≡ rewrite_back spelling source rows out back
      unfolding rewrite_back
      rewrites-again back' z = rw (is_read, ← p) z
