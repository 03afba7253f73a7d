-- What rewriting promises.
--   reads-back      whatever it accepts, the bytes at the start of the output read back as a sound tree equal to the text's
--   never-refused   a text whose tree meets demand 3's conditions is rewritten, given room
use mathlib.Core.Path.{◌≡◌, refl, sym, ap, ◌∙◌}
use mathlib.Core.Bool.{Bool, true, false}
use mathlib.Core.List.{List, ◌++◌}
use Prim.Native.Nat.{ℕ, ◌*◌}
use native.Mathlib.Omega.{arith}
use lib.ListN.{length, take, drop}
use lib.Seq.{take-append_seam}
use lib.Dec.{T}
use Rattle.tokenizer.specs.Answer.{Out, refused, done}
use Rattle.tokenizer.proofs.Basics.{of_true, is_true}
use Rattle.datatype.specs.Tree.{count, name_list}
use Rattle.datatype.specs.Table.{row_words, tree_of}
use Rattle.row_table.specs.Sound.{is_sound}
use Rattle.unchecked_rows.specs.Equal.{equal_trees}
use Rattle.datatype_parse.specs.Parse.{parse_answer}
use Rattle.datatype_parse.proofs.ReadSound.{lent-sound}
use Rattle.display_length.specs.declared.words.Spelling.{Spelling}
use Rattle.datatype_display.specs.Print.{print, written, print_bytes}
use Rattle.round_trip.specs.Plain.{printed}
use Rattle.round_trip.specs.PrintAndRead as P
use Rattle.round_trip.proofs.PrintAndRead.{demand3}
use Rattle.rewrite.specs.Rewrite.{text, is_same, judged, printed_again, bytes_again, rewrite_answer, rewrite_bytes, rewrite_back, table_read}

-- ---- a tree that was printed and read back

-- what stands in the buffers behind the two calls
record Stands (o : Out (List ℕ)) (n m : ℕ) (out back : List ℕ) : Type 0 where
  pub answer : parse_answer (take n (written out o)) back ≡ done m
  pub sound : T (is_sound (take n (written out o)) name_list (take (row_words * m) (P.rows_to back o)))

stands : (o : Out (List ℕ)) (n m : ℕ) (out back : List ℕ) → P.answer_to back o ≡ P.tree n m → Stands o n m out back
stands (refused r) n m out back e = absurd (let z : ◌≡◌ {A = ℕ} 0 1 = cc in omega arith)
stands (done s) n m out back e = go (parse_answer s back) refl e
  where
    go : (a : Out ℕ) → parse_answer s back ≡ a → P.outcome_of (length s) a ≡ P.tree n m → Stands (done s) n m out back
    go (refused r) f h = absurd (let z : ◌≡◌ {A = ℕ} 0 1 = cc in omega arith)
    go (done k) f h =
        let size : length s ≡ n = cc in
        let rows : k ≡ m = cc in
        let start : take n (s ++ drop (length s) out) ≡ s = ap (λ (i : ℕ). take i (s ++ drop (length s) out)) (sym size) ∙ take-append_seam s (drop (length s) out) in
        let a : parse_answer s back ≡ done m = f ∙ ap done rows in
        record { answer = rw start a; sound = rw start (lent-sound s back m a).sound }

-- ---- whatever is accepted

-- The rows of a text, of which n bytes printed read back as m rows.
pub record ReadsBack (spelling : Spelling) (source rows out back : List ℕ) (n m : ℕ) : Type 0 where
  -- the text is read, into so many rows
  pub count : ℕ
  pub read : parse_answer source rows ≡ done count
  -- the bytes at the start of the output are read, into m rows
  pub again : parse_answer (take n (rewrite_bytes spelling source rows out back)) back ≡ done m
  -- which are a sound tree
  pub sound : T (is_sound (take n (rewrite_bytes spelling source rows out back)) name_list (take (row_words * m) (rewrite_back spelling source rows out back)))
  -- equal to the text's
  pub equal : T (equal_trees (take n (rewrite_bytes spelling source rows out back)) name_list source name_list (take (row_words * m) (rewrite_back spelling source rows out back)) (table_read source rows count))

-- an accepted text was printed and read back, and compared
judged_text : (same : Bool) (o : P.Outcome) (n m : ℕ) → judged same o ≡ text n m → (o ≡ P.tree n m) × (same ≡ true)
judged_text true (P.tree a b) n m e =
    let x : a ≡ n = cc in
    let y : b ≡ m = cc in
    (rw (x, y) refl, refl)
judged_text false (P.tree a b) n m e = absurd (let z : ◌≡◌ {A = ℕ} 0 1 = cc in omega arith)
judged_text same (P.not_printed k) n m e = absurd (let z : ◌≡◌ {A = ℕ} 0 1 = cc in omega arith)
judged_text same (P.not_read r) n m e = absurd (let z : ◌≡◌ {A = ℕ} 0 1 = cc in omega arith)

module _ (spelling : Spelling) (source rows out back : List ℕ) where
  module _ (n m k : ℕ) (r : parse_answer source rows ≡ done k) where
    table : List ℕ
    table = table_read source rows k

    accepted : printed_again spelling source name_list (table_read source rows k) out back ≡ text n m → ReadsBack spelling source rows out back n m
    unfolding printed_again bytes_again rewrite_bytes rewrite_back is_same P.print_and_read_answer P.print_and_read_rows print_bytes
    accepted e =
        let j = judged_text (is_same spelling source name_list (table_read source rows k) out back) (P.print_and_read_answer spelling source name_list (table_read source rows k) out back) n m e in
        let s = stands (print spelling source name_list (table_read source rows k) (length out)) n m out back j.0 in
        let b : rewrite_bytes spelling source rows out back ≡ print_bytes spelling source name_list (table_read source rows k) out = rw (r, e) in
        let w : rewrite_back spelling source rows out back ≡ P.print_and_read_rows spelling source name_list (table_read source rows k) out back = rw r in
        let q = of_true (is_same spelling source name_list (table_read source rows k) out back) j.1 in
        record {
          count = k;
          read = r;
          again = rw b s.answer;
          sound = rw (b, w) s.sound;
          equal = rw (b, w) (rw j.0 at q);
        }

  pub reads-back : (n m : ℕ) → rewrite_answer spelling source rows out back ≡ text n m → ReadsBack spelling source rows out back n m
  unfolding rewrite_answer
  reads-back n m = go (parse_answer source rows) refl
    where
      go : (a : Out ℕ) → parse_answer source rows ≡ a → rewrite_answer spelling source rows out back ≡ text n m → ReadsBack spelling source rows out back n m
      go (refused x) r e = absurd (let z : ◌≡◌ {A = ℕ} 0 1 = cc in omega arith)
      go (done k) r e = accepted n m k r (rw r at e)

  -- ---- what is never refused

  pub never-refused : (k : ℕ) → parse_answer source rows ≡ done k → P.Asks3 spelling source name_list (table_read source rows k) out back
      → rewrite_answer spelling source rows out back ≡ text (length (printed spelling source name_list (table_read source rows k))) (count (tree_of source name_list (table_read source rows k)))
  unfolding rewrite_answer printed_again is_same
  never-refused k r asks =
      let t : List ℕ = table_read source rows k in
      let d = demand3 spelling source name_list t out back (P.print_and_read_answer spelling source name_list t out back) (print_bytes spelling source name_list t out) (P.print_and_read_rows spelling source name_list t out back) refl refl refl asks in
      let q = is_true (is_same spelling source name_list t out back) d.equal in
      rw (r, q, d.answers)
