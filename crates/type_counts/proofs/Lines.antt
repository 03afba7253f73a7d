-- Counting the lines in a buffer: whatever follows, the counts at last stay the same.
use Rattle.std.specs.Prelude.{Result, Ok, Err, IsErr}
use mathlib.Core.Path.{◌≡◌, refl, sym, ap, ◌∙◌}
use mathlib.Core.Bool.{Bool, true, false}
use mathlib.Core.List.{List, [], ◌∷◌, ◌++◌}
use Prim.Native.Nat.{ℕ, suc, ◌+◌, ◌-◌, ◌≤◌, ◌<◌}
use native.Mathlib.Omega.{arith}
use native.Mathlib.Decide.{dec_lt}
use lib.ListN.{length, take, drop, length-append, length-drop, drop_of_length-le}
use lib.Seq.{length-take-le, take-length}
use lib.Dec.{leb}
use borrow.Author.Tests.{leb-true, leb-false}
use Rattle.tokenizer.specs.Answer.{answer_of}
use Rattle.input_lines.specs.Lines.{lines_of, before_newline}
use Rattle.input_lines.specs.Ahead.{lines_ahead, lines_at, begins, skips, Partial, next_of}
use Rattle.input_lines.specs.declared.Place.{Place}
use Rattle.input_lines.specs.declared.NextLine.TheVariants.{Whole, Long, Unfinished}
use Rattle.input_lines.proofs.Ends.{lines_some}
use Rattle.input_lines.proofs.Coming.{came, whole_ordered, whole_within, whole_on, long_within, long_on, left_begins}
use Rattle.tally.specs.Tally.{Counts, tally_after, add_answer, number_of}
use Rattle.tally.specs.declared.NotCounted.{NotCounted}
use Rattle.tally.proofs.Following.{at-last, lines-at-last, read-long, counted-more, counted-full}
use Rattle.type_counts.specs.Counting.{at_last, counts_at, Over, CountsLines, LastMeans}

-- ---- from place to place

-- The counts at last are those of the start.
pub record Reached (t : Counts) (input : List ℕ) (start : Place) (place : Place) (t' : Counts) : Type 0 where
  pub same : (rest : List ℕ) → counts_at t input start rest ≡ counts_at t' input place rest

pub reached-start : (t : Counts) (input : List ℕ) (start : Place) → Reached t input start start t
reached-start t input start = record { same = λ rest. refl }

-- a line is left, so that there is one at least
some-line : (s : List ℕ) → 0 < length s → 0 < length (lines_of s)
some-line s h = rw (lines_some s h) (omega arith)

module _ (t : Counts) (input : List ℕ) (start : Place) (place : Place) (t₁ : Counts) (r : Reached t input start place t₁) where
  module _ (x : Result (Unit {0}) NotCounted) (a : answer_of number_of x ≡ add_answer t₁) where
    module _ (u : Unit {0}) (e : x ≡ Ok u) (t₂ : Counts) where
      pub reached-whole : (from end : ℕ) → Whole from end ≡ next_of input place → t₂ ≡ tally_after t₁ (take (end - from) (drop from input)) → Reached t input start (begins (end + 1)) t₂
      unfolding counts_at
      reached-whole from end n k =
          let c = came input place (Whole from end) n in
          record {
            same = λ rest.
                r.same rest
                ∙ ap (at_last t₁) (c.3 rest)
                ∙ at-last t₁ t₂ (take (end - from) (drop from input)) (take (end - from) (drop from input)) (lines_at input (begins (end + 1)) rest) (counted-more t₁ x a u e) k refl;
          }

      pub reached-long : (from : ℕ) → Long from ≡ next_of input place → t₂ ≡ tally_after t₁ (take (length input - from) (drop from input)) → Reached t input start (skips (length input)) t₂
      unfolding counts_at
      reached-long from n k =
          let c = came input place (Long from) n in
          let d = length-drop from input in
          let w = c.1 in
          record {
            same = λ rest.
                r.same rest
                ∙ ap (at_last t₁) (c.2 rest)
                ∙ at-last t₁ t₂ (take (length input - from) (drop from input)) (drop from input ++ take (before_newline rest) rest) (lines_at input (skips (length input)) rest) (counted-more t₁ x a u e) k
                (read-long _ _ (omega (arith, length-take-le (length input - from) (drop from input) (omega arith))) (omega (arith, length-append (drop from input) (take (before_newline rest) rest))));
          }

    -- no more lines are counted, and one comes
    module _ (f : NotCounted) (e : x ≡ Err f) where
      over-by : (rest : List ℕ) → 0 < length (lines_at input place rest) → 1000000 < (counts_at t input start rest).lines
      unfolding counts_at
      over-by rest h =
          let l = lines-at-last t₁ (lines_at input place rest) in
          let k = counted-full t₁ x a f e in
          rw (r.same rest) (omega arith)

      pub over-whole : (from end : ℕ) → Whole from end ≡ next_of input place → Over (counts_at t input start)
      over-whole from end n rest = let c = came input place (Whole from end) n in over-by rest (rw (c.3 rest) (omega arith))

      pub over-long : (from : ℕ) → Long from ≡ next_of input place → Over (counts_at t input start)
      over-long from n rest = let c = came input place (Long from) n in over-by rest (rw (c.2 rest) (omega arith))

  module _ (left : Place) (n : Unfinished left ≡ next_of input place) where
    left-same : (rest : List ℕ) → counts_at t input start rest ≡ counts_at t₁ input left rest
    unfolding counts_at
    left-same rest = let c = came input place (Unfinished left) n in r.same rest ∙ ap (at_last t₁) (c.2 rest)

    -- part of a line has begun that is not counted
    pub over-left : left.from < length input → 1000000 ≤ t₁.lines → Over (counts_at t input start)
    unfolding counts_at lines_at lines_ahead
    over-left h k rest =
        let b = left_begins input left place n h in
        let d = length-drop left.from input in
        let a = length-append (drop left.from input) rest in
        let l = lines-at-last t₁ (lines_at input left rest) in
        let s = some-line (drop left.from input ++ rest) (omega arith) in
        let m : length (lines_at input left rest) ≡ length (lines_of (drop left.from input ++ rest)) = ap (λ (skip : Bool). length (lines_ahead skip (drop left.from input ++ rest))) b in
        rw (left-same rest) (omega arith)

    pub left-counted : (left.from < length input → 1000000 ≤ t₁.lines → ⊥) → CountsLines t input start (Ok left) t₁
    left-counted none =
        let c = came input place (Unfinished left) n in
        record {
          inside = c.0;
          left = c.1;
          begun = λ full skip. elim (dec_lt left.from (length input)) [
            | yes h ↦ absurd (none h full)
            | no h ↦ let d = length-drop left.from input in omega arith
          ];
          same = left-same;
        }

-- ---- the end of the input

module _ (t : Counts) (line : List ℕ) (one : Partial line) where
  no-line : lines_of [] ≡ []
  unfolding lines_of
  no-line = refl

  pub last-skipped : (skip : Bool) → skip ≡ true → LastMeans t line skip (Ok tt) t
  unfolding lines_ahead
  last-skipped skip e =
      ap (λ (b : Bool). at_last t (lines_ahead b line)) e
      ∙ ap (λ (l : List ℕ). at_last t (lines_of l)) (drop_of_length-le line {i = suc (before_newline line)} (let o = one.one_line in omega arith))
      ∙ ap (at_last t) no-line

  pub last-empty : length line ≡ 0 → (skip : Bool) → skip ≡ false → LastMeans t line skip (Ok tt) t
  unfolding lines_ahead
  last-empty k skip e = ap (λ (b : Bool). at_last t (lines_ahead b line)) e ∙ ap (λ (l : List ℕ). at_last t (lines_of l)) (none line k) ∙ ap (at_last t) no-line
    where
      none : (l : List ℕ) → length l ≡ 0 → l ≡ []
      none [] q = refl
      none (c ∷ l) q = absurd (omega arith)

  -- the one line of an input without a newline
  only-line : 0 < length line → lines_of line ≡ line ∷ []
  only-line h =
      let o = one.one_line in
      lines_some line h
      ∙ ap (λ (n : ℕ). take n line ∷ lines_of (drop (suc n) line)) o
      ∙ ap (λ (l : List ℕ). l ∷ lines_of (drop (suc (length line)) line)) (take-length line)
      ∙ ap (λ (l : List ℕ). line ∷ lines_of l) (drop_of_length-le line {i = suc (length line)} (omega arith))
      ∙ ap (λ (ls : List (List ℕ)). line ∷ ls) no-line

  pub last-line : (length line ≡ 0 → ⊥) → (skip : Bool) → skip ≡ false → (t' : Counts) → t' ≡ tally_after t line → (x : Result (Unit {0}) NotCounted) → answer_of number_of x ≡ add_answer t → LastMeans t line skip x t'
  unfolding lines_ahead
  last-line some skip e t' k (Ok u) a =
      ap (λ (b : Bool). at_last t (lines_ahead b line)) e
      ∙ ap (at_last t) (only-line (omega arith))
      ∙ at-last t t' line line [] (counted-more t (Ok u) a u refl) k refl
  last-line some skip e t' k (Err f) a = λ rest.
      let full = counted-full t (Err f) a f refl in
      let l = lines-at-last t (lines_ahead skip (line ++ rest)) in
      let b = length-append line rest in
      let s = some-line (line ++ rest) (omega arith) in
      let m : length (lines_ahead skip (line ++ rest)) ≡ length (lines_of (line ++ rest)) = ap (λ (b : Bool). length (lines_ahead b (line ++ rest))) e in
      omega arith

-- an answer that is a refusal
pub lines-over : (t : Counts) (input : List ℕ) (p : Place) (a : Result Place NotCounted) (t' : Counts) → IsErr a → Over (counts_at t input p) → CountsLines t input p a t'
lines-over t input p (Ok q) t' e o = absurd (cc)
lines-over t input p (Err f) t' e o = o

-- whether the counts are full
pub is-full : (t : Counts) (b : Bool) → b ≡ leb 1000000 t.lines → b ≡ true → 1000000 ≤ t.lines
is-full t b e f = leb-true 1000000 t.lines (sym e ∙ f)

pub not-full : (t : Counts) (b : Bool) → b ≡ leb 1000000 t.lines → b ≡ false → t.lines < 1000000
not-full t b e f = leb-false 1000000 t.lines (sym e ∙ f)

pub ruleset lines_steps = (reached-start, whole_ordered, whole_within, whole_on, long_within, long_on)

pub ruleset last_steps = (last-skipped, last-empty, last-line)
