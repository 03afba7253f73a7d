-- Turns of the program: what a turn comes to, and all of them together.
use Rattle.std.specs.Prelude.{Option, Some, None, Ok, Err}
use Rattle.std.specs.Io.KnownBytes.{Consumes}
use Rattle.std.proofs.KnownBytes.{Consumes-nil, Consumes-trans, Consumes-kept}
use mathlib.Core.Path.{◌≡◌, refl, sym, ap, ◌∙◌, subst}
use mathlib.Core.Bool.{false}
use mathlib.Core.List.{List, [], ◌++◌, append_assoc, append-nil}
use Prim.Native.Nat.{ℕ, ◌+◌, ◌≤◌}
use native.Mathlib.Omega.{arith}
use lib.ListN.{length, take, drop, length-append, length-drop, take-append-drop}
use lib.Seq.{length-take-le, take_at, take-take}
use Rattle.std.proofs.lemmas.List.{drop-take}
use Rattle.input_lines.specs.Lines.{lines_of, before_newline}
use Rattle.input_lines.specs.Ahead.{lines_ahead, lines_at, Partial}
use Rattle.input_lines.specs.Streams.{moved, Gave, ReadsBehind}
use Rattle.input_lines.specs.declared.Place.{Place}
use Rattle.input_lines.specs.declared.failure.Failure.{Failure}
use Rattle.input_lines.specs.declared.failure.Failure.TheVariants.{Reading, Writing}
use Rattle.tally.specs.Tally.{Counts, tally}
use Rattle.tally.specs.declared.NotCounted.{NotCounted}
use Rattle.type_counts.specs.declared.Left.{Left}
use Rattle.type_counts.specs.declared.Turn.TheVariants.{MoreRead, Ended, TooManyLines}
use Rattle.tally.proofs.Additions.{tally-append}
use Rattle.tally.proofs.OneMore.{tally-lines}
use Rattle.type_counts.specs.declared.Printed.TheVariants.{Report, TooMany}
use Rattle.type_counts.specs.Ending.{CountsAll}
use Rattle.type_counts.specs.Counting.{at_last, counts_at, ahead, CountsTo, Over, LastMeans, Waiting, TurnMeans}

module _ (t : Counts) (input : List ℕ) (left : Left) (w : Waiting t input left) where
  -- the turn reads
  module _ (reader reader' : Option (List ℕ)) (n : ℕ) (input₁ : List ℕ) (g : Gave reader reader' input left.size n input₁) where
    abbrev line : List ℕ
    line = take left.size input₁

    abbrev new : List ℕ
    new = take n (drop left.size input₁)

    pub line-waits : Partial line
    line-waits = subst Partial (sym g.stays.kept) w.part

    -- the line that is left, with what was read and what follows
    ahead-line : (rest : List ℕ) → ahead t input left rest ≡ at_last t (lines_ahead left.skip (line ++ rest))
    unfolding ahead
    ahead-line rest = ap (λ (l : List ℕ). at_last t (lines_ahead left.skip (l ++ rest))) (sym g.stays.kept)

    -- the input has ended
    module _ (none : n ≡ 0) where
      gave-none : Consumes reader reader' []
      gave-none = subst (λ (k : ℕ). Consumes reader reader' (take k (drop left.size input₁))) none g.gave

      pub turn-ended : (t' : Counts) → LastMeans t line left.skip (Ok tt) t' → TurnMeans t input left reader (Ok Ended) t' input₁ reader'
      turn-ended t' l = (gave-none, g.ended none w.room, ahead-line [] ∙ ap (λ (s : List ℕ). at_last t (lines_ahead left.skip s)) (append-nil line) ∙ l)

      pub turn-over-last : (e : NotCounted) (t' : Counts) → LastMeans t line left.skip (Err e) t' → TurnMeans t input left reader (Ok TooManyLines) t' input₁ reader'
      turn-over-last e t' l = ([], gave-none, λ rest. rw (ahead-line rest) (l rest))

    -- bytes were read
    module _ (start : Place) (s : start ≡ record { from = 0; skip = left.skip }) where
      filled : List ℕ
      filled = take (left.size + n) input₁

      filled-is : filled ≡ line ++ new
      unfolding filled
      filled-is =
          sym (take-append-drop left.size (take (left.size + n) input₁))
          ∙ ap (λ (l : List ℕ). l ++ drop left.size (take (left.size + n) input₁)) (take-take left.size (left.size + n) input₁ (omega arith))
          ∙ ap (λ (l : List ℕ). line ++ l) (drop-take left.size n input₁)

      ahead-filled : (rest : List ℕ) → ahead t input left (new ++ rest) ≡ counts_at t filled start rest
      unfolding counts_at lines_at
      ahead-filled rest =
          ahead-line (new ++ rest)
          ∙ ap (λ (l : List ℕ). at_last t (lines_ahead left.skip l)) (sym (append_assoc line new rest))
          ∙ ap (λ (l : List ℕ). at_last t (lines_ahead left.skip (l ++ rest))) (sym filled-is)
          ∙ ap (λ (p : Place). at_last t (lines_ahead p.skip (drop p.from filled ++ rest))) (sym s)

      pub turn-over : (t' : Counts) → Over (counts_at t (take (left.size + n) input₁) start) → TurnMeans t input left reader (Ok TooManyLines) t' input₁ reader'
      unfolding filled
      turn-over t' o = (new, g.gave, λ rest. rw (ahead-filled rest) (o rest))

      module _ (q : Place) (t' : Counts) (c : CountsTo t (take (left.size + n) input₁) start q t') (size : ℕ) (d : size ≡ length (drop q.from (take (left.size + n) input₁)))
          (input₂ : List ℕ) (v : input₂ ≡ moved input₁ q.from (left.size + n)) where
        front : take size input₂ ≡ drop q.from (take (left.size + n) input₁)
        unfolding moved
        front = ap (take size) v ∙ take_at (drop q.from (take (left.size + n) input₁)) (drop (length (drop q.from (take (left.size + n) input₁))) input₁) size (sym d)

        pub turn-read : (n ≡ 0 → ⊥) → length input₂ ≡ 65536 → TurnMeans t input left reader (Ok (MoreRead (record { size = size; skip = q.skip }))) t' input₂ reader'
        unfolding ahead filled counts_at lines_at
        turn-read some big =
            let p = c.left.short in
            let f = g.fits in
            let l = length-drop left.size input₁ in
            let z = g.stays.size in
            let k = length-take-le n (drop left.size input₁) (omega arith) in (
              new,
              g.gave,
              record {
                some = omega arith;
                waits = record { room = omega arith; part = subst Partial (sym front) c.left; begun = λ full skip. rw front (c.begun full skip) };
                same = λ rest. ahead-filled rest ∙ c.same rest ∙ ap (λ (l : List ℕ). at_last t' (lines_ahead q.skip (l ++ rest))) (sym front);
              },
            )

-- a read that failed
pub turn-failed : (t : Counts) (input : List ℕ) (left : Left) (reader reader' : Option (List ℕ)) (e : Failure) (input' : List ℕ)
    → ReadsBehind reader reader' input left.size (Err e) input' → TurnMeans t input left reader (Err e) t input' reader'
turn-failed t input left reader reader' (Reading f) input' r = r.1
turn-failed t input left reader reader' (Writing f) input' r = r

pub ruleset turn_steps = (line-waits, turn-failed)

-- ---- all turns

-- So many turns have read these bytes, each one at least; whatever follows, the counts at last are those of all lines.
pub record Runs (reader reader' : Option (List ℕ)) (turns : ℕ) (left : Left) (input : List ℕ) (t : Counts) : Type 0 where
  pub read : List ℕ
  pub gave : Consumes reader reader' read
  pub many : turns ≤ length read
  pub waits : Waiting t input left
  pub same : (rest : List ℕ) → tally (lines_of (read ++ rest)) ≡ ahead t input left rest

pub runs-start : (reader : Option (List ℕ)) (input : List ℕ) (t : Counts) → length input ≡ 65536 → t ≡ tally [] → Runs reader reader 0 (record { size = 0; skip = false }) input t
unfolding ahead lines_ahead before_newline
runs-start reader input t size e = record {
  read = [];
  gave = Consumes-nil reader;
  many = omega arith;
  waits = record { room = omega arith; part = record { one_line = refl; short = omega arith }; begun = λ full skip. refl };
  same = λ rest. tally-append [] (lines_of rest) ∙ ap (λ (u : Counts). at_last u (lines_of rest)) (sym e);
}

module _ (reader reader₁ : Option (List ℕ)) (turns : ℕ) (left : Left) (input : List ℕ) (t : Counts) (r : Runs reader reader₁ turns left input t)
    (reader₂ : Option (List ℕ)) (t' : Counts) (input' : List ℕ) where
  pub runs-on : (left' : Left) → TurnMeans t input left reader₁ (Ok (MoreRead left')) t' input' reader₂ → Runs reader reader₂ (turns + 1) left' input' t'
  runs-on left' m =
      let m₀ = r.many in
      let s = m.2.some in
      let l = length-append r.read m.0 in
      record {
        read = r.read ++ m.0;
        gave = Consumes-trans reader reader₁ reader₂ r.read m.0 r.gave m.1;
        many = omega arith;
        waits = m.2.waits;
        same = λ rest. ap (λ (l : List ℕ). tally (lines_of l)) (append_assoc r.read m.0 rest) ∙ r.same (m.0 ++ rest) ∙ m.2.same rest;
      }

  pub all-ended : TurnMeans t input left reader₁ (Ok Ended) t' input' reader₂ → CountsAll reader (Ok (Some Report)) reader₂ t'
  all-ended m =
      let nil = append-nil r.read in (
        r.read,
        (subst (Consumes reader reader₂) nil (Consumes-trans reader reader₁ reader₂ r.read [] r.gave m.0), m.1, ap (λ (l : List ℕ). tally (lines_of l)) (sym nil) ∙ r.same [] ∙ m.2),
      )

  pub all-over : TurnMeans t input left reader₁ (Ok TooManyLines) t' input' reader₂ → CountsAll reader (Ok (Some TooMany)) reader₂ t'
  all-over m = (
    r.read ++ m.0,
    (
      Consumes-trans reader reader₁ reader₂ r.read m.0 r.gave m.1,
      λ rest.
          let s : tally (lines_of ((r.read ++ m.0) ++ rest)) ≡ ahead t input left (m.0 ++ rest) = ap (λ (l : List ℕ). tally (lines_of l)) (append_assoc r.read m.0 rest) ∙ r.same (m.0 ++ rest) in
          let n : length (lines_of ((r.read ++ m.0) ++ rest)) ≡ (ahead t input left (m.0 ++ rest)).lines = sym (tally-lines (lines_of ((r.read ++ m.0) ++ rest))) ∙ ap (λ (u : Counts). u.lines) s in
          let o = m.2 rest in
          omega arith,
    ),
  )

  pub all-failed : (e : Failure) → TurnMeans t input left reader₁ (Err e) t' input' reader₂ → CountsAll reader (Err e) reader₂ t'
  all-failed (Reading f) m = (r.read, Consumes-kept reader reader₁ reader₂ r.read r.gave m)
  all-failed (Writing f) m = absurd m

pub all-out : (reader reader' : Option (List ℕ)) (turns : ℕ) (left : Left) (input : List ℕ) (t : Counts) → Runs reader reader' turns left input t → 18446744073709551615 ≤ turns
    → CountsAll reader (Ok None) reader' t
all-out reader reader' turns left input t r h = (r.read, (r.gave, let m = r.many in omega arith))

pub ruleset run_steps = (runs-start, all-out)
