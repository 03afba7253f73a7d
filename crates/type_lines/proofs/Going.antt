-- Answering lines: whatever follows in the input, what is printed at last stays the same.
use Rattle.std.specs.Prelude.{if◌then◌else◌, Option, Some, None}
use Rattle.std.specs.Option.{unwrap_or}
use mathlib.Core.Path.{◌≡◌, refl, sym, ap, ◌∙◌, subst}
use mathlib.Core.Bool.{Bool, true, false, ◌&&◌}
use mathlib.Core.List.{List, [], ◌∷◌, ◌++◌, append_assoc, append-nil}
use Prim.Native.Nat.{ℕ, suc, ◌+◌, ◌-◌, ◌≤◌, ◌<◌}
use native.Mathlib.Omega.{arith}
use lib.ListN.{length, take, drop, length-append, length-drop, drop_of_length-le}
use lib.Seq.{take_at, take_all, take-length, length-take-le, drop-drop, drop_at}
use lib.Dec.{leb}
use borrow.Author.Tests.{le-leb}
use Rattle.input_lines.specs.Lines.{lines_of, before_newline}
use Rattle.input_lines.specs.Ahead.{lines_ahead, lines_at, begins, skips, next_of, Comes}
use Rattle.input_lines.specs.declared.Place.{Place}
use Rattle.input_lines.specs.declared.NextLine.TheVariants.{Whole, Long, Unfinished as Partly}
use Rattle.input_lines.proofs.Ends.{lines_some}
use Rattle.input_lines.proofs.Coming.{came, whole_ordered, whole_within, whole_on, long_within, long_on}
use Rattle.answer_line.specs.Line.{line_answer, line_words, answers, output, line_answered, line_out, answer_bytes}
use Rattle.answer_line.proofs.Ends.{long_line}
use Rattle.type_lines.specs.Run.{output_from, printed_at, Inside, Behind, Wrote, Goes, Halts, Ends}
use Rattle.type_lines.specs.declared.Progress.{Progress}

-- ---- what lies behind the answers

module _ (out : List ℕ) where
  pub behind-none : (wrote : ℕ) → wrote ≤ length out → Behind out wrote wrote out
  behind-none wrote h = record { more = omega arith; fits = h; rest = refl }

  behind-further : (out' : List ℕ) (i k : ℕ) → drop i out' ≡ drop i out → drop (i + k) out' ≡ drop (i + k) out
  behind-further out' i k e = sym (drop-drop k i out') ∙ ap (drop k) e ∙ drop-drop k i out

  module _ (wrote next : ℕ) (out₁ : List ℕ) (b : Behind out wrote next out₁) where
    pub behind-then : (last : ℕ) (out₂ : List ℕ) → Behind out₁ next last out₂ → Behind out wrote last out₂
    behind-then last out₂ d =
        let h = b.more in
        let k = d.more in
        let e : next + (last - next) ≡ last = omega arith in
        record {
          more = omega arith;
          fits = d.fits;
          rest = d.rest ∙ subst (λ (i : ℕ). drop i out₁ ≡ drop i out) e (behind-further out₁ next (last - next) b.rest);
        }

-- ---- an answer behind the answers

-- the part of the output that is lent, put back with the answer at its start
module _ (line out part back : List ℕ) (wrote : ℕ) (fits : wrote ≤ length out)
    (is_back : back ≡ take wrote out ++ (part ++ drop (length out - wrote) (drop wrote out))) where
  pub wrote-line : (n : ℕ) → n ≡ length (line_answer line) → (behind : List ℕ) → part ≡ line_answer line ++ behind → behind ≡ drop n (drop wrote out) → length part ≡ length out - wrote
      → Wrote line out wrote (wrote + n) back
  wrote-line n e behind p b k =
      let a : List ℕ = line_answer line in
      let after : List ℕ = drop (length out - wrote) (drop wrote out) in
      let h : length (take wrote out) ≡ wrote = length-take-le wrote out fits in
      let size : length a + length behind ≡ length out - wrote = sym (ap (λ (l : List ℕ). length l) p ∙ length-append a behind) ∙ k in
      let is : back ≡ (take wrote out ++ a) ++ (behind ++ after) =
      is_back
      ∙ ap (λ (l : List ℕ). take wrote out ++ (l ++ after)) p
      ∙ ap (λ (l : List ℕ). take wrote out ++ l) (append_assoc a behind after)
      ∙ sym (append_assoc (take wrote out) a (behind ++ after)) in
      let front : length (take wrote out ++ a) ≡ wrote + n = length-append (take wrote out) a ∙ (let q : length (take wrote out) + length a ≡ wrote + n = omega arith in q) in
      let whole = ap (λ (l : List ℕ). length l) is ∙ length-append (take wrote out ++ a) (behind ++ after) in
      let none : after ≡ [] = let d = length-drop wrote out in drop_of_length-le (drop wrote out) {i = length out - wrote} (omega arith) in
      record {
        behind = record {
          more = omega arith;
          fits = omega arith;
          rest =
              ap (drop (wrote + n)) is
              ∙ drop_at (take wrote out ++ a) (behind ++ after) (wrote + n) front
              ∙ ap (λ (l : List ℕ). behind ++ l) none
              ∙ append-nil behind
              ∙ b
              ∙ drop-drop n wrote out;
        };
        answers = ap (take (wrote + n)) is ∙ take_at (take wrote out ++ a) (behind ++ after) (wrote + n) front;
      }

module _ (line rows out lent part : List ℕ) (wrote size : ℕ) (sized : length out ≡ size) (words : line_words ≤ length rows) (room : wrote + answer_bytes ≤ length out)
    (is_lent : lent ≡ take (size - wrote) (drop wrote out)) (r : Option ℕ) (a : r ≡ line_answered line rows lent) where
  lent_is : lent ≡ take (length out - wrote) (drop wrote out)
  lent_is = is_lent ∙ ap (λ (n : ℕ). take (n - wrote) (drop wrote out)) (sym sized)

  lent_length : length lent ≡ length out - wrote
  lent_length =
      let d = length-drop wrote out in
      ap (λ (l : List ℕ). length l) lent_is ∙ length-take-le (length out - wrote) (drop wrote out) (omega arith)

  lent-all : lent ≡ drop wrote out
  lent-all = let d = length-drop wrote out in lent_is ∙ take_all (length out - wrote) (drop wrote out) (omega arith)

  enough : (A : Type 0) (x y : A) → (if (leb line_words (length rows) && leb answer_bytes (length lent)) then x else y) ≡ x
  enough A x y = let l = lent_length in rw (le-leb line_words (length rows) words, le-leb answer_bytes (length lent) (omega arith))

  module _ (o : part ≡ line_out line rows lent) (k : length part ≡ length lent) where
    -- the bytes of the answer, where there is room
    answer-size : unwrap_or r 0 ≡ length (line_answer line)
    unfolding line_answered
    answer-size = ap (λ (o : Option ℕ). unwrap_or o 0) (a ∙ enough (Option ℕ) (Some (length (line_answer line))) None)

    answer-bytes : part ≡ line_answer line ++ drop (length (line_answer line)) lent
    unfolding line_out
    answer-bytes = o ∙ enough (List ℕ) (line_answer line ++ drop (length (line_answer line)) lent) lent

    pub wrote-within : wrote + unwrap_or r 0 ≤ length out
    wrote-within =
        let s : List ℕ = line_answer line in
        let c = answer-size in
        let l = ap (λ (x : List ℕ). length x) answer-bytes ∙ length-append s (drop (length s) lent) in
        let m = lent_length in
        omega arith

    pub wrote_at : (back : List ℕ) → back ≡ take wrote out ++ (part ++ drop (size - wrote) (drop wrote out)) → Wrote line out wrote (wrote + unwrap_or r 0) back
    wrote_at back is_back = wrote-line line out part back wrote (omega arith) (is_back ∙ ap (λ (n : ℕ). take wrote out ++ (part ++ drop (n - wrote) (drop wrote out))) (sym sized)) (unwrap_or r 0) answer-size (drop (length (line_answer line)) lent) answer-bytes
        (ap (λ (i : ℕ). drop i lent) (sym answer-size) ∙ ap (drop (unwrap_or r 0)) lent-all) (k ∙ lent_length)

-- ---- from place to place

module _ (input out : List ℕ) where
  pub goes-nowhere : (p : Progress) → Inside input p out → Goes input p out p out
  goes-nowhere p i = record { inside = i; behind = behind-none out p.wrote i.answers; same = λ rest. refl }

  module _ (p q : Progress) (out₁ : List ℕ) (g : Goes input p out q out₁) where
    goes_then : (r : Progress) (out₂ : List ℕ) → Goes input q out₁ r out₂ → Goes input p out r out₂
    goes_then r out₂ h = record { inside = h.inside; behind = behind-then out p.wrote q.wrote out₁ g.behind r.wrote out₂ h.behind; same = λ rest. g.same rest ∙ h.same rest }

-- ---- the steps

-- What is printed for what comes next is the answers to the lines ahead.
ahead-answers : (skip : Bool) (s : List ℕ) → output_from skip s ≡ answers (lines_ahead skip s)
unfolding output_from output lines_ahead
ahead-answers false s = refl
ahead-answers true s = refl

abbrev pub at_place : Place → ℕ → Progress
at_place p wrote = record { from = p.from; wrote = wrote; skip = p.skip }

printed-ahead : (input : List ℕ) (p : Place) (wrote : ℕ) (out rest : List ℕ) → printed_at input (at_place p wrote) out rest ≡ take wrote out ++ answers (lines_at input p rest)
unfolding printed_at lines_at
printed-ahead input p wrote out rest = ap (λ (l : List ℕ). take wrote out ++ l) (ahead-answers p.skip (drop p.from input ++ rest))

module _ (input out : List ℕ) (p : Place) (wrote : ℕ) where
  -- a line that comes whole, and one that is too long: its answer is that of the part at hand
  goes-answered : (q : Place) (line : List ℕ) (next : ℕ) (out' : List ℕ) → Wrote line out wrote next out' → q.from ≤ length input
      → ((rest : List ℕ) → answers (lines_at input p rest) ≡ line_answer line ++ answers (lines_at input q rest))
      → Goes input (at_place p wrote) out (at_place q next) out'
  goes-answered q line next out' w i e = record {
    inside = record { read = i; answers = w.behind.fits };
    behind = w.behind;
    same = λ rest.
        printed-ahead input p wrote out rest
        ∙ ap (λ (l : List ℕ). take wrote out ++ l) (e rest)
        ∙ sym (append_assoc (take wrote out) (line_answer line) (answers (lines_at input q rest)))
        ∙ ap (λ (l : List ℕ). l ++ answers (lines_at input q rest)) (sym w.answers)
        ∙ sym (printed-ahead input q next out' rest);
  }

  pub goes-whole : (start end next : ℕ) (out' : List ℕ) → Comes input p (Whole start end) → Wrote (take (end - start) (drop start input)) out wrote next out'
      → Goes input (at_place p wrote) out (at_place (begins (end + 1)) next) out'
  goes-whole start end next out' c w =
      let l = c.2 in
      goes-answered (begins (end + 1)) (take (end - start) (drop start input)) next out' w (omega arith) (λ rest. ap answers (c.3 rest))

  too-long : (start : ℕ) (more : List ℕ) → 16384 < length input - start → line_answer (drop start input ++ more) ≡ line_answer (take (length input - start) (drop start input))
  too-long start more k =
      let d = length-drop start input in
      let l = length-append (drop start input) more in
      long_line (drop start input ++ more) (omega arith)
      ∙ sym (long_line (take (length input - start) (drop start input)) (omega (arith, length-take-le (length input - start) (drop start input) (omega arith))))

  pub goes-long : (start next : ℕ) (out' : List ℕ) → Comes input p (Long start) → Wrote (take (length input - start) (drop start input)) out wrote next out'
      → Goes input (at_place p wrote) out (at_place (skips (length input)) next) out'
  goes-long start next out' c w =
      goes-answered (skips (length input)) (take (length input - start) (drop start input)) next out' w (omega arith)
      (λ rest. ap answers (c.2 rest) ∙ ap (λ (l : List ℕ). l ++ answers (lines_at input (skips (length input)) rest)) (too-long start (take (before_newline rest) rest) c.1))

  pub goes-left : (q : Place) → Comes input p (Partly q) → wrote ≤ length out
      → Goes input (at_place p wrote) out (at_place q wrote) out × Halts input (at_place q wrote) out
  goes-left q c i = (
    record {
      inside = record { read = c.0; answers = i };
      behind = behind-none out wrote i;
      same = λ rest. printed-ahead input p wrote out rest ∙ ap (λ (ls : List (List ℕ)). take wrote out ++ answers ls) (c.2 rest) ∙ sym (printed-ahead input q wrote out rest);
    },
    record { left = λ l. let u = c.1 in record { partial = u.one_line; short = u.short } },
  )

-- ---- the loop over the lines

-- The place that the loop has reached, and an output as long as it was.
pub record Reached (input : List ℕ) (p : Progress) (place : Place) (wrote : ℕ) (out out' : List ℕ) : Type 0 where
  pub goes : Goes input p out (at_place place wrote) out'
  pub bytes : length out' ≡ length out

module _ (input : List ℕ) (p : Progress) (out : List ℕ) where
  pub reached-start : Inside input p out → Reached input p (record { from = p.from; skip = p.skip }) p.wrote out out
  reached-start i = record { goes = goes-nowhere input out p i; bytes = refl }

  module _ (place : Place) (wrote : ℕ) (out₁ : List ℕ) (t : Reached input p place wrote out out₁) where
    pub reached-whole : (start end next : ℕ) (out₂ : List ℕ) → Comes input place (Whole start end)
        → Wrote (take (end - start) (drop start input)) out₁ wrote next out₂ × (length out₂ ≡ length out₁) → Reached input p (begins (end + 1)) next out out₂
    reached-whole start end next out₂ c w =
        record { goes = goes_then input out p (at_place place wrote) out₁ t.goes (at_place (begins (end + 1)) next) out₂ (goes-whole input out₁ place wrote start end next out₂ c w.0); bytes = w.1 ∙ t.bytes }

    pub reached-long : (start next : ℕ) (out₂ : List ℕ) → Comes input place (Long start)
        → Wrote (take (length input - start) (drop start input)) out₁ wrote next out₂ × (length out₂ ≡ length out₁) → Reached input p (skips (length input)) next out out₂
    reached-long start next out₂ c w =
        record { goes = goes_then input out p (at_place place wrote) out₁ t.goes (at_place (skips (length input)) next) out₂ (goes-long input out₁ place wrote start next out₂ c w.0); bytes = w.1 ∙ t.bytes }

    pub reached-left : (q : Place) → Comes input place (Partly q) → Goes input p out (at_place q wrote) out₁ × Halts input (at_place q wrote) out₁
    reached-left q c =
        let g = goes-left input out₁ place wrote q c t.goes.inside.answers in
        (goes_then input out p (at_place place wrote) out₁ t.goes (at_place q wrote) out₁ g.0, g.1)

    pub reached-short : length out₁ < wrote + answer_bytes → Goes input p out (at_place place wrote) out₁ × Halts input (at_place place wrote) out₁
    reached-short h = (t.goes, record { left = λ l. absurd (omega arith) })

-- ---- the end of the input

module _ (line out : List ℕ) where
  nothing : output [] ≡ []
  unfolding output lines_of
  nothing = refl

  -- what is left prints nothing
  ends-none : (skip : Bool) → output_from skip line ≡ [] → Ends line skip out 0 out
  ends-none skip e = record { behind = behind-none out 0 (omega arith); answers = sym e }

  pub ends-skipped : before_newline line ≡ length line → (skip : Bool) → skip ≡ true → Ends line skip out 0 out
  unfolding output_from
  ends-skipped k skip e = ends-none skip (ap (λ (b : Bool). output_from b line) e ∙ ap output (drop_of_length-le line {i = suc (before_newline line)} (omega arith)) ∙ nothing)

  pub ends-empty : length line ≡ 0 → (skip : Bool) → skip ≡ false → Ends line skip out 0 out
  unfolding output_from
  ends-empty k skip e = ends-none skip (ap (λ (b : Bool). output_from b line) e ∙ ap output (none line k) ∙ nothing)
    where
      none : (l : List ℕ) → length l ≡ 0 → l ≡ []
      none [] q = refl
      none (c ∷ l) q = absurd (omega arith)

  -- the one line of an input without a newline
  only-line : 0 < length line → before_newline line ≡ length line → output line ≡ line_answer line
  unfolding output lines_of
  only-line h k =
      ap answers (lines_some line h)
      ∙ ap (λ (n : ℕ). line_answer (take n line) ++ answers (lines_of (drop (suc n) line))) k
      ∙ ap (λ (l : List ℕ). line_answer l ++ answers (lines_of (drop (suc (length line)) line))) (take-length line)
      ∙ ap (λ (l : List ℕ). line_answer line ++ answers (lines_of l)) (drop_of_length-le line {i = suc (length line)} (omega arith))
      ∙ append-nil (line_answer line)

  pub ends-line : (next : ℕ) (out' : List ℕ) → (length line ≡ 0 → ⊥) → before_newline line ≡ length line → (skip : Bool) → skip ≡ false → Wrote line out 0 next out'
      → Ends line skip out next out'
  unfolding output_from
  ends-line next out' h k skip e w =
      record {
        behind = w.behind;
        answers = w.answers ∙ sym (ap (λ (b : Bool). output_from b line) e ∙ only-line (omega arith) k);
      }

-- ---- what the functions use

module _ (input : List ℕ) (p : Progress) (out : List ℕ) (place : Place) (wrote : ℕ) (out₁ : List ℕ) (t : Reached input p place wrote out out₁) where
  pub then_whole : (start end next : ℕ) (out₂ : List ℕ) → Whole start end ≡ next_of input place
      → Wrote (take (end - start) (drop start input)) out₁ wrote next out₂ × (length out₂ ≡ length out₁) → Reached input p (begins (end + 1)) next out out₂
  then_whole start end next out₂ e w = reached-whole input p out place wrote out₁ t start end next out₂ (came input place (Whole start end) e) w

  pub then_long : (start next : ℕ) (out₂ : List ℕ) → Long start ≡ next_of input place
      → Wrote (take (length input - start) (drop start input)) out₁ wrote next out₂ × (length out₂ ≡ length out₁) → Reached input p (skips (length input)) next out out₂
  then_long start next out₂ e w = reached-long input p out place wrote out₁ t start next out₂ (came input place (Long start) e) w

  pub then_left : (q : Place) → Partly q ≡ next_of input place → Goes input p out (at_place q wrote) out₁ × Halts input (at_place q wrote) out₁
  then_left q e = reached-left input p out place wrote out₁ t q (came input place (Partly q) e)

pub ruleset lines_steps = (reached-start, reached-short, whole_ordered, whole_within, whole_on, long_within, long_on, then_left)

pub ruleset last_steps = (ends-skipped, ends-empty, ends-line)
