-- How the program ends: what it printed is the report of all that was read, or what stands in its place.
use Rattle.std.specs.Prelude.{Option, Some, Result, Ok, Err}
use Rattle.std.specs.Result.{IsErrAnd}
use Rattle.std.specs.Io.KnownBytes.{Appends}
use mathlib.Core.Path.{◌≡◌, refl, sym, ap, ◌∙◌, subst}
use mathlib.Core.List.{List, [], ◌++◌, append-nil}
use Prim.Native.Nat.{ℕ, ◌≤◌, ◌<◌}
use native.Mathlib.Omega.{arith}
use lib.ListN.{length}
use borrow.Author.Tests.{le-leb, lt-leb}
use Rattle.tokenizer.specs.Text.{bytes}
use Rattle.input_lines.specs.Lines.{lines_of}
use Rattle.input_lines.specs.Streams.{WritesPart, WritesOut, streams}
use Rattle.input_lines.specs.declared.failure.Failure.{Failure}
use Rattle.input_lines.specs.declared.failure.Failure.TheVariants.{Reading, Writing}
use Rattle.tally.specs.Tally.{Counts, tally, report, report_of}
use Rattle.tally.specs.Laws.{IsTally}
use Rattle.tally.proofs.OneMore.{tally-lines}
use Rattle.tally.proofs.Following.{at-last-of, few-lines}
use Rattle.type_counts.specs.Ending.{Counted, CountsAll, printed_of, Ran}
use Rattle.type_counts.specs.declared.Printed.{Printed}
use Rattle.type_counts.specs.declared.Printed.TheVariants.{Report, TooMany}

-- ---- what is printed for an input

report-of-few : (input : List ℕ) → length (lines_of input) ≤ 1000000 → report (tally (lines_of input)) ≡ report_of input
unfolding report_of
report-of-few input h = rw (le-leb (length (lines_of input)) 1000000 h) refl

report-of-many : (input : List ℕ) → 1000000 < length (lines_of input) → bytes "no 24\n" ≡ report_of input
unfolding report_of
report-of-many input h = rw (lt-leb (length (lines_of input)) 1000000 h) refl

module _ (reader reader' : Option (List ℕ)) (t : Counts) (is : IsTally t) where
  -- the report of the counts is that of what was read
  counts-reported : (read : List ℕ) → Counted reader (Ok (Some Report)) reader' t read → report t ≡ report_of read
  counts-reported read c =
      let e = c.2 ∙ at-last-of t is in
      let n = sym (tally-lines (lines_of read)) ∙ ap (λ (u : Counts). u.lines) e in
      let f = few-lines t is in
      ap report (sym e) ∙ report-of-few read (omega arith)

  module _ (w w' : Option (List ℕ)) where
    pub ran-printed : (p : Printed) → CountsAll reader (Ok (Some p)) reader' t → (u : Unit {0}) → WritesOut w w' (printed_of t p) (Ok u) → Ran (streams reader w) (Ok (Some p)) (streams reader' w')
    ran-printed Report c u a = (c.0, (c.1.0, c.1.1, subst (Appends w w') (counts-reported c.0 c.1) a))
    ran-printed TooMany c u a = (c.0, (c.1.0, λ rest. subst (Appends w w') (report-of-many (c.0 ++ rest) (c.1.1 rest)) a))

    ran-part : (p : Printed) → CountsAll reader (Ok (Some p)) reader' t → (f : Failure) → WritesOut {A = Unit {0}} w w' (printed_of t p) (Err f) → Ran (streams reader w) (Err f) (streams reader' w')
    ran-part Report c (Writing f) a = (c.0, (c.1.0, subst (WritesPart w w') (counts-reported c.0 c.1) a))
    ran-part TooMany c (Writing f) a = (c.0, (c.1.0, subst (WritesPart w w') (report-of-many (c.0 ++ []) (c.1.1 []) ∙ ap report_of (append-nil c.0)) a))
    ran-part p c (Reading f) a = absurd a

    -- the failure is handed on
    pub ran-part-as : (p : Printed) → CountsAll reader (Ok (Some p)) reader' t → (a : Result (Option Printed) Failure) (e : Failure) → IsErrAnd a (λ f. f ≡ e)
        → WritesOut {A = Unit {0}} w w' (printed_of t p) (Err e) → Ran (streams reader w) a (streams reader' w')
    ran-part-as p c (Err f) e h o = ran-part p c f (subst (λ (x : Failure). WritesOut {A = Unit {0}} w w' (printed_of t p) (Err x)) (sym h) o)
    ran-part-as p c (Ok v) e h o = absurd h
