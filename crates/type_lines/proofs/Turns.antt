-- Turns of the program: what each asks of the buffers, what it leaves for the next, and all of them together.
--   turns_print   what all turns wrote and what is still to be printed is what is printed for all that they read, and for
--                 what follows
--   turns_move    there are no more turns than bytes read and written
--   ended_prints  where the input ends, all that was written is what is printed for all that was read
use Rattle.std.specs.Prelude.{Option, Some, None, Result, Ok, Err}
use Rattle.std.specs.Result.{IsErrAnd}
use Rattle.std.specs.Io.KnownBytes.{Consumes, Appends, IsAtEnd}
use Rattle.std.proofs.KnownBytes.{Consumes-nil, Consumes-trans, Consumes-kept, Appends-nil, Appends-trans, Keeps-refl}
use Rattle.std.proofs.lemmas.List.{drop-take}
use mathlib.Core.Path.{◌≡◌, refl, sym, ap, ◌∙◌, subst}
use mathlib.Core.Bool.{Bool, false}
use mathlib.Core.List.{List, [], ◌++◌, append_assoc, append-nil}
use Prim.Native.Nat.{ℕ, suc, ◌+◌, ◌-◌, ◌≤◌, ◌<◌}
use native.Mathlib.Omega.{arith}
use lib.ListN.{length, take, drop, length-append, length-drop, take-append-drop, drop_of_length-le}
use lib.Seq.{length-take-le, take_at, take-take}
use Rattle.answer_line.specs.Line.{output, answer_bytes}
use Rattle.input_lines.specs.Streams.{moved, Gave, ReadsBehind, WritesPart, WritesOut, Streams, streams, Transfers}
use Rattle.type_lines.specs.Run.{output_from, printed_at, Inside, Behind, Goes, Unfinished, Halts, Ends}
use Rattle.type_lines.specs.Streams.{WriteFails}
use Rattle.type_lines.specs.Turns.{read_in, written_in, left_in, ahead, Running, Turned, GoesOn, Reads, ReadOn, LastLine, Turns, start, turn, History, Ended, Ran}
use Rattle.type_lines.specs.declared.Progress.{Progress}
use Rattle.type_lines.specs.declared.Turn.{Turn}
use Rattle.std.specs.declared.ops.ControlFlow.{ControlFlow}
use Rattle.std.specs.declared.ops.ControlFlow.TheVariants.{Continue, Break}
use Rattle.input_lines.specs.declared.failure.Failure.{Failure}
use Rattle.input_lines.specs.declared.failure.Failure.TheVariants.{Reading, Writing}

-- bytes at the start of a buffer are so many
pub counted : (n : ℕ) (l : List ℕ) → n ≤ length l → n ≡ length (take n l)
counted n l h = sym (length-take-le n l h)

-- ---- writing

-- Not all of the bytes were written, of which what is printed is a beginning.
part-fails : (printed bytes behind : List ℕ) (w w' : Option (List ℕ)) → printed ≡ bytes ++ behind → WritesPart w w' bytes → WriteFails printed w w'
part-fails printed bytes behind w w' e p =
    let n : ℕ = p.0 in
    let l = length-append (drop n bytes) behind in
    let d = length-drop n bytes in
    let short : n < length bytes = p.1 in
    record {
      written = take n bytes;
      gained = p.2;
      more = drop n bytes ++ behind;
      begins = e ∙ ap (λ (l : List ℕ). l ++ behind) (sym (take-append-drop n bytes)) ∙ append_assoc (take n bytes) (drop n bytes) behind;
      short = omega arith;
    }

-- ---- reading on

abbrev pub read_turn : ℕ → Bool → ℕ → ℕ → Turn
read_turn left skip wrote n = record { filled = left + n; from = 0; skip = skip; written = wrote; read = n }

module _ (reader reader' : Option (List ℕ)) (input : List ℕ) (left : ℕ) (skip : Bool) (wrote n : ℕ) (input' : List ℕ) (inside : left < length input)
    (g : Gave reader reader' input left n input') where
  reads-now : Reads input left skip wrote (read_turn left skip wrote n) input'
  reads-now = let a = g.fits in let b = g.stays.size in record { is = refl; fits = omega arith; kept = g.stays.kept }

  pub read-more : (n ≡ 0 → ⊥) → ReadOn (Ok (Continue (read_turn left skip wrote n))) input left skip wrote input' reader reader'
  read-more z = (reads-now, omega arith, g.gave)

  pub read-end : n ≡ 0 → ReadOn (Ok (Break (read_turn left skip wrote n))) input left skip wrote input' reader reader'
  read-end z = (reads-now, z, subst (λ (k : ℕ). Consumes reader reader' (take k (drop left input'))) z g.gave, g.ended z inside)

pub read-fails : (reader reader' : Option (List ℕ)) (input : List ℕ) (left : ℕ) (skip : Bool) (wrote : ℕ) (input' : List ℕ) (e : Failure)
    → ReadsBehind reader reader' input left (Err e) input' → ReadOn (Err e) input left skip wrote input' reader reader'
read-fails reader reader' input left skip wrote input' (Reading f) r = r.1
read-fails reader reader' input left skip wrote input' (Writing f) r = r

pub ruleset read_steps = (read-more, read-end, read-fails)

-- ---- a turn

-- the output is no shorter than it was
pub no_shorter : (out : List ℕ) (wrote next : ℕ) (out' : List ℕ) → Behind out wrote next out' → length out ≤ length out'
no_shorter out wrote next out' b =
    let c = length-drop next out in
    let d = length-drop next out' in
    let e = ap (λ (l : List ℕ). length l) b.rest in
    let f = b.fits in
    omega arith

abbrev pub place_of : Turn → Progress
place_of t = record { from = t.from; wrote = 0; skip = t.skip }

module _ (t : Turn) (input out : List ℕ) (r : Running input t) where
  pub inside-filled : Inside (take t.filled input) (place_of t) out
  inside-filled =
      let c = counted t.filled input r.fits in
      let a = r.place in
      record { read = omega arith; answers = omega arith }

  module _ (q : Progress) (out' : List ℕ) (g : Goes (take t.filled input) (place_of t) out q out') where
    pub within-filled : q.from ≤ t.filled
    within-filled =
        let c = counted t.filled input r.fits in
        let a = g.inside.read in
        omega arith

    -- whatever follows
    printed-on : (rest : List ℕ) → ahead t input rest ≡ take q.wrote out' ++ output_from q.skip (drop q.from (take t.filled input) ++ rest)
    unfolding ahead printed_at
    printed-on rest = g.same rest

    -- a turn that only writes
    abbrev wrote_turn : ℕ → Turn
    wrote_turn wrote = record { filled = t.filled; from = q.from; skip = q.skip; written = wrote; read = 0 }

    read_none : (wrote : ℕ) → read_in (wrote_turn wrote) input ≡ []
    read_none wrote =
        let c = counted t.filled input r.fits in
        drop_of_length-le (take t.filled input) {i = t.filled - 0} (omega arith)

    -- a write that failed
    pub turn-unwritten : (reader w w' : Option (List ℕ)) (e : Failure) → WritesOut {A = Unit {0}} w w' (take q.wrote out') (Err e)
        → GoesOn t input out (streams reader w) (Err e) input out' (streams reader w')
    turn-unwritten reader w w' (Writing f) p = (Keeps-refl reader, part-fails (ahead t input []) (take q.wrote out') (output_from q.skip (drop q.from (take t.filled input) ++ [])) w w' (printed-on []) p)
    turn-unwritten reader w w' (Reading f) p = absurd p

    turned-wrote : 0 < q.wrote → Turned t input out (wrote_turn q.wrote) input out'
    unfolding ahead
    turned-wrote k =
        record {
          same = λ rest. ap (λ (l : List ℕ). ahead t input (l ++ rest)) (read_none q.wrote) ∙ printed-on rest;
          behind = g.behind;
          gone = 0;
          left = ap (λ (n : ℕ). take n input) (let z : t.filled - 0 ≡ t.filled = omega arith in z);
          waits = λ h. absurd (omega arith);
          reads = omega arith;
          fits = r.fits;
          place = within-filled;
        }

    pub turn-wrote : (reader w w' : Option (List ℕ)) → Appends w w' (take q.wrote out') → 0 < q.wrote
        → GoesOn t input out (streams reader w) (Ok (Continue (wrote_turn q.wrote))) input out' (streams reader w')
    turn-wrote reader w w' a k =
        (turned-wrote k, omega arith, record { gave = subst (Consumes reader reader) (sym (read_none q.wrote)) (Consumes-nil reader); gained = a })

    -- a turn that reads on
    module _ (left : ℕ) (input₁ : List ℕ) (counted_left : left ≡ length (drop q.from (take t.filled input))) (v : input₁ ≡ moved input q.from t.filled)
        (h : Halts (take t.filled input) q out') (room : q.wrote + answer_bytes ≤ length out) where
      -- the output has room for another answer, so that only an unfinished line is left
      u : Unfinished (drop q.from (take t.filled input))
      u = h.left (let l = no_shorter out 0 q.wrote out' g.behind in omega arith)

      front : take left input₁ ≡ drop q.from (take t.filled input)
      unfolding moved
      front = ap (take left) v ∙ take_at (drop q.from (take t.filled input)) (drop (length (drop q.from (take t.filled input))) input) left (sym counted_left)

      pub left-fits : 16384 < length input₁ → left < length input₁
      left-fits z = let s = u.short in omega arith

      module _ (input₂ : List ℕ) (t' : Turn) (d : Reads input₁ left q.skip q.wrote t' input₂) where
        module _ (n : ℕ) (k : left + n ≤ length input₂) (kept : take left input₂ ≡ take left input₁) where
          now : Turn
          now = read_turn left q.skip q.wrote n

          new : List ℕ
          new = read_in now input₂

          kept-left : left_in now input₂ ≡ drop q.from (take t.filled input)
          unfolding now
          kept-left = ap (λ (i : ℕ). take i input₂) (let z : left + n - n ≡ left = omega arith in z) ∙ kept ∙ front

          filled_is : take (left + n) input₂ ≡ drop q.from (take t.filled input) ++ new
          unfolding new now
          filled_is =
              sym (take-append-drop (left + n - n) (take (left + n) input₂))
              ∙ ap (λ (l : List ℕ). l ++ new) (take-take (left + n - n) (left + n) input₂ (omega arith) ∙ kept-left)

          turned-now : Turned t input out now input₂ out'
          unfolding ahead now new
          turned-now =
              record {
                same = λ rest.
                    printed-on (new ++ rest)
                    ∙ ap (λ (l : List ℕ). take q.wrote out' ++ output_from q.skip l) (sym (append_assoc (drop q.from (take t.filled input)) new rest) ∙ ap (λ (l : List ℕ). l ++ rest) (sym filled_is));
                behind = g.behind;
                gone = q.from;
                left = kept-left;
                waits = λ z. subst Unfinished (sym kept-left) u;
                reads = omega arith;
                fits = k;
                place = omega arith;
              }

        turned : Turned t input out t' input₂ out'
        unfolding now
        turned = let f = d.is in let k = d.fits in subst (λ (x : Turn). Turned t input out x input₂ out') (sym f) (turned-now t'.read (subst (λ (x : Turn). x.filled ≤ length input₂) f k) d.kept)

        -- the bytes read stand behind those left
        read-now : read_in t' input₂ ≡ take t'.read (drop left input₂)
        read-now =
            let f : t'.filled ≡ left + t'.read = ap (λ (x : Turn). x.filled) d.is in
            ap (λ (i : ℕ). drop (t'.filled - t'.read) (take i input₂)) f
            ∙ ap (λ (i : ℕ). drop i (take (left + t'.read) input₂)) (let q : t'.filled - t'.read ≡ left = omega arith in q)
            ∙ drop-take left t'.read input₂

        wrote-now : (w w' : Option (List ℕ)) → Appends w w' (take q.wrote out') → Appends w w' (written_in t' out')
        wrote-now w w' a = let f : q.wrote ≡ t'.written = sym (ap (λ (x : Turn). x.written) d.is) in subst (λ (n : ℕ). Appends w w' (take n out')) f a

      pub turn-read : (input₂ : List ℕ) (reader reader' w w' : Option (List ℕ)) → Appends w w' (take q.wrote out')
          → (a : Result (ControlFlow Turn Turn) Failure) → ReadOn a input₁ left q.skip q.wrote input₂ reader reader'
          → GoesOn t input out (streams reader w) a input₂ out' (streams reader' w')
      turn-read input₂ reader reader' w w' x (Ok (Continue t')) d =
          let h = d.1 in
          (turned input₂ t' d.0, omega arith, record { gave = subst (Consumes reader reader') (sym (read-now input₂ t' d.0)) d.2; gained = wrote-now input₂ t' d.0 w w' x })
      turn-read input₂ reader reader' w w' x (Ok (Break t')) d =
          let f = d.0.is in
          let z : t'.from ≡ 0 = ap (λ (x : Turn). x.from) f in
          let l : t'.filled ≡ left + t'.read = ap (λ (x : Turn). x.filled) f in
          let n : t'.read ≡ 0 = d.1 in
          let same : t'.filled ≡ left = omega arith in (
            turned input₂ t' d.0,
            n,
            z,
            subst Unfinished (sym (ap (λ (i : ℕ). take i input₂) same ∙ d.0.kept ∙ front)) u,
            record { gave = d.2; gained = wrote-now input₂ t' d.0 w w' x },
            d.3,
          )
      turn-read input₂ reader reader' w w' x (Err (Reading _)) d = (
        d,
        record { written = take q.wrote out'; gained = x; skip = q.skip; left = drop q.from (take t.filled input); waits = u; same = printed-on },
      )
      turn-read input₂ reader reader' w w' x (Err (Writing _)) d = absurd d

-- ---- the last line

module _ (line : List ℕ) (skip : Bool) (out : List ℕ) (n : ℕ) (out' : List ℕ) (e : Ends line skip out n out') (w w' : Option (List ℕ)) where
  -- what was written is all that was still to be printed
  pub last-written : Appends w w' (take n out') → LastLine line skip w (Ok n) out' w'
  last-written a = (e.answers, a)

  pub last-unwritten : (f : Failure) → WritesOut {A = Unit {0}} w w' (take n out') (Err f) → LastLine line skip w (Err f) out' w'
  last-unwritten (Writing f) p = part-fails (output_from skip line) (take n out') [] w w' (sym e.answers ∙ sym (append-nil (take n out'))) p
  last-unwritten (Reading f) p = absurd p

-- ---- all turns

-- what all turns wrote and what is still to be printed is what is printed for all that they read, and for what follows
pub turns_print : (n : ℕ) (t : Turn) (input read written : List ℕ) → Turns n t input read written → (rest : List ℕ) → output (read ++ rest) ≡ written ++ ahead t input rest
unfolding ahead output_from
turns_print n t input read written (start _) rest = refl
turns_print n t input read written (turn {t = t₀} {input = input₀} {read = read₀} {written = written₀} ts _ out _ out' d m) rest =
    ap output (append_assoc read₀ (read_in t input) rest)
    ∙ turns_print _ t₀ input₀ read₀ written₀ ts (read_in t input ++ rest)
    ∙ ap (λ (l : List ℕ). written₀ ++ l) (d.same rest)
    ∙ sym (append_assoc written₀ (written_in t out') (ahead t input rest))

-- there are no more turns than bytes read and written
pub turns_move : (n : ℕ) (t : Turn) (input read written : List ℕ) → Turns n t input read written → n ≤ length read + length written
turns_move n t input read written (start _) = omega arith
turns_move n t input read written (turn {t = t₀} {input = input₀} {read = read₀} {written = written₀} ts _ out _ out' d m) =
    let h = turns_move _ t₀ input₀ read₀ written₀ ts in
    let a = length-append read₀ (read_in t input) in
    let b = length-append written₀ (written_in t out') in
    let c = length-take-le t.written out' d.behind.fits in
    let e = length-take-le t.filled input d.fits in
    let f = length-drop (t.filled - t.read) (take t.filled input) in
    let g = d.reads in
    omega arith

-- where the input ends, all that was written is what is printed for all that was read
pub ended_prints : (h : History) (n : ℕ) (out : List ℕ) (e : Ended h n out) → output h.read ≡ h.written ++ (written_in e.last e.behind ++ take n out)
ended_prints h n out e =
    let t : Turn = e.last in
    let none : read_in t e.input ≡ [] =
    let z = e.none in
    let l = length-take-le t.filled e.input e.turned.fits in
    drop_of_length-le (take t.filled e.input) {i = t.filled - t.read} (omega arith) in
    ap output (sym (append-nil h.read))
    ∙ turns_print h.count h.last h.input h.read h.written h.turns []
    ∙ ap (λ (l : List ℕ). h.written ++ ahead h.last h.input (l ++ [])) (sym none)
    ∙ ap (λ (l : List ℕ). h.written ++ l) (e.turned.same [] ∙ ap (λ (l : List ℕ). written_in t e.behind ++ l) (sym e.rest))

-- The program runs, and has a history, in which the streams have come to where they are.
pub record Runs (turns : ℕ) (t : Turn) (input : List ℕ) (s s' : Streams) : Type 0 where
  pub running : Running input t
  pub read : List ℕ
  pub written : List ℕ
  pub so_far : Turns turns t input read written
  pub moved_so : Transfers s s' read written

abbrev pub at_start : Turn
at_start = record { filled = 0; from = 0; skip = false; written = 0; read = 0 }

pub runs-start : (input : List ℕ) (s : Streams) → Runs 0 at_start input s s
runs-start input s = record {
  running = record { fits = omega arith; place = omega arith };
  read = [];
  written = [];
  so_far = start input;
  moved_so = record { gave = Consumes-nil s.reader; gained = Appends-nil s.writer };
}

transfers-then : (a b c : Streams) (r r' w w' : List ℕ) → Transfers a b r w → Transfers b c r' w' → Transfers a c (r ++ r') (w ++ w')
transfers-then a b c r r' w w' x y = record {
  gave = Consumes-trans a.reader b.reader c.reader r r' x.gave y.gave;
  gained = Appends-trans a.writer b.writer c.writer w w' x.gained y.gained;
}

module _ (turns : ℕ) (t : Turn) (input : List ℕ) (s s₁ : Streams) (r : Runs turns t input s s₁) where
  history_of : History
  history_of = record { count = turns; last = t; input = input; read = r.read; written = r.written; turns = r.so_far }

  prints : (rest : List ℕ) → output (r.read ++ rest) ≡ r.written ++ ahead t input rest
  prints = turns_print turns t input r.read r.written r.so_far

  pub ran_out : turns ≡ 18446744073709551615 → (out' : List ℕ) → Ran (Ok None) out' s s₁
  unfolding history_of
  ran_out h out' = (history_of, (h, r.moved_so))

  -- what was written before, and a part of what was to be printed then
  write-fails : (printed : List ℕ) (before : List ℕ) (w w' : Option (List ℕ)) → output r.read ≡ before ++ printed → Appends s.writer w before → WriteFails printed w w'
      → WriteFails (output r.read) s.writer w'
  write-fails printed before w w' e a f = record {
    written = before ++ f.written;
    gained = Appends-trans s.writer w w' before f.written a f.gained;
    more = f.more;
    begins = e ∙ ap (λ (l : List ℕ). before ++ l) f.begins ∙ sym (append_assoc before f.written f.more);
    short = f.short;
  }

  prints-now : output r.read ≡ r.written ++ ahead t input []
  prints-now = ap output (sym (append-nil r.read)) ∙ prints []

  module _ (out input' out' : List ℕ) (s₂ : Streams) where
    pub ran-failed : (e : Failure) → GoesOn t input out s₁ (Err e) input' out' s₂ → Ran (Err e) out' s s₂
    unfolding history_of
    ran-failed (Reading e) g =
        let f = g.1 in (
          history_of,
          (
            Consumes-kept s.reader s₁.reader s₂.reader r.read r.moved_so.gave g.0,
            record {
              written = r.written ++ f.written;
              gained = Appends-trans s.writer s₁.writer s₂.writer r.written f.written r.moved_so.gained f.gained;
              skip = f.skip;
              left = f.left;
              waits = f.waits;
              same = λ rest. prints rest ∙ ap (λ (l : List ℕ). r.written ++ l) (f.same rest) ∙ sym (append_assoc r.written f.written (output_from f.skip (f.left ++ rest)));
            },
          ),
        )
    ran-failed (Writing e) g = (
      history_of,
      (Consumes-kept s.reader s₁.reader s₂.reader r.read r.moved_so.gave g.0, write-fails (ahead t input []) r.written s₁.writer s₂.writer prints-now r.moved_so.gained g.1),
    )

    -- the failure is handed on
    pub ran-failed-as : (a : Result (Option ℕ) Failure) (e : Failure) → IsErrAnd a (λ f. f ≡ e) → GoesOn t input out s₁ (Err e) input' out' s₂ → Ran a out' s s₂
    ran-failed-as (Err f) e h g = ran-failed f (subst (λ (x : Failure). GoesOn t input out s₁ (Err x) input' out' s₂) (sym h) g)
    ran-failed-as (Ok v) e h g = absurd h

    module _ (t' : Turn) where
      pub runs_on : GoesOn t input out s₁ (Ok (Continue t')) input' out' s₂ → Runs (turns + 1) t' input' s s₂
      runs_on more =
          let next : suc turns ≡ turns + 1 = omega arith in
          record {
            running = record { fits = more.0.fits; place = more.0.place };
            read = r.read ++ read_in t' input';
            written = r.written ++ written_in t' out';
            so_far = subst (λ (n : ℕ). Turns n t' input' (r.read ++ read_in t' input') (r.written ++ written_in t' out')) next (turn r.so_far t' out input' out' more.0 more.1);
            moved_so = transfers-then s s₁ s₂ r.read (read_in t' input') r.written (written_in t' out') r.moved_so more.2;
          }

      -- the input has ended
      module _ (g : GoesOn t input out s₁ (Ok (Break t')) input' out' s₂) where
        pub last_fits : t'.filled ≤ length input'
        last_fits = g.0.fits

        pub last_line : Unfinished (take t'.filled input')
        last_line = g.3

        abbrev pub line : List ℕ
        line = take t'.filled input'

        gave-all : Consumes s.reader s₂.reader r.read
        gave-all = subst (Consumes s.reader s₂.reader) (append-nil r.read) (Consumes-trans s.reader s₁.reader s₂.reader r.read [] r.moved_so.gave g.4.gave)

        gained-so : Appends s.writer s₂.writer (r.written ++ written_in t' out')
        gained-so = Appends-trans s.writer s₁.writer s₂.writer r.written (written_in t' out') r.moved_so.gained g.4.gained

        -- all that is still to be printed is the last line's answer
        last-ahead : ahead t' input' [] ≡ output_from t'.skip line
        unfolding ahead
        last-ahead =
            let z = g.2 in
            ap (output_from t'.skip) (append-nil (drop t'.from (take t'.filled input')) ∙ ap (λ (i : ℕ). drop i (take t'.filled input')) z)

        none-read : read_in t' input' ≡ []
        none-read =
            let z = g.1 in
            let l = length-take-le t'.filled input' g.0.fits in
            drop_of_length-le (take t'.filled input') {i = t'.filled - t'.read} (omega arith)

        prints-all : output r.read ≡ (r.written ++ written_in t' out') ++ output_from t'.skip line
        prints-all =
            prints-now
            ∙ ap (λ (l : List ℕ). r.written ++ ahead t input (l ++ [])) (sym none-read)
            ∙ ap (λ (l : List ℕ). r.written ++ l) (g.0.same [] ∙ ap (λ (l : List ℕ). written_in t' out' ++ l) last-ahead)
            ∙ sym (append_assoc r.written (written_in t' out') (output_from t'.skip line))

        pub ran-ended : (n : ℕ) (out'' : List ℕ) (s₃ : Streams) → s₃.reader ≡ s₂.reader → LastLine line t'.skip s₂.writer (Ok n) out'' s₃.writer → Ran (Ok (Some n)) out'' s s₃
        unfolding history_of
        ran-ended n out'' s₃ same l = (
          history_of,
          (
            record { last = t'; input = input'; before = out; behind = out'; turned = g.0; none = g.1; rest = l.0 ∙ sym last-ahead },
            record {
              gave = subst (λ (x : Option (List ℕ)). Consumes s.reader x r.read) (sym same) gave-all;
              ended = subst IsAtEnd (sym same) g.5;
              gained =
                  subst (Appends s.writer s₃.writer) (ap (λ (l : List ℕ). (r.written ++ written_in t' out') ++ l) l.0 ∙ sym prints-all)
                  (Appends-trans s.writer s₂.writer s₃.writer _ (take n out'') gained-so l.1);
            },
          ),
        )

        pub ran-unwritten : (e : Failure) (out'' : List ℕ) (s₃ : Streams) → s₃.reader ≡ s₂.reader → LastLine line t'.skip s₂.writer (Err e) out'' s₃.writer → Ran (Err e) out'' s s₃
        unfolding history_of
        ran-unwritten (Writing e) out'' s₃ same l = (
          history_of,
          (
            subst (λ (x : Option (List ℕ)). Consumes s.reader x r.read) (sym same) gave-all,
            write-fails (output_from t'.skip line) (r.written ++ written_in t' out') s₂.writer s₃.writer prints-all gained-so l,
          ),
        )
        ran-unwritten (Reading e) out'' s₃ same l = absurd l

        pub ran-unwritten-as : (a : Result (Option ℕ) Failure) (e : Failure) → IsErrAnd a (λ f. f ≡ e) → (out'' : List ℕ) (s₃ : Streams) → s₃.reader ≡ s₂.reader
            → LastLine line t'.skip s₂.writer (Err e) out'' s₃.writer → Ran a out'' s s₃
        ran-unwritten-as (Err f) e h out'' s₃ same l = ran-unwritten f out'' s₃ same (subst (λ (x : Failure). LastLine line t'.skip s₂.writer (Err x) out'' s₃.writer) (sym h) l)
        ran-unwritten-as (Ok v) e h out'' s₃ same l = absurd h

-- what the functions use
pub ruleset turn_steps = (inside-filled, within-filled, turn-read, turn-unwritten, left-fits)

pub ruleset last_steps = (last-written, last-unwritten)

pub ruleset run_steps = (runs-start, counted, last_fits, last_line, runs_on)
