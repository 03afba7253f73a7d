-- What comes next of an input that is read piece by piece, whatever follows.
use Rattle.std.specs.Prelude.{if◌then◌else◌}
use mathlib.Core.Path.{◌≡◌, refl, sym, ap, ◌∙◌, subst}
use mathlib.Core.Bool.{Bool, true, false}
use mathlib.Core.List.{List, [], ◌∷◌, ◌++◌}
use Prim.Native.Nat.{ℕ, suc, ◌+◌, ◌-◌, ◌≤◌, ◌<◌, min}
use native.Mathlib.Decide.{dec_lt}
use native.Mathlib.Omega.{arith}
use lib.ListN.{length, take, drop, length-append, length-drop, drop_of_length-le}
use lib.Seq.{take-append-le, drop-append-le, take-append-add, drop-append-add, drop-drop}
use lib.Dec.{eqb, ltb}
use borrow.Author.Tests.{lt-ltb, le-ltb}
use Rattle.input_lines.specs.Lines.{lines_of, before_newline, line_end}
use Rattle.input_lines.specs.Ahead.{lines_ahead, lines_at, begins, skips, Partial, line_from, next_of, Comes}
use Rattle.input_lines.specs.declared.Place.{Place}
use Rattle.input_lines.specs.declared.NextLine.{NextLine}
use Rattle.input_lines.specs.declared.NextLine.TheVariants.{Whole, Long, Unfinished}
use Rattle.input_lines.proofs.Ends.{before_within, lines_some}

-- ---- newlines in what is read and in what follows

module _ (rest : List ℕ) where
  pub before-in : (s : List ℕ) → before_newline s < length s → before_newline (s ++ rest) ≡ before_newline s
  unfolding before_newline
  before-in [] h = absurd (omega arith)
  before-in (c ∷ s) h = go (eqb c 10) (before-in s) h
    where
      go : (b : Bool) → (before_newline s < length s → before_newline (s ++ rest) ≡ before_newline s) → (if b then 0 else suc (before_newline s)) < suc (length s)
          → (if b then 0 else suc (before_newline (s ++ rest))) ≡ (if b then 0 else suc (before_newline s))
      go true f k = refl
      go false f k = ap suc (f (omega arith))

  pub before-past : (s : List ℕ) → before_newline s ≡ length s → before_newline (s ++ rest) ≡ length s + before_newline rest
  unfolding before_newline
  before-past [] h = omega arith
  before-past (c ∷ s) h = go (eqb c 10) (before-past s) h
    where
      go : (b : Bool) → (before_newline s ≡ length s → before_newline (s ++ rest) ≡ length s + before_newline rest) → (if b then 0 else suc (before_newline s)) ≡ suc (length s)
          → (if b then 0 else suc (before_newline (s ++ rest))) ≡ suc (length s) + before_newline rest
      go true f k = absurd (omega arith)
      go false f k = let e = f (omega arith) in omega arith

  -- the first line is whole
  pub whole-first : (s : List ℕ) → before_newline s < length s
      → lines_of (s ++ rest) ≡ take (before_newline s) s ∷ lines_of (drop (suc (before_newline s)) s ++ rest)
  whole-first s h =
      let n : ℕ = before_newline s in
      let l = length-append s rest in
      let e : before_newline (s ++ rest) ≡ n = before-in s h in
      subst (λ (k : ℕ). lines_of (s ++ rest) ≡ take k (s ++ rest) ∷ lines_of (drop (suc k) (s ++ rest))) e (lines_some (s ++ rest) (omega arith))
      ∙ ap (λ (t : List ℕ). t ∷ lines_of (drop (suc n) (s ++ rest))) (take-append-le n s rest (omega arith))
      ∙ ap (λ (t : List ℕ). take n s ∷ lines_of t) (drop-append-le (suc n) s rest (omega arith))

  -- behind a line that is not read to its end
  past-line : (s : List ℕ) → before_newline s ≡ length s → drop (suc (before_newline (s ++ rest))) (s ++ rest) ≡ drop (suc (before_newline rest)) rest
  past-line s h =
      let e : suc (before_newline (s ++ rest)) ≡ length s + suc (before_newline rest) = let f = before-past s h in omega arith in
      ap (λ (k : ℕ). drop k (s ++ rest)) e ∙ drop-append-add s rest (suc (before_newline rest))

  -- a line whose first bytes are these, of which there is one at least
  pub begun-first : (s : List ℕ) → before_newline s ≡ length s → 0 < length s → lines_of (s ++ rest) ≡ (s ++ take (before_newline rest) rest) ∷ lines_ahead true rest
  unfolding lines_ahead
  begun-first s h k =
      let m : ℕ = before_newline (s ++ rest) in
      let e : m ≡ length s + before_newline rest = before-past s h in
      let l = length-append s rest in
      lines_some (s ++ rest) (omega arith)
      ∙ ap (λ (t : List ℕ). t ∷ lines_of (drop (suc m) (s ++ rest))) (ap (λ (i : ℕ). take i (s ++ rest)) e ∙ take-append-add s rest (before_newline rest))
      ∙ ap (λ (t : List ℕ). (s ++ take (before_newline rest) rest) ∷ lines_of t) (past-line s h)

  -- the rest of a line that was taken already
  pub skip-in : (s : List ℕ) → before_newline s < length s → lines_ahead true (s ++ rest) ≡ lines_of (drop (suc (before_newline s)) s ++ rest)
  unfolding lines_ahead
  skip-in s h =
      ap (λ (k : ℕ). lines_of (drop (suc k) (s ++ rest))) (before-in s h)
      ∙ ap lines_of (drop-append-le (suc (before_newline s)) s rest (omega arith))

  pub skip-all : (s : List ℕ) → before_newline s ≡ length s → lines_ahead true (s ++ rest) ≡ lines_ahead true rest
  unfolding lines_ahead
  skip-all s h = ap lines_of (past-line s h)

-- ---- where the line that begins at a place ends

-- a place behind the input's end is its end
pub clamped : (input : List ℕ) (place from : ℕ) → from ≡ min place (length input) → drop place input ≡ drop from input
clamped input place from e =
    elim (dec_lt place (length input)) [
      | yes h ↦ ap (λ (n : ℕ). drop n input) (let q : place ≡ from = omega arith in q)
      | no h ↦ drop_of_length-le input {i = place} (omega arith) ∙ sym (drop_of_length-le input {i = from} (omega arith))
    ]

module _ (input : List ℕ) (from end : ℕ) (inside : from ≤ length input) (e : end ≡ line_end input from) where
  before-end : end ≡ from + before_newline (drop from input)
  unfolding line_end
  before-end = let w = before_within (drop from input) in let l = length-drop from input in omega arith

  pub from-before : from ≤ end
  from-before = let b = before-end in omega arith

  ends-here : end < length input → before_newline (drop from input) < length (drop from input)
  ends-here n = let b = before-end in let l = length-drop from input in omega arith

  no-end : (end < length input → ⊥) → before_newline (drop from input) ≡ length (drop from input)
  no-end h = let b = before-end in let w = before_within (drop from input) in let l = length-drop from input in omega arith

  the-line : take (end - from) (drop from input) ≡ take (before_newline (drop from input)) (drop from input)
  the-line = let b = before-end in ap (λ (k : ℕ). take k (drop from input)) (let q : end - from ≡ before_newline (drop from input) = omega arith in q)

  behind-line : drop (suc (before_newline (drop from input))) (drop from input) ≡ drop (end + 1) input
  behind-line =
      let b = before-end in
      drop-drop (suc (before_newline (drop from input))) from input
      ∙ ap (λ (k : ℕ). drop k input) (let q : from + suc (before_newline (drop from input)) ≡ end + 1 = omega arith in q)

  -- a line begins here
  pub comes-whole : end < length input → Comes input (begins from) (Whole from end)
  unfolding lines_at lines_ahead
  comes-whole h = (
    omega arith,
    from-before,
    h,
    λ rest.
        whole-first rest (drop from input) (ends-here h)
        ∙ ap (λ (l : List ℕ). l ∷ lines_of (drop (suc (before_newline (drop from input))) (drop from input) ++ rest)) (sym the-line)
        ∙ ap (λ (l : List ℕ). take (end - from) (drop from input) ∷ lines_of (l ++ rest)) behind-line,
  )

  nothing-left : drop (length input) input ≡ []
  nothing-left = drop_of_length-le input {i = length input} (omega arith)

  pub comes-long : (end < length input → ⊥) → 16384 < length input - from → Comes input (begins from) (Long from)
  unfolding lines_at lines_ahead
  comes-long h k =
      let l = length-drop from input in (
        omega arith,
        k,
        λ rest.
            begun-first rest (drop from input) (no-end h) (omega arith)
            ∙ ap (λ (t : List ℕ). (drop from input ++ take (before_newline rest) rest) ∷ lines_of (drop (suc (before_newline (t ++ rest))) (t ++ rest))) (sym nothing-left),
      )

  pub comes-partly : (end < length input → ⊥) → length input - from ≤ 16384 → Comes input (begins from) (Unfinished (begins from))
  comes-partly h k = let l = length-drop from input in (inside, record { one_line = no-end h; short = omega arith }, λ rest. refl)

  -- the rest of a line is skipped
  module _ (p : Place) (at : from ≡ min p.from (length input)) (skip : p.skip ≡ true) where
    skipped-here : (rest : List ℕ) → end < length input → lines_at input p rest ≡ lines_at input (begins (end + 1)) rest
    unfolding lines_at lines_ahead
    skipped-here rest h =
        (λ j. lines_ahead (skip j) (clamped input p.from from at j ++ rest))
        ∙ skip-in rest (drop from input) (ends-here h)
        ∙ ap (λ (l : List ℕ). lines_of (l ++ rest)) behind-line

    pub skips-to : end < length input → (n : NextLine) → Comes input (begins (end + 1)) n → Comes input p n
    skips-to h (Whole start stop) c = (let a = c.0 in let b = c.1 in let d = from-before in omega arith, c.1, c.2, λ rest. skipped-here rest h ∙ c.3 rest)
    skips-to h (Long start) c = (let a = c.0 in let d = from-before in omega arith, c.1, λ rest. skipped-here rest h ∙ c.2 rest)
    skips-to h (Unfinished q) c = (c.0, c.1, λ rest. skipped-here rest h ∙ c.2 rest)

    nothing-partial : Partial (drop (length input) input)
    unfolding before_newline
    nothing-partial = rw nothing-left record { one_line = refl; short = omega arith }

    pub skips-on : (end < length input → ⊥) → Comes input p (Unfinished (skips (length input)))
    unfolding lines_at
    skips-on h =
        let d = nothing-left in (
          omega arith,
          nothing-partial,
          λ rest.
              (λ j. lines_ahead (skip j) (clamped input p.from from at j ++ rest))
              ∙ skip-all rest (drop from input) (no-end h)
              ∙ ap (λ (l : List ℕ). lines_ahead true (l ++ rest)) (sym d),
        )

-- a place that is no skip
module _ (input : List ℕ) (p : Place) (from : ℕ) (at : from ≡ min p.from (length input)) (skip : p.skip ≡ false) where
  begun-here : (rest : List ℕ) → lines_at input p rest ≡ lines_at input (begins from) rest
  unfolding lines_at
  begun-here rest = λ j. lines_ahead (skip j) (clamped input p.from from at j ++ rest)

  pub comes-begins : (n : NextLine) → Comes input (begins from) n → Comes input p n
  comes-begins (Whole start stop) c = (let a = c.0 in let b = c.1 in let d = c.2 in omega arith, c.1, c.2, λ rest. begun-here rest ∙ c.3 rest)
  comes-begins (Long start) c = (let a = c.0 in let b = c.1 in omega arith, c.1, λ rest. begun-here rest ∙ c.2 rest)
  comes-begins (Unfinished q) c = (c.0, c.1, λ rest. begun-here rest ∙ c.2 rest)

-- What comes next where a line begins.
first-comes : (input : List ℕ) (start : ℕ) → start ≤ length input → Comes input (begins start) (line_from input start)
unfolding line_from
first-comes input start inside =
    elim (dec_lt (line_end input start) (length input)) [
      | yes h ↦ rw (lt-ltb (line_end input start) (length input) h) (comes-whole input start (line_end input start) inside refl h)
      | no h ↦ rw (le-ltb (line_end input start) (length input) (omega arith)) (
          elim (dec_lt 16384 (length input - start)) [
            | yes k ↦ rw (lt-ltb 16384 (length input - start) k) (comes-long input start (line_end input start) inside refl h k)
            | no k ↦ rw (le-ltb 16384 (length input - start) (omega arith)) (comes-partly input start (line_end input start) inside refl h (omega arith))
          ])
    ]

-- What comes next at any place.
module _ (input : List ℕ) (p : Place) (from end : ℕ) (at : from ≡ min p.from (length input)) (e : end ≡ line_end input from) where
  by-skip : (skip : Bool) → p.skip ≡ skip
      → Comes input p (if skip then (if ltb end (length input) then line_from input (end + 1) else Unfinished (skips (length input))) else line_from input from)
  by-skip false s = comes-begins input p from at s (line_from input from) (first-comes input from (omega arith))
  by-skip true s =
      elim (dec_lt end (length input)) [
        | yes h ↦ rw (lt-ltb end (length input) h) (skips-to input from end (omega arith) e p at s h (line_from input (end + 1)) (first-comes input (end + 1) (omega arith)))
        | no h ↦ rw (le-ltb end (length input) (omega arith)) (skips-on input from end (omega arith) e p at s h)
      ]

pub next_comes : (input : List ℕ) (p : Place) → Comes input p (next_of input p)
unfolding next_of
next_comes input p = by-skip input p (min p.from (length input)) (line_end input (min p.from (length input))) refl refl p.skip refl

pub came : (input : List ℕ) (p : Place) (n : NextLine) → n ≡ next_of input p → Comes input p n
came input p n e = subst (λ (m : NextLine). Comes input p m) (sym e) (next_comes input p)

-- where a line that comes stands
module _ (input : List ℕ) (p : Place) where
  pub whole_ordered : (start end : ℕ) → Whole start end ≡ next_of input p → start ≤ end
  whole_ordered start end e = let c = came input p (Whole start end) e in c.1

  pub whole_within : (start end : ℕ) → Whole start end ≡ next_of input p → end < length input
  whole_within start end e = let c = came input p (Whole start end) e in c.2

  pub whole_on : (start end : ℕ) → Whole start end ≡ next_of input p → length input - (end + 1) < length input - p.from
  whole_on start end e = let c = came input p (Whole start end) e in let a = c.0 in let b = c.1 in let d = c.2 in omega arith

  pub long_within : (start : ℕ) → Long start ≡ next_of input p → start ≤ length input
  long_within start e = let c = came input p (Long start) e in let a = c.1 in omega arith

  pub long_on : (start : ℕ) → Long start ≡ next_of input p → length input - length input < length input - p.from
  long_on start e = let c = came input p (Long start) e in let a = c.0 in let b = c.1 in omega arith

-- what is left is not the rest of a line that is skipped, unless nothing is left
module _ (input : List ℕ) (q : Place) where
  part-begins : (start : ℕ) → Unfinished q ≡ line_from input start → q.skip ≡ false
  unfolding line_from
  part-begins start e = go (ltb (line_end input start) (length input)) (ltb 16384 (length input - start)) e
    where
      go : (a b : Bool) → Unfinished q ≡ (if a then Whole start (line_end input start) else (if b then Long start else Unfinished (begins start))) → q.skip ≡ false
      go true b e = absurd (cc)
      go false true e = absurd (cc)
      go false false e = let f : q ≡ begins start = cc in ap (λ (x : Place). x.skip) f

  pub left_begins : (p : Place) → Unfinished q ≡ next_of input p → q.from < length input → q.skip ≡ false
  unfolding next_of
  left_begins p e h = go p.skip (ltb (line_end input (min p.from (length input))) (length input)) e
    where
      go : (a b : Bool) → Unfinished q ≡ (if a then (if b then line_from input (line_end input (min p.from (length input)) + 1) else Unfinished (skips (length input))) else line_from input (min p.from (length input))) → q.skip ≡ false
      go false b e = part-begins (min p.from (length input)) e
      go true true e = part-begins (line_end input (min p.from (length input)) + 1) e
      go true false e = let f : q ≡ skips (length input) = cc in let g = ap (λ (x : Place). x.from) f in absurd (omega arith)
