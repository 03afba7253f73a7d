-- Double-quoted strings: what a byte is written as, and what the loops of `escape.rt` hold.
use mathlib.Core.Path.{◌≡◌, refl, sym, ap, ◌∙◌, subst}
use mathlib.Core.Bool.{Bool, true, false, not, ◌&&◌, ◌||◌}
use mathlib.Core.List.{List, [], ◌∷◌, ◌++◌, append_assoc}
use Prim.Native.Nat.{ℕ, zero, suc, ◌+◌, ◌-◌, ◌≤◌, ◌<◌}
use native.Mathlib.Omega.{arith}
use native.Mathlib.Numerals.{add-one}
use lib.ListN.{length, length-append, get_or, set, take, drop, length-drop, take-append-drop}
use lib.Seq.{sets, length-sets, drop-cons, take-suc, length-take-le, take_all}
use lib.Dec.{T}
use Rattle.std.proofs.lemmas.List.{nil_from_length, drop_all, take_rest}
use Rattle.std.proofs.lemmas.Bool.Decides.{nat_tests}
use Rattle.tokenizer.specs.Text.{all}
use Rattle.tokenizer.proofs.Basics.{of_true, is_true, and_l, and_r, both}
use Rattle.datatype.proofs.Sets.{sets_append}
use Rattle.display_length.specs.Display.{is_lead, escape, escape_next, escaped_from, escaped, quoted}
use Rattle.display_length.specs.Internal.Steps.{no_lead}
use Rattle.display_length.proofs.StringLaws.{lead-next, lead-end}
use Rattle.datatype_display.specs.declared.write.Printer.{Printer}
use Rattle.datatype_display.specs.Internal.Steps.{Fits, Ran, Wrote, Stored, is_shown, is_itself}
use Rattle.datatype_display.proofs.Writes.{by_store, store_all, store_then, Left, left_start, left_as, left_fits, left_step, left_last}

-- ---- what a string becomes

from_none : escaped_from false [] ≡ []
unfolding escaped_from
from_none = refl

-- whether the last byte is C2, behind one that is or not
abbrev ends_lead : Bool → List ℕ → Bool
ends_lead lead [] = lead
ends_lead lead (c ∷ s) = ends_lead (is_lead c) s

from_append : (lead : Bool) (s t : List ℕ) → escaped_from lead (s ++ t) ≡ escaped_from lead s ++ escaped_from (ends_lead lead s) t
unfolding escaped_from
from_append lead [] t = refl
from_append lead (c ∷ s) t =
    ap (λ (u : List ℕ). escape_next lead c ++ u) (from_append (is_lead c) s t)
    ∙ sym (append_assoc (escape_next lead c) (escaped_from (is_lead c) s) (escaped_from (ends_lead (is_lead c) s) t))

ends_last : (lead : Bool) (s : List ℕ) (n : ℕ) → length s ≡ suc n → ends_lead lead s ≡ is_lead (get_or s n 0)
ends_last lead [] n e = absurd (omega arith)
ends_last lead (c ∷ []) zero e = refl
ends_last lead (c ∷ []) (suc n) e = absurd (omega arith)
ends_last lead (c ∷ d ∷ s) zero e = absurd (omega arith)
ends_last lead (c ∷ d ∷ s) (suc n) e = ends_last (is_lead c) (d ∷ s) n (omega arith)

escape_itself : (c : ℕ) → T (is_itself c) → escape c ≡ c ∷ []
unfolding is_shown escape
escape_itself c t = grind (arith, nat_tests)

itself_leads : (c : ℕ) → T (is_itself c) → is_lead c ≡ false
itself_leads c t = grind (arith, nat_tests)

from_itself : (c : ℕ) (s : List ℕ) → T (is_itself c) → escaped_from false (c ∷ s) ≡ c ∷ escaped_from false s
unfolding escaped_from escape_next
from_itself c s t = rw (escape_itself c t, itself_leads c t) refl

escaped_themselves : (s : List ℕ) → T (all is_itself s) → escaped_from false s ≡ s
escaped_themselves [] t = from_none
escaped_themselves (c ∷ s) t =
    from_itself c s (and_l (is_itself c) (all is_itself s) t) ∙ ap (λ (l : List ℕ). c ∷ l) (escaped_themselves s (and_r (is_itself c) (all is_itself s) t))

-- ---- byte by byte

-- Of a text that is stored from a place on, some bytes are left: stored at `next`, they make it whole.
pub record Ahead (before : List ℕ) (at : ℕ) (whole : List ℕ) (next : ℕ) (out rest : List ℕ) : Type 0 where
  pub is : sets out next rest ≡ sets before at whole
  pub place : next + length rest ≡ at + length whole
  pub size : length out ≡ length before

pub ahead_start : (before whole : List ℕ) (at : ℕ) → Ahead before at whole at before whole
ahead_start before whole at = record { is = refl; place = refl; size = refl }

module _ {before whole out : List ℕ} {at next : ℕ} (s : List ℕ) (lead : Bool) (i : ℕ) (a : Ahead before at whole next out (escaped_from lead (drop i s))) where
  module _ (h : i < length s) where
    abbrev left-behind : List ℕ
    left-behind = escaped_from (is_lead (get_or s i 0)) (drop (i + 1) s)

    passed : escaped_from lead (drop i s) ≡ escape_next lead (get_or s i 0) ++ left-behind
    unfolding escaped_from
    passed = rw (drop-cons s i 0 h, add-one i) refl

    pub next_fits : at + length whole ≤ length before → next + length (escape_next lead (get_or s i 0)) ≤ length out
    next_fits f =
        let e = ap length passed ∙ length-append (escape_next lead (get_or s i 0)) left-behind in
        let k = a.place in
        let m = a.size in
        omega arith

    pub next_step : {last : ℕ} {after : List ℕ} → Stored out next (escape_next lead (get_or s i 0)) last after → Ahead before at whole last after left-behind
    next_step {last} {after} w =
        let e = ap length passed ∙ length-append (escape_next lead (get_or s i 0)) left-behind in
        let k = a.place in
        let m = w.place in
        record {
          is =
              ap (λ (l : List ℕ). sets l last left-behind) w.is
              ∙ ap (λ (n : ℕ). sets (sets out next (escape_next lead (get_or s i 0))) n left-behind) m
              ∙ sets_append out next (escape_next lead (get_or s i 0)) left-behind
              ∙ ap (λ (l : List ℕ). sets out next l) (sym passed)
              ∙ a.is;
          place = omega arith;
          size = w.size ∙ a.size;
        }

  pub next_end : length s ≤ i → Stored before at whole next out
  unfolding escaped_from
  next_end h =
      let none : escaped_from lead (drop i s) ≡ [] = ap (λ (t : List ℕ). escaped_from lead t) (drop_all i s h) in
      let k = ap length none in
      let m = a.place in
      record { is = ap (λ (l : List ℕ). sets out next l) (sym none) ∙ a.is; place = omega arith; size = a.size }

pub ruleset next_steps = (ahead_start, next_fits, next_step, next_end)

-- ---- whether a byte is escaped, of the bytes that were looked at and of those that are left

not_false : (b : Bool) → not b ≡ false → b ≡ true
not_false true e = refl
not_false false e = sym e

or_both : (f p q : Bool) → (f || not (p && q)) ≡ ((f || not p) || not q)
or_both true p q = refl
or_both false true q = refl
or_both false false q = refl

or_false : (f : Bool) → (f || false) ≡ f
or_false true = refl
or_false false = refl

module _ (test : ℕ → Bool) (s : List ℕ) (i : ℕ) (found : Bool) (l : not (all test s) ≡ (found || not (all test (drop i s)))) where
  more-found : i < length s → (b : Bool) → b ≡ not (test (get_or s i 0)) → not (all test s) ≡ ((found || b) || not (all test (drop (i + 1) s)))
  more-found h b e =
      let n : suc i ≡ i + 1 = omega arith in
      l ∙ ap (λ (t : List ℕ). found || not (all test t)) (drop-cons s i 0 h)
      ∙ or_both found (test (get_or s i 0)) (all test (drop (suc i) s))
      ∙ rw (e, n) refl

  end-found : length s ≤ i → found ≡ not (all test s)
  end-found h = sym (l ∙ ap (λ (t : List ℕ). found || not (all test t)) (drop_all i s h) ∙ or_false found)

-- of the test by which a piece is asked whether it is escaped
module _ (s : List ℕ) (i : ℕ) (found : Bool) where
  pub found-more : not (all is_shown s) ≡ (found || not (all is_shown (drop i s))) → i < length s → (b : Bool) → b ≡ not (is_shown (get_or s i 0))
      → not (all is_shown s) ≡ ((found || b) || not (all is_shown (drop (i + 1) s)))
  found-more l h b e = more-found is_shown s i found l h b e

  pub found-end : not (all is_shown s) ≡ (found || not (all is_shown (drop i s))) → length s ≤ i → found ≡ not (all is_shown s)
  found-end l h = end-found is_shown s i found l h

both_tests : (s : List ℕ) → all is_shown s ≡ true → all no_lead s ≡ true → T (all is_itself s)
both_tests [] e f = tt
both_tests (c ∷ s) e f =
    let a : T (is_shown c && all is_shown s) = of_true _ e in
    let b : T (no_lead c && all no_lead s) = of_true _ f in
    both (is_itself c) (all is_itself s)
    (both (is_shown c) (no_lead c) (and_l (is_shown c) (all is_shown s) a) (and_l (no_lead c) (all no_lead s) b))
    (both_tests s (is_true _ (and_r (is_shown c) (all is_shown s) a)) (is_true _ (and_r (no_lead c) (all no_lead s) b)))

-- ---- a run of bytes that are written as they are

pub ran_none : (before s : List ℕ) (at : ℕ) → Ran before at s 0 before
ran_none before s at = record { few = omega arith; stored = refl; same = refl }

module _ (before s : List ℕ) (at : ℕ) where
  module _ (i : ℕ) (out : List ℕ) (r : Ran before at s i out) where
    ran-kept : length out ≡ length before
    ran-kept = ap (λ (l : List ℕ). length l) r.stored ∙ length-sets before at (take i s)

    run-size : length (take i s) ≡ i
    run-size = length-take-le i s r.few

    module _ (h : i < length s) (b : Bool) (is : b ≡ is_itself (get_or s i 0)) (so : b ≡ true) where
      -- the byte's own place
      here : escaped_from false (drop i s) ≡ get_or s i 0 ∷ escaped_from false (drop (suc i) s)
      here = ap (λ (l : List ℕ). escaped_from false l) (drop-cons s i 0 h) ∙ from_itself (get_or s i 0) (drop (suc i) s) (of_true _ (sym is ∙ so))

      next : take (suc i) s ++ escaped_from false (drop (suc i) s) ≡ escaped_from false s
      next =
          ap (λ (l : List ℕ). l ++ escaped_from false (drop (suc i) s)) (take-suc s i 0 h)
          ∙ append_assoc (take i s) (get_or s i 0 ∷ []) (escaped_from false (drop (suc i) s))
          ∙ ap (λ (l : List ℕ). take i s ++ l) (sym here)
          ∙ r.same

      pub ran-room : at + length (escaped_from false s) ≤ length before → at + i < length out
      ran-room f =
          let e = ap (λ (l : List ℕ). length l) r.same in
          let g = length-append (take i s) (escaped_from false (drop i s)) in
          let k = ap (λ (l : List ℕ). length l) here in
          let a = run-size in
          let b = ran-kept in
          omega arith

      pub ran-more : Ran before at s (i + 1) (set out (at + i) (get_or s i 0))
      ran-more =
          let n : suc i ≡ i + 1 = omega arith in
          record {
            few = omega arith;
            stored =
                ap (λ (l : List ℕ). set l (at + i) (get_or s i 0)) r.stored
                ∙ ap (λ (k : ℕ). set (sets before at (take i s)) (at + k) (get_or s i 0)) (sym run-size)
                ∙ sets_append before at (take i s) (get_or s i 0 ∷ [])
                ∙ ap (λ (l : List ℕ). sets before at l) (sym (take-suc s i 0 h))
                ∙ ap (λ (k : ℕ). sets before at (take k s)) n;
            same = rw (← n) next;
          }

    -- every byte
    pub ran-end : length s ≤ i → Ran before at s (length s) out
    ran-end h = let e : i ≡ length s = let f = r.few in omega arith in rw (← e) r

    -- the rest follows
    rest : take (length s - i) (drop i s) ≡ drop i s
    rest = take_all (length s - i) (drop i s) (let e = length-drop i s in omega arith)

-- The place is behind the run.
pub ran_wrote : {p : Printer} (s : List ℕ) (i : ℕ) (out : List ℕ) → Fits p (escaped_from false s) → Ran p.out.now p.at s i out
    → Wrote p (take i s) (record p { at = p.at + i; out = record p.out { now = out } })
ran_wrote {p} s i out f r =
    let size : length (take i s) ≡ i = length-take-le i s r.few in
    let e = ap length r.same in
    let g = length-append (take i s) (escaped_from false (drop i s)) in
    let h = f.room in
    by_store p _ (take i s) (record { room = omega arith; few = f.few }) r.stored (omega arith) refl refl

pub ran_then : (lead : Bool) (before s : List ℕ) (at i : ℕ) (out : List ℕ) → lead ≡ false → Ran before at s i out → (next : ℕ) (after : List ℕ)
    → Stored out (at + i) (escaped_from lead (take (length s - i) (drop i s))) next after → Stored before at (escaped_from lead s) next after
ran_then lead before s at i out first r next after w =
    let size : at + i ≡ at + length (take i s) = ap (λ (k : ℕ). at + k) (sym (length-take-le i s r.few)) in
    subst (λ (t : List ℕ). Stored before at t next after)
    (ap (λ (t : List ℕ). take i s ++ escaped_from lead t) (rest before s at i out r) ∙ rw first r.same)
    (store_then (store_all r.stored size) w)

-- ---- a piece

module _ {s : List ℕ} {lead a b : Bool} (first : lead ≡ false) (tested : a ≡ not (all is_shown s)) (so : a ≡ false) (asked : b ≡ not (all no_lead s)) (is : b ≡ false) where
  themselves : escaped_from lead s ≡ s
  themselves = rw first (escaped_themselves s (both_tests s (not_false _ (sym tested ∙ so)) (not_false _ (sym asked ∙ is))))

  pub itself_fits : {p : Printer} → Fits p (escaped_from lead s) → Fits p s
  itself_fits {p} f = subst (λ (t : List ℕ). Fits p t) themselves f

  pub itself_wrote : {p q : Printer} → Wrote p s q → Wrote p (escaped_from lead s) q
  itself_wrote {p} {q} w = subst (λ (t : List ℕ). Wrote p t q) (sym themselves) w

module _ {before p : Printer} {whole : List ℕ} (lead : Bool) (rest tail : List ℕ) (n : ℕ) (l : Left before whole (escaped_from lead rest ++ tail) p) where
  front_left : Left before whole (escaped_from lead (take n rest) ++ (escaped_from (ends_lead lead (take n rest)) (drop n rest) ++ tail)) p
  front_left =
      left_as
      (
      ap (λ (t : List ℕ). escaped_from lead t ++ tail) (sym (take-append-drop n rest))
      ∙ ap (λ (t : List ℕ). t ++ tail) (from_append lead (take n rest) (drop n rest))
      ∙ append_assoc (escaped_from lead (take n rest)) (escaped_from (ends_lead lead (take n rest)) (drop n rest)) tail
      )
      l

  pub piece_fits : {piece : List ℕ} → piece ≡ take n rest → Fits p (escaped_from lead piece)
  piece_fits e = rw e (left_fits _ front_left)

  -- behind a piece the next byte is behind the piece's last
  pub piece_left : {q : Printer} {piece behind : List ℕ} (m : ℕ) → length piece ≡ suc m → piece ≡ take n rest → behind ≡ drop n rest → Wrote p (escaped_from lead piece) q
      → Left before whole (escaped_from (is_lead (get_or piece m 0)) behind ++ tail) q
  piece_left {q} {piece} m k e f w =
      rw (f, ← ends_last lead piece m k, e)
      (left_step front_left (subst (λ (t : List ℕ). Wrote p (escaped_from lead t) q) e w))

-- ---- what is left behind a run

module _ {before p : Printer} {whole rest out : List ℕ} {n : ℕ} (tail : List ℕ) (l : Left before whole (escaped_from false rest ++ tail) p) (r : Ran p.out.now p.at rest n out) where
  pub ran_left : Left before whole (escaped_from false (take (length rest - n) (drop n rest)) ++ tail) (record p { at = p.at + n; out = record p.out { now = out } })
  ran_left =
      rw (take_rest rest n)
      (left_step
      (left_as (ap (λ (t : List ℕ). t ++ tail) (sym r.same) ∙ append_assoc (take n rest) (escaped_from false (drop n rest)) tail) l)
      (ran_wrote rest n out (left_fits tail l) r))

pub none_left : {before p : Printer} {whole : List ℕ} (rest tail : List ℕ) → Left before whole (escaped_from false rest ++ tail) p → length rest ≡ 0 → Left before whole tail p
none_left rest tail l e = left_as (ap (λ (t : List ℕ). escaped_from false t ++ tail) (nil_from_length rest e) ∙ ap (λ (t : List ℕ). t ++ tail) from_none) l

pub none_behind : (s : List ℕ) (n : ℕ) → length s ≤ n → length (take (length s - n) (drop n s)) ≡ 0
none_behind s n h = rw (take_rest s n) (let e = length-drop n s in omega arith)

-- ---- a string in double quotes

mark_wrote : (p : Printer) (c : ℕ) → Fits p (c ∷ []) → Wrote p (c ∷ []) (record p { at = p.at + 1; out = record p.out { now = set p.out.now p.at c } })
mark_wrote p c f = by_store p _ (c ∷ []) f refl refl refl refl

module _ {p : Printer} {s out : List ℕ} {n : ℕ} (f : Fits p (quoted s)) (r : Ran (set p.out.now p.at 34) (p.at + 1) s n out) where
  -- the printer behind the first mark and the run
  abbrev behind : Printer
  behind = record p { at = p.at + 1 + n; out = record p.out { now = out } }

  -- what is left there
  start_left : Left p (quoted s) (escaped_from false (take (length s - n) (drop n s)) ++ (34 ∷ [])) behind
  unfolding quoted escaped
  start_left = ran_left (34 ∷ []) (left_step {s = 34 ∷ []} (left_start f) (mark_wrote p 34 (left_fits (escaped_from false s ++ (34 ∷ [])) (left_start f)))) r

  pub quoted_rest : {q : Printer} → Wrote behind (escaped_from false (take (length s - n) (drop n s)) ++ (34 ∷ [])) q → Wrote p (quoted s) q
  quoted_rest w = left_last start_left w

  pub quoted_all : length s ≤ n → Wrote p (quoted s) (record p { at = p.at + 1 + n + 1; out = record p.out { now = set out (p.at + 1 + n) 34 } })
  quoted_all h = let l = none_left _ (34 ∷ []) start_left (none_behind s n h) in left_last l (mark_wrote behind 34 l.fits)

pub ruleset run_steps = (ran-room, ran-more, ran-end)

pub ruleset found_steps = (found-more, found-end)

pub ruleset lead_steps = (lead-next, lead-end)
