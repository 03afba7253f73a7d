-- Writing behind what was written, where there is room for all of it.
--   by_store       bytes that a store left at the printer's place, and the place moved behind them
--   by_writer      what the writer itself did
--   store_all      what one store did, in the output alone
--   store_none, store_then
--                  bytes behind bytes, in the output alone
--   stores         what the functions cite that store one part behind another
--   wrote_then     bytes behind bytes
--   writes         what the functions cite that write one part behind another
--   Left           the bytes of a text that are left to write: there is room for them, and with them it is whole
--   left_start, left_fits, left_step, left_end, left_last   one part behind another
use mathlib.Core.Path.{◌≡◌, refl, sym, ap, ◌∙◌, subst}
use mathlib.Core.List.{List, [], ◌++◌, append_assoc, append-nil}
use Prim.Native.Nat.{ℕ, ◌+◌, ◌-◌, ◌≤◌}
use native.Mathlib.Omega.{arith}
use lib.ListN.{length, take, drop, length-append}
use lib.Seq.{sets, sets-eq, length-sets, take_all}
use borrow.Rule.Slice.PartMut.{put_mid}
use Rattle.std.proofs.lemmas.Slice.{put_mid-paste}
use Rattle.datatype.proofs.Sets.{sets_append}
use Rattle.writer.specs.declared.Writer.{Writer}
use Rattle.writer.specs.Written.{counted, written}
use Rattle.writer.proofs.Written.{counted_all, written_then, written_none, written_size, written_place}
use Rattle.datatype_display.specs.declared.write.Printer.{Printer}
use Rattle.datatype_display.specs.Internal.Steps.{writer_of, Fits, Wrote, Stored}

-- ---- one call

pub by_writer : (p q : Printer) (s : List ℕ) → Fits p s → (writer_of q) ≡ written (writer_of p) s → Wrote p s q
by_writer p q s f e =
    let r = f.room in
    let m = f.few in
    record {
      is = e;
      place = ap (λ (w : Writer). w.at) e ∙ written_place (writer_of p) s (omega arith);
      size = ap (λ (w : Writer). length w.out.now) e ∙ written_size (writer_of p) s;
    }

pub by_store : (p q : Printer) (s : List ℕ) → Fits p s → q.out.now ≡ sets p.out.now p.at s → q.at ≡ p.at + length s
    → q.out.ghost_name ≡ p.out.ghost_name → q.out.ref_ptr ≡ p.out.ref_ptr → Wrote p s q
unfolding written
by_store p q s f e k g h =
    let r = f.room in
    let m = f.few in
    let all : counted p.at s ≡ s = counted_all p.at s (omega arith) in
    record {
      is =
          rw all
          (ap (λ (l : List ℕ). record (writer_of q) { out = record q.out { now = l } }) e
          ∙ ap (λ (n : ℕ). record (writer_of q) { at = n; out = record q.out { now = sets p.out.now p.at s } }) k
          ∙ ap (λ n. record (writer_of q) { at = p.at + length s; out = record q.out { now = sets p.out.now p.at s; ghost_name = n } }) g
          ∙ ap (λ n. record (writer_of p) { at = p.at + length s; out = record p.out { now = sets p.out.now p.at s; ref_ptr = n } }) h);
      place = k;
      size = ap length e ∙ length-sets p.out.now p.at s;
    }

pub copied : (before s part : List ℕ) (at : ℕ) → at + length s ≤ length before → part ≡ s → put_mid at (at + length s - at) before part ≡ sets before at s
copied before s part at f e =
    let k : length s ≡ at + length s - at = omega arith in
    put_mid-paste at (at + length s - at) before part s (length s) e k refl
    ∙ ap (λ (t : List ℕ). take at before ++ t ++ drop (at + length s) before) (take_all (length s) s (omega arith))
    ∙ sym (sets-eq s before at f)

-- ---- bytes behind bytes, in the output alone

pub store_all : {before after s : List ℕ} {at next : ℕ} → after ≡ sets before at s → next ≡ at + length s → Stored before at s next after
store_all {before} {s = s} {at} e k = record { is = e; place = k; size = ap length e ∙ length-sets before at s }

pub store_none : (before : List ℕ) (at : ℕ) → Stored before at [] at before
store_none before at = record { is = refl; place = omega arith; size = refl }

pub store_then : {before between after s t : List ℕ} {at mid next : ℕ} → Stored before at s mid between → Stored between mid t next after → Stored before at (s ++ t) next after
store_then {before} {s = s} {t} {at} {mid} v w =
    let e = length-append s t in
    let a = v.place in
    let b = w.place in
    record {
      is = w.is ∙ ap (λ (l : List ℕ). sets l mid t) v.is ∙ ap (λ (k : ℕ). sets (sets before at s) k t) a ∙ sets_append before at s t;
      place = omega arith;
      size = w.size ∙ v.size;
    }

pub ruleset stores = (store_none, store_then, length-append)

-- ---- bytes behind bytes

pub ruleset writes = (written_then, written_none, length-append)

pub wrote_then : {p q r : Printer} {s t : List ℕ} → Wrote p s q → Wrote q t r → Wrote p (s ++ t) r
wrote_then {p} {s = s} {t} v w =
    let e = length-append s t in
    let a = v.place in
    let b = w.place in
    record {
      is = w.is ∙ ap (λ (o : Writer). written o t) v.is ∙ written_then (writer_of p) s t;
      place = omega arith;
      size = w.size ∙ v.size;
    }

pub wrote_as : {p q : Printer} {s t : List ℕ} → s ≡ t → Wrote p s q → Wrote p t q
wrote_as {p} {q} e w = subst (λ (r : List ℕ). Wrote p r q) e w

-- the printer holds the same output
pub same_output : {before after : Printer} {s : List ℕ} → Wrote before s after → after.out.ghost_name ≡ before.out.ghost_name
unfolding written
same_output w = ap (λ (o : Writer). o.out.ghost_name) w.is

-- ---- a text in parts

-- Of a text that is written from `before` on, some bytes are left.
pub record Left (before : Printer) (whole rest : List ℕ) (p : Printer) : Type 0 where
  pub written-part : List ℕ
  pub wrote : Wrote before written-part p
  pub ends : written-part ++ rest ≡ whole
  pub fits : Fits p rest

pub left_start : {p : Printer} {s : List ℕ} → Fits p s → Left p s s p
left_start {p} f = record { written-part = []; wrote = record { is = sym (written_none (writer_of p)); place = omega arith; size = refl }; ends = refl; fits = f }

-- the same bytes, said otherwise
pub left_as : {before p : Printer} {whole s t : List ℕ} → s ≡ t → Left before whole s p → Left before whole t p
left_as {before} {p} {whole} e l = subst (λ (r : List ℕ). Left before whole r p) e l

pub left_fits : {before p : Printer} {whole s : List ℕ} (t : List ℕ) → Left before whole (s ++ t) p → Fits p s
left_fits {s = s} t l = let e = length-append s t in let r = l.fits.room in record { room = omega arith; few = l.fits.few }

pub left_step : {before p q : Printer} {whole s t : List ℕ} → Left before whole (s ++ t) p → Wrote p s q → Left before whole t q
left_step {s = s} {t} l w =
    let e = length-append s t in
    let r = l.fits.room in
    let m = l.fits.few in
    record {
      written-part = l.written-part ++ s;
      wrote = wrote_then l.wrote w;
      ends = append_assoc l.written-part s t ∙ l.ends;
      fits = record { room = omega (arith, w.place, w.size); few = omega (arith, w.size) };
    }

pub left_end : {before p : Printer} {whole : List ℕ} → Left before whole [] p → Wrote before whole p
left_end l = wrote_as (sym (append-nil l.written-part) ∙ l.ends) l.wrote

pub left_last : {before p q : Printer} {whole s : List ℕ} → Left before whole s p → Wrote p s q → Wrote before whole q
left_last {s = s} l w = left_end (left_step (left_as (sym (append-nil s)) l) w)
