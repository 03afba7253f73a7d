-- What is written one behind another.
--   written_then      bytes behind bytes are both, end to end
--   written_none      no bytes change nothing
--   written_size      the output keeps its length
--   written_name, same_output
--                     and is the one that was lent
--   written_place     the place is behind them
--   written_sets, written_between, written_first
--                     where there is room for them they stand at the place, and what lies around them has not changed
use mathlib.Core.Path.{◌≡◌, refl, sym, ap, ◌∙◌}
use mathlib.Core.List.{List, [], ◌++◌, append_assoc, append-nil}
use Prim.Native.Nat.{ℕ, min, ◌+◌, ◌-◌, ◌≤◌}
use native.Mathlib.Omega.{arith}
use native.Mathlib.Decide.{dec_le}
use lib.ListN.{length, take, drop, length-append}
use lib.Seq.{sets, sets-eq, length-sets, take_all, length-take-le, take-append-add}
use Rattle.std.proofs.lemmas.List.{take-append-le}
use Rattle.datatype.proofs.Sets.{sets_append}
use Rattle.writer.specs.declared.Writer.{Writer}
use Rattle.writer.specs.Written.{last_place, counted, written}
use Rattle.writer.proofs.Writes.{sets_room}

-- ---- what is counted

pub counted_all : (at : ℕ) (s : List ℕ) → at + length s ≤ last_place → counted at s ≡ s
unfolding counted
counted_all at s h = take_all (last_place - at) s (omega arith)

counted_none : (at : ℕ) → counted at [] ≡ []
unfolding counted
counted_none at = take_all (last_place - at) [] (omega arith)

-- How far the place goes.
counted_size : (at : ℕ) (s : List ℕ) → length (counted at s) ≡ min (last_place - at) (length s)
unfolding counted
counted_size at s =
    elim (dec_le (last_place - at) (length s)) [
      | yes h ↦ length-take-le (last_place - at) s h ∙ omega arith
      | no h ↦ ap length (take_all (last_place - at) s (omega arith)) ∙ omega arith
    ]

-- Bytes behind bytes that are counted.
counted_behind : (at : ℕ) (s t : List ℕ) → at + length s ≤ last_place → s ++ counted (at + length s) t ≡ counted at (s ++ t)
unfolding counted
counted_behind at s t h =
    sym (ap (λ (n : ℕ). take n (s ++ t)) (let e : last_place - at ≡ length s + (last_place - (at + length s)) = omega arith in e) ∙ take-append-add s t (last_place - (at + length s)))

-- Behind the greatest place nothing is counted.
counted_past : (at : ℕ) (s t : List ℕ) → last_place ≤ at + length s → counted at s ++ counted (at + length (counted at s)) t ≡ counted at (s ++ t)
unfolding counted
counted_past at s t h =
    let e : length (take (last_place - at) s) ≡ last_place - at = length-take-le (last_place - at) s (omega arith) in
    let none : last_place - (at + length (take (last_place - at) s)) ≡ 0 = omega arith in
    ap (λ (n : ℕ). take (last_place - at) s ++ take n t) none
    ∙ append-nil (take (last_place - at) s)
    ∙ sym (take-append-le (last_place - at) s t (omega arith))

-- Bytes behind bytes are counted as both.
counted_then : (at : ℕ) (s t : List ℕ) → counted at s ++ counted (at + length (counted at s)) t ≡ counted at (s ++ t)
counted_then at s t =
    elim (dec_le (at + length s) last_place) [
      | yes h ↦ rw (counted_all at s h) (counted_behind at s t h)
      | no h ↦ counted_past at s t (omega arith)
    ]

pub written_then : (w : Writer) (s t : List ℕ) → written (written w s) t ≡ written w (s ++ t)
unfolding written
written_then w s t =
    let all = counted_then w.at s t in
    let size = ap length (sym all) ∙ length-append (counted w.at s) (counted (w.at + length (counted w.at s)) t) in
    ap (λ (l : List ℕ). record w { out = record w.out { now = l }; at = w.at + length (counted w.at s) + length (counted (w.at + length (counted w.at s)) t) }) (sets_append w.out.now w.at (counted w.at s) (counted (w.at + length (counted w.at s)) t) ∙ ap (sets w.out.now w.at) all)
    ∙ ap (λ (k : ℕ). record w { out = record w.out { now = sets w.out.now w.at (counted w.at (s ++ t)) }; at = k }) (omega arith)

pub written_none : (w : Writer) → written w [] ≡ w
unfolding written
written_none w =
    rw (counted_none w.at) (ap (λ (k : ℕ). record w { at = k }) (omega arith))

-- ---- where there is room

pub written_size : (w : Writer) (s : List ℕ) → length (written w s).out.now ≡ length w.out.now
unfolding written
written_size w s = length-sets w.out.now w.at (counted w.at s)

pub written_name : (w : Writer) (s : List ℕ) → (written w s).out.ghost_name ≡ w.out.ghost_name
unfolding written
written_name w s = refl

pub same_output : (w v : Writer) (s : List ℕ) → v ≡ written w s → v.out.ghost_name ≡ w.out.ghost_name
same_output w v s e = ap (λ (u : Writer). u.out.ghost_name) e ∙ written_name w s

pub written_place : (w : Writer) (s : List ℕ) → w.at + length s ≤ last_place → (written w s).at ≡ w.at + length s
unfolding written
written_place w s h = ap (λ (l : List ℕ). w.at + length l) (counted_all w.at s h)

pub written_sets : (w : Writer) (s : List ℕ) → w.at + length s ≤ last_place → (written w s).out.now ≡ sets w.out.now w.at s
unfolding written
written_sets w s h = ap (sets w.out.now w.at) (counted_all w.at s h)

pub written_between : (w : Writer) (s : List ℕ) → length w.out.now ≤ last_place → w.at + length s ≤ length w.out.now
    → (written w s).out.now ≡ take w.at w.out.now ++ (s ++ drop (w.at + length s) w.out.now)
written_between w s h k = written_sets w s (omega arith) ∙ sets-eq s w.out.now w.at k ∙ append_assoc (take w.at w.out.now) s (drop (w.at + length s) w.out.now)

pub written_first : (w : Writer) (s : List ℕ) → w.at ≡ 0 → length w.out.now ≤ last_place → length s ≤ length w.out.now → (written w s).out.now ≡ s ++ drop (length s) w.out.now
written_first w s e h k =
    written_between w s h (omega arith)
    ∙ ap (λ (n : ℕ). take n w.out.now ++ (s ++ drop (n + length s) w.out.now)) e
    ∙ ap (λ (n : ℕ). s ++ drop n w.out.now) (let z : 0 + length s ≡ length s = omega arith in z)

-- ---- the code

-- What is not counted has no room.
stored_counted : (out : List ℕ) (at : ℕ) (s : List ℕ) → length out ≤ last_place → sets out at s ≡ sets out at (counted at s)
unfolding counted
stored_counted out at s h =
    elim (dec_le (last_place - at) (length s)) [
      | yes k ↦ sets_room out at (last_place - at) s k (omega arith)
      | no k ↦ ap (sets out at) (sym (take_all (last_place - at) s (omega arith)))
    ]

pub wrote_by : (w : Writer) (s out : List ℕ) (place : ℕ) → length w.out.now ≤ last_place → w.at ≤ last_place → out ≡ sets w.out.now w.at s → place ≡ min (w.at + length s) last_place
    → record w { out = record w.out { now = out }; at = place } ≡ written w s
unfolding written
wrote_by w s out place h k e f =
    let size = counted_size w.at s in
    ap (λ (l : List ℕ). record w { out = record w.out { now = l }; at = place }) (e ∙ stored_counted w.out.now w.at s h)
    ∙ ap (λ (k : ℕ). record w { out = record w.out { now = sets w.out.now w.at (counted w.at s) }; at = k }) (omega arith)

pub ruleset wrote = (wrote_by)
