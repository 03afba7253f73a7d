-- Bytes written at a place: what has no room, and bytes one behind another.
use mathlib.Core.Path.{◌≡◌, refl, sym, ap, ◌∙◌}
use mathlib.Core.List.{List, [], ◌∷◌}
use Prim.Native.Nat.{ℕ, suc, min, ◌+◌, ◌-◌, ◌≤◌, ◌<◌}
use native.Mathlib.Decide.{dec_lt}
use native.Mathlib.Omega.{arith}
use lib.ListN.{length, get_or, set, take, drop, take-append-drop}
use lib.Seq.{sets, set_out, length-sets, take-suc, take_all, length-take-le}
use Rattle.datatype.proofs.Sets.{sets_append}

-- Past the end nothing is written.
pub sets_out : (xs : List ℕ) (i : ℕ) (vs : List ℕ) → length xs ≤ i → sets xs i vs ≡ xs
sets_out xs i [] h = refl
sets_out xs i (v ∷ vs) h = ap (λ (l : List ℕ). sets l (suc i) vs) (set_out xs i v h) ∙ sets_out xs (suc i) vs (omega arith)

-- What reaches past the end is written up to it.
pub sets_room : (xs : List ℕ) (i n : ℕ) (vs : List ℕ) → n ≤ length vs → length xs ≤ i + n → sets xs i vs ≡ sets xs i (take n vs)
sets_room xs i n vs h k =
    ap (λ (l : List ℕ). sets xs i l) (sym (take-append-drop n vs))
    ∙ sym (sets_append xs i (take n vs) (drop n vs))
    ∙ sets_out (sets xs i (take n vs)) (i + length (take n vs)) (drop n vs) (let e = length-sets xs i (take n vs) in let f = length-take-le n vs h in omega arith)

-- A place that is capped is past the end, as the place itself.
pub set_capped : (xs : List ℕ) (place sum most v : ℕ) → length xs ≤ most → place ≡ min sum most → set xs place v ≡ set xs sum v
set_capped xs place sum most v h e =
    elim (dec_lt sum most) [
      | yes l ↦ ap (λ (k : ℕ). set xs k v) (omega arith)
      | no l ↦ set_out xs place v (omega arith) ∙ sym (set_out xs sum v (omega arith))
    ]

-- One byte more of those that are written at a place.
pub sets_more : (xs : List ℕ) (at i : ℕ) (vs out : List ℕ) → out ≡ sets xs at (take i vs) → i < length vs → set out (at + i) (get_or vs i 0) ≡ sets xs at (take (i + 1) vs)
sets_more xs at i vs out e h =
    ap (λ (l : List ℕ). set l (at + i) (get_or vs i 0)) e
    ∙ ap (λ (k : ℕ). set (sets xs at (take i vs)) (at + k) (get_or vs i 0)) (sym (length-take-le i vs (omega arith)))
    ∙ sets_append xs at (take i vs) (get_or vs i 0 ∷ [])
    ∙ ap (λ (l : List ℕ). sets xs at l) (sym (take-suc vs i 0 h))
    ∙ ap (λ (k : ℕ). sets xs at (take k vs)) (let e : suc i ≡ i + 1 = omega arith in e)

pub sets_length : (xs : List ℕ) (at i : ℕ) (vs out : List ℕ) → out ≡ sets xs at (take i vs) → length out ≡ length xs
sets_length xs at i vs out e = ap (λ (l : List ℕ). length l) e ∙ length-sets xs at (take i vs)

-- The bytes that there is room for are all, or as many as fill the room.
pub sets_all : (xs : List ℕ) (at n : ℕ) (vs out : List ℕ) → out ≡ sets xs at (take n vs) → at < length xs → n ≡ min (length vs) (length xs - at) → out ≡ sets xs at vs
sets_all xs at n vs out i h e =
    i ∙ elim (dec_lt n (length vs)) [
      | yes l ↦ sym (sets_room xs at n vs (omega arith) (omega arith))
      | no l ↦ ap (λ (x : List ℕ). sets xs at x) (take_all n vs (omega arith))
    ]

pub ruleset puts = (sets_out, sets_more, sets_length)
