-- Places between characters: in a text that is UTF-8 one byte tells whether a place is one, and a part is UTF-8 exactly
-- if it begins and ends at such places.
use mathlib.Core.Path.{◌≡◌, refl, sym, ap, ◌∙◌}
use mathlib.Core.Bool.{Bool, true, false, ◌&&◌}
use mathlib.Core.List.{List, [], ◌∷◌, ◌++◌}
use Prim.Native.Nat.{ℕ, suc, ◌+◌, ◌≤◌, ◌<◌}
use native.Mathlib.Omega.{arith}
use lib.ListN.{length, take, drop, get_or, take-append-drop, length-drop}
use lib.Seq.{drop-cons, take_all, take-add, get_or-take, get_or-drop, length-take-le}
use lib.Dec.{T}
use borrow.Author.Tests.{lt-ltb, le-ltb, eq-eqb, ne_eqb, eqb-true, eqb-false}
use Rattle.std.proofs.lemmas.Bool.{true_from_ne_false}
use Rattle.std.proofs.lemmas.Bool.Decides.{nat_tests}
use Rattle.tokenizer.specs.Utf8.{utf8_step, utf8_state, is_utf8}
use Rattle.tokenizer.proofs.Utf8Laws.{state_append, utf8_state_lem, state_broken}
use Rattle.row_table.specs.Internal.Check.{boundary}

-- a byte that continues a character is one of 128 to 191
step_inside : (q b : ℕ) → (q ≡ 0 → ⊥) → (utf8_step q b ≡ 8 → ⊥) → (128 ≤ b) × (b < 192)
unfolding utf8_step
step_inside q b z h = (grind (arith, nat_tests), grind (arith, nat_tests))

-- a byte from 128 to 191 begins no character
step_first : (b : ℕ) → 128 ≤ b → b < 192 → utf8_step 0 b ≡ 8
unfolding utf8_step
step_first b l h = rw (le-ltb b 0x80 l, lt-ltb b 0xC2 (omega arith))

module _ (text : List ℕ) (good : T (is_utf8 text)) (at : ℕ) where
  -- at a place inside the text
  module _ (inside : at < length text) where
    -- the byte there leads on
    leads : utf8_step (utf8_state 0 (take at text)) (get_or text at 0) ≡ 8 → ⊥
    unfolding utf8_state
    leads e =
        let d : text ≡ take at text ++ (get_or text at 0 ∷ drop (suc at) text) = sym (take-append-drop at text) ∙ ap (λ (x : List ℕ). take at text ++ x) (drop-cons text at 0 inside) in
        let s : utf8_state 0 text ≡ utf8_state (utf8_step (utf8_state 0 (take at text)) (get_or text at 0)) (drop (suc at) text) = ap (utf8_state 0) d ∙ state_append 0 (take at text) (get_or text at 0 ∷ drop (suc at) text) in
        let z : ◌≡◌ {A = ℕ} 0 8 = sym (utf8_state_lem text good) ∙ s ∙ ap (λ (q : ℕ). utf8_state q (drop (suc at) text)) e ∙ state_broken (drop (suc at) text) in
        omega arith

    pub boundary-inside : 128 ≤ get_or text at 0 → get_or text at 0 < 192 → boundary text at ≡ false
    unfolding boundary
    boundary-inside l h = ne_eqb (utf8_state 0 (take at text)) 0 (λ e. leads (ap (λ (q : ℕ). utf8_step q (get_or text at 0)) e ∙ step_first (get_or text at 0) l h))

    -- where a character goes on, a byte from 128 to 191 stands
    pub not-boundary : boundary text at ≡ false → (128 ≤ get_or text at 0) × (get_or text at 0 < 192)
    unfolding boundary
    not-boundary e = step_inside (utf8_state 0 (take at text)) (get_or text at 0) (eqb-false (utf8_state 0 (take at text)) 0 e) leads

    pub boundary-low : get_or text at 0 < 128 → boundary text at ≡ true
    boundary-low h = true_from_ne_false _ (λ e. let w = not-boundary e in omega arith)

    pub boundary-high : 192 ≤ get_or text at 0 → boundary text at ≡ true
    boundary-high h = true_from_ne_false _ (λ e. let w = not-boundary e in omega arith)

  pub boundary_end : length text ≤ at → boundary text at ≡ true
  unfolding boundary
  boundary_end h = rw (take_all at text h) (eq-eqb (utf8_state 0 text) 0 (utf8_state_lem text good))

-- a part that begins inside a character is not UTF-8
part_inside : (s : List ℕ) → 1 ≤ length s → 128 ≤ get_or s 0 0 → get_or s 0 0 < 192 → is_utf8 s ≡ false
unfolding is_utf8 utf8_state
part_inside [] h l k = absurd (omega arith)
part_inside (b ∷ s) h l k = rw (step_first b l k, state_broken s)

module _ (text : List ℕ) (good : T (is_utf8 text)) (start size : ℕ) (some_bytes : 1 ≤ size) (within : start + size ≤ length text) where
  -- its first byte
  part-first : get_or (take size (drop start text)) 0 0 ≡ get_or text start 0
  part-first =
      let e : start + 0 ≡ start = omega arith in
      get_or-take size (drop start text) 0 0 some_bytes ∙ get_or-drop start text 0 0 ∙ rw e

  part_length : length (take size (drop start text)) ≡ size
  part_length = length-take-le size (drop start text) (omega (arith, length-drop start text))

  -- where it begins between characters, the state behind it is the text's there
  part-state : boundary text start ≡ true → is_utf8 (take size (drop start text)) ≡ boundary text (start + size)
  unfolding boundary is_utf8
  part-state e =
      rw (take-add start size text, state_append 0 (take start text) (take size (drop start text)), eqb-true (utf8_state 0 (take start text)) 0 e)

  pub part-utf8 : is_utf8 (take size (drop start text)) ≡ (boundary text start && boundary text (start + size))
  part-utf8 = go (boundary text start) refl
    where
      go : (b : Bool) → boundary text start ≡ b → is_utf8 (take size (drop start text)) ≡ (b && boundary text (start + size))
      go true e = part-state e
      go false e =
          let w = not-boundary text good start (omega arith) e in
          let f = part-first in
          let l = part_length in
          part_inside (take size (drop start text)) (omega arith) (omega (arith, w.0)) (omega (arith, w.1))
