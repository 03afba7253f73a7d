-- UTF-8: parts joined, one byte, and what stays no UTF-8.
use mathlib.Core.Path.{◌≡◌, refl, ap, ◌∙◌}
use mathlib.Core.List.{List, [], ◌∷◌, ◌++◌}
use Prim.Native.Nat.{ℕ, ◌<◌}
use lib.Dec.{T, eqb→eq}
use borrow.Author.Tests.{lt-ltb, eq-eqb}
use Rattle.tokenizer.specs.Utf8.{utf8_step, utf8_state, is_utf8}
use Rattle.tokenizer.proofs.Basics.{of_true}

-- ---- parts joined

pub state_append : (q : ℕ) (a b : List ℕ) → utf8_state q (a ++ b) ≡ utf8_state (utf8_state q a) b
unfolding utf8_state
state_append q [] b = refl
state_append q (x ∷ a) b = state_append (utf8_step q x) a b

-- a list is UTF-8 exactly if the automaton ends between characters
pub utf8_state_lem : (a : List ℕ) → T (is_utf8 a) → utf8_state 0 a ≡ 0
unfolding is_utf8
utf8_state_lem a h = eqb→eq (utf8_state 0 a) 0 h

pub state_utf8 : (a : List ℕ) → utf8_state 0 a ≡ 0 → T (is_utf8 a)
unfolding is_utf8
state_utf8 a e = of_true _ (eq-eqb (utf8_state 0 a) 0 e)

-- what is UTF-8 in two parts is UTF-8 when they are joined
pub utf8_append : (a b : List ℕ) → T (is_utf8 a) → T (is_utf8 b) → T (is_utf8 (a ++ b))
utf8_append a b p q = state_utf8 (a ++ b) (state_append 0 a b ∙ ap (λ (s : ℕ). utf8_state s b) (utf8_state_lem a p) ∙ utf8_state_lem b q)

-- ---- one byte

-- a byte below 128 is a character
pub step_ascii : (b : ℕ) → b < 128 → utf8_step 0 b ≡ 0
unfolding utf8_step
step_ascii b h = rw (lt-ltb b 0x80 h)

-- what is no UTF-8 any more stays so
pub state_broken : (s : List ℕ) → utf8_state 8 s ≡ 8
unfolding utf8_state utf8_step
state_broken [] = refl
state_broken (b ∷ s) = state_broken s
