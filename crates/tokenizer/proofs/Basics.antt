-- Tests, choices and parts of lists: what the laws of every crate lean on.
use Rattle.std.specs.Prelude.{if◌then◌else◌}
use mathlib.Core.Path.{◌≡◌, refl, sym, ap, ◌∙◌, subst}
use mathlib.Core.Bool.{Bool, true, false, not, ◌&&◌}
use mathlib.Core.List.{List, [], ◌∷◌, ◌++◌}
use Prim.Native.Nat.{ℕ, zero, suc, ◌+◌}
use lib.ListN.{length, take, drop}
use lib.Seq.{drop-drop, drop-append_seam}
use lib.Dec.{T}
use Rattle.tokenizer.specs.Text.{all}

pub and_l : (a b : Bool) → T (a && b) → T a
and_l true b t = tt
and_l false b t = t

pub and_r : (a b : Bool) → T (a && b) → T b
and_r true b t = t
and_r false b t = absurd t

pub both : (a b : Bool) → T a → T b → T (a && b)
both true b s t = t
both false b s t = s

pub is_true : (b : Bool) → T b → b ≡ true
is_true true t = refl
is_true false t = absurd t

pub is_false : (b : Bool) → T (not b) → b ≡ false
is_false true t = absurd t
is_false false t = refl

pub of_true : (b : Bool) → b ≡ true → T b
of_true b e = subst T (sym e) tt

-- a choice between equal values
pub if_same : {X : Type 0} (b : Bool) (x : X) → (if b then x else x) ≡ x
if_same true x = refl
if_same false x = refl

-- the part of a text behind k bytes more
pub skip : (k at : ℕ) (text s : List ℕ) → drop at text ≡ s → drop (at + k) text ≡ drop k s
skip k at text s h = sym (drop-drop k at text) ∙ ap (drop k) h

pub skip_word : (at : ℕ) (text w s : List ℕ) → drop at text ≡ w ++ s → drop (at + length w) text ≡ s
skip_word at text w s h = skip (length w) at text (w ++ s) h ∙ drop-append_seam w s

-- ---- lists whose every number passes a test: their beginnings, and what is left behind one
module _ (test : ℕ → Bool) where
  pub all_take : (n : ℕ) (s : List ℕ) → T (all test s) → T (all test (take n s))
  all_take zero s t = tt
  all_take (suc n) [] t = tt
  all_take (suc n) (c ∷ s) t = both (test c) (all test (take n s)) (and_l (test c) (all test s) t) (all_take n s (and_r (test c) (all test s) t))

  pub all_drop : (n : ℕ) (s : List ℕ) → T (all test s) → T (all test (drop n s))
  all_drop zero s t = t
  all_drop (suc n) [] t = tt
  all_drop (suc n) (c ∷ s) t = all_drop n s (and_r (test c) (all test s) t)
