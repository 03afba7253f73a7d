-- Counts of lines that are met one by one: what programs over `Tally` use.
--   at-last     with a line more counted, the counts at last are those with the line still to come
--   at-last-of  with no line to come they are the counts
use Rattle.std.specs.Prelude.{if◌then◌else◌, Result, Ok, Err}
use mathlib.Core.Path.{◌≡◌, refl, sym, ap, ◌∙◌}
use mathlib.Core.Bool.{Bool}
use mathlib.Core.List.{List, [], ◌∷◌, append-nil}
use Prim.Native.Nat.{ℕ, ◌+◌, ◌≤◌, ◌<◌, max}
use native.Mathlib.Omega.{arith}
use native.Mathlib.Decide.{dec_lt}
use lib.ListN.{length}
use borrow.Author.Tests.{lt-ltb, le-ltb}
use Rattle.tokenizer.specs.Answer.{Out, refused, done, refuse, answer_of}
use Rattle.parser.proofs.FirstType.{too_long}
use Rattle.datatype_parse.specs.Parse.{parse}
use Rattle.tally.specs.Tally.{read, Counts, tally, added, together, tally_after, add_answer, number_of}
use Rattle.tally.specs.Laws.{IsTally}
use Rattle.tally.specs.declared.NotCounted.{NotCounted}
use Rattle.tally.proofs.Additions.{tally-append}
use Rattle.tally.proofs.Adding.{one-line}
use Rattle.tally.proofs.OneMore.{counts-line, tally-lines}

-- ---- counts of lines and of others

added-three : (xs ys zs : List ℕ) → added (added xs ys) zs ≡ added xs (added ys zs)
added-three [] ys zs = refl
added-three (x ∷ xs) [] zs = refl
added-three (x ∷ xs) (y ∷ ys) [] = refl
added-three (x ∷ xs) (y ∷ ys) (z ∷ zs) = let e : x + y + z ≡ x + (y + z) = omega arith in λ j. e j ∷ added-three xs ys zs j

together-three : (t u v : Counts) → together (together t u) v ≡ together t (together u v)
unfolding together
together-three t u v =
    let l : t.lines + u.lines + v.lines ≡ t.lines + (u.lines + v.lines) = omega arith in
    let o : t.ok + u.ok + v.ok ≡ t.ok + (u.ok + v.ok) = omega arith in
    let d : max (max t.deep u.deep) v.deep ≡ max t.deep (max u.deep v.deep) = omega arith in
    λ j. record { lines = l j; ok = o j; refused = added-three t.refused u.refused v.refused j; kinds = added-three t.kinds u.kinds v.kinds j; deep = d j }

pub lines-at-last : (t : Counts) (ls : List (List ℕ)) → (together t (tally ls)).lines ≡ t.lines + length ls
unfolding together
lines-at-last t ls = ap (λ (n : ℕ). t.lines + n) (tally-lines ls)

pub at-last-of : (t : Counts) → IsTally t → together t (tally []) ≡ t
at-last-of t i = ap (λ (u : Counts). together u (tally [])) i.is ∙ sym (tally-append i.of []) ∙ ap tally (append-nil i.of) ∙ sym i.is

pub few-lines : (t : Counts) → IsTally t → t.lines ≤ 1000000
few-lines t i = let e = ap (λ (u : Counts). u.lines) i.is ∙ tally-lines i.of in let f = i.few in omega arith

-- ---- a line more

pub same-line : (a b : List ℕ) → read a ≡ read b → tally (a ∷ []) ≡ tally (b ∷ [])
same-line a b e = one-line a (read b) e ∙ sym (one-line b (read b) refl)

-- every line that is too long for a text is refused alike
pub read-long : (a b : List ℕ) → 16384 < length a → 16384 < length b → read a ≡ read b
unfolding read parse
read-long a b h k = rw (too_long a 1024 h, too_long b 1024 k) refl

module _ (t : Counts) (r : Result (Unit {0}) NotCounted) (a : answer_of number_of r ≡ add_answer t) where
  pub counted-more : (u : Unit {0}) → r ≡ Ok u → t.lines < 1000000
  unfolding add_answer
  counted-more u e =
      elim (dec_lt t.lines 1000000) [
        | yes h ↦ h
        | no h ↦
            let f : ◌≡◌ {A = Out (Unit {0})} (done u) (refuse 24) = sym (ap (answer_of number_of) e) ∙ a ∙ ap (λ (b : Bool). if b then done tt else refuse 24) (le-ltb t.lines 1000000 (omega arith)) in
            absurd (cc)
      ]

  pub counted-full : (e : NotCounted) → r ≡ Err e → 1000000 ≤ t.lines
  unfolding add_answer
  counted-full n e =
      elim (dec_lt t.lines 1000000) [
        | yes h ↦
            let f : ◌≡◌ {A = Out (Unit {0})} (refuse (number_of n)) (done tt) = sym (ap (answer_of number_of) e) ∙ a ∙ ap (λ (b : Bool). if b then done tt else refuse 24) (lt-ltb t.lines 1000000 h) in
            absurd (cc)
        | no h ↦ omega arith
      ]

-- With a line counted that reads as the line to come, the counts at last are the same.
pub at-last : (t t' : Counts) (line come : List ℕ) (ls : List (List ℕ)) → t.lines < 1000000 → t' ≡ tally_after t line → read line ≡ read come
    → together t (tally (come ∷ ls)) ≡ together t' (tally ls)
at-last t t' line come ls h e same =
    ap (together t) (tally-append (come ∷ []) ls ∙ ap (λ (u : Counts). together u (tally ls)) (sym (same-line line come same)))
    ∙ sym (together-three t (tally (line ∷ [])) (tally ls))
    ∙ ap (λ (u : Counts). together u (tally ls)) (sym (e ∙ counts-line t line h))
