-- A walk through the table of the listed words: every word ends at the token that `find` gives it.
use Rattle.std.specs.Prelude.{if◌then◌else◌}
use mathlib.Core.Path.{◌≡◌, refl, sym, ap, ◌∙◌}
use mathlib.Core.Bool.{Bool, true, false, ◌&&◌, ◌||◌}
use mathlib.Core.List.{List, [], ◌∷◌}
use Prim.Native.Nat.{ℕ, zero, suc, ◌+◌, ◌/◌, ◌<◌}
use native.Mathlib.Omega.{arith}
use native.Mathlib.Decide.{dec_lt}
use native.Mathlib.Nat.{zero-add}
use lib.ListN.{length, drop, get_or, get_or-eq_default}
use lib.Seq.{get_or-drop}
use lib.Dec.{T, eqb}
use borrow.Author.Tests.{lt-ltb, le-ltb}
use Rattle.std.proofs.lemmas.Bool.Decides.{nat_tests}
use Rattle.tokenizer.specs.Answer.{Out, done}
use Rattle.tokenizer.specs.Text.{same}
use Rattle.tokenizer.specs.Words.{Listed, words, find}
use Rattle.tokenizer.specs.Edges.{places, edges}
use Rattle.tokenizer.specs.WordTable.{edge_of, leads_on, step, ending, walk, token_of_number, walk_kind}
use Rattle.tokenizer.specs.declared.TokenKind.{TokenKind}
use Rattle.tokenizer.proofs.Basics.{and_l, and_r, of_true}
use Rattle.tokenizer.proofs.Listed.{same_path}

-- ---- the test

-- The words that begin with a byte, without it.
abbrev after : ℕ → List (List ℕ) → List (List ℕ)
after b [] = []
after b ([] ∷ us) = after b us
after b ((c ∷ u) ∷ us) = let later = after b us in if eqb b c then u ∷ later else later

abbrev is_one_of : List ℕ → List (List ℕ) → Bool
is_one_of w [] = false
is_one_of w (u ∷ us) = same w u || is_one_of w us

-- An edge that leads on leads to a state that is right for what is left of the words.
abbrev edge_right : (ℕ → List (List ℕ) → Bool) → List (List ℕ) → ℕ → ℕ → Bool → Bool
edge_right below us b e true = below (e / 256 + b) (after b us)
edge_right below us b e false = true

-- The same of every edge of a list, the first of which is the edge of a byte.
abbrev edges_right : (ℕ → List (List ℕ) → Bool) → List (List ℕ) → ℕ → List ℕ → Bool
edges_right below us b [] = true
edges_right below us b (e ∷ es) = edge_right below us b e (leads_on e b) && edges_right below us (suc b) es

-- From a state no word but one of a list ends at a token. The first number bounds the length of the words.
abbrev right : ℕ → ℕ → List (List ℕ) → Bool
right zero s us = false
right (suc n) s us = (eqb (ending edges s) 0 || is_one_of [] us) && edges_right (λ t vs. right n t vs) us 0 (drop s edges)

abbrev words_of : List Listed → List (List ℕ)
words_of [] = []
words_of (l ∷ ls) = l.word ∷ words_of ls

abbrev kinds_of : List Listed → List (Out TokenKind)
kinds_of [] = []
kinds_of (l ∷ ls) = done l.kind ∷ kinds_of ls

abbrev walked : List Listed → List (Out TokenKind)
walked [] = []
walked (l ∷ ls) = walk_kind edges l.word ∷ walked ls

-- The rule of the entire table: each listed word ends at its token, and no other word at any.
rule : ◌≡◌ {A = List (Out TokenKind) × Bool} (walked words, right 16 0 (words_of words)) (kinds_of words, true)
unfolding edges step ending walk token_of_number words
rule = refl

-- ---- from the test to every word

-- a place without an edge takes no byte
pub no_edge : (b : ℕ) → leads_on 32 b ≡ false
no_edge b = grind (arith, nat_tests)

-- a word of a list behind its first byte
after_one : (b : ℕ) (v : List ℕ) (us : List (List ℕ)) → is_one_of v (after b us) ≡ is_one_of (b ∷ v) us
after_one b v [] = refl
after_one b v ([] ∷ us) = after_one b v us
after_one b v ((c ∷ u) ∷ us) = let r = after_one b v us in grind arith

module _ (below : ℕ → List (List ℕ) → Bool) (us : List (List ℕ)) where
  edge-right : (b : ℕ) (es : List ℕ) → T (edges_right below us b es) → (k : ℕ) → T (edge_right below us (b + k) (get_or es k 32) (leads_on (get_or es k 32) (b + k)))
  edge-right b [] t k = rw (no_edge (b + k)) tt
  edge-right b (e ∷ es) t zero =
      let z : b + 0 ≡ b = omega arith in
      rw z (and_l (edge_right below us b e (leads_on e b)) (edges_right below us (suc b) es) t)
  edge-right b (e ∷ es) t (suc k) =
      let z : b + suc k ≡ suc b + k = omega arith in
      rw z (edge-right (suc b) es (and_r (edge_right below us b e (leads_on e b)) (edges_right below us (suc b) es) t) k)

-- a word ends at no token, or is one of a list
abbrev Told : ℕ → List ℕ → List (List ℕ) → Type 0
Told s w us = T (eqb (walk edges s w) 0 || is_one_of w us)

told_step : (below : ℕ → List (List ℕ) → Bool) (us : List (List ℕ)) (b : ℕ) (v : List ℕ) (e : ℕ) (x : Bool) → T (edge_right below us b e x)
    → ((t : ℕ) (vs : List (List ℕ)) → T (below t vs) → Told t v vs) → T (eqb (if x then walk edges (e / 256 + b) v else 0) 0 || is_one_of v (after b us))
told_step below us b v e true t i = i (e / 256 + b) (after b us) t
told_step below us b v e false t i = tt

-- the entry of a place of this table, and that of a place behind it
entry : (t : List ℕ) (i d f : ℕ) → i < length t → get_or t i d ≡ get_or t i f
entry [] i d f h = absurd (omega arith)
entry (x ∷ t) zero d f h = refl
entry (x ∷ t) (suc i) d f h = entry t i d f (omega arith)

size : length edges ≡ places
unfolding edges
size = refl

edge_of_lem : (s b : ℕ) → edge_of edges s b ≡ get_or edges (s + b) 32
edge_of_lem s b =
    elim (dec_lt (s + b) places) [
      | yes h ↦ ap (λ (x : Bool). if x then get_or edges (s + b) 0 else 32) (lt-ltb (s + b) places h) ∙ entry edges (s + b) 0 32 (rw size h)
      | no h ↦ ap (λ (x : Bool). if x then get_or edges (s + b) 0 else 32) (le-ltb (s + b) places (omega arith)) ∙ sym (get_or-eq_default edges 32 {n = s + b} (rw size (omega arith)))
    ]

told : (n s : ℕ) (us : List (List ℕ)) (w : List ℕ) → T (right n s us) → Told s w us
unfolding walk step
told zero s us w t = absurd t
told (suc n) s us [] t = and_l (eqb (ending edges s) 0 || is_one_of [] us) (edges_right (λ t vs. right n t vs) us 0 (drop s edges)) t
told (suc n) s us (b ∷ v) t =
    let r = edge-right (λ t vs. right n t vs) us 0 (drop s edges) (and_r (eqb (ending edges s) 0 || is_one_of [] us) (edges_right (λ t vs. right n t vs) us 0 (drop s edges)) t) b in
    rw (sym (after_one b v us), edge_of_lem s b)
    (told_step (λ t vs. right n t vs) us b v (get_or edges (s + b) 32) (leads_on (get_or edges (s + b) 32) b) (rw (get_or-drop s edges b 32, zero-add b) at r) (λ t vs u. told n t vs v u))

-- ---- the law

head_or : Out TokenKind → List (Out TokenKind) → Out TokenKind
head_or k [] = k
head_or k (x ∷ xs) = x

tail_of : List (Out TokenKind) → List (Out TokenKind)
tail_of [] = []
tail_of (x ∷ xs) = xs

module _ (w : List ℕ) where
  one-of-more : (l : Listed) (ls : List Listed) (x : Bool) → same w l.word ≡ x → walk_kind edges l.word ≡ done l.kind
      → (Told 0 w (words_of ls) → walk_kind edges w ≡ find w ls)
      → T (eqb (walk edges 0 w) 0 || (x || is_one_of w (words_of ls))) → walk_kind edges w ≡ (if x then done l.kind else find w ls)
  one-of-more l ls true e k i t = ap (walk_kind edges) (same_path w l.word (of_true (same w l.word) e)) ∙ k
  one-of-more l ls false e k i t = i t

  found : (ls : List Listed) → walked ls ≡ kinds_of ls → Told 0 w (words_of ls) → walk_kind edges w ≡ find w ls
  unfolding token_of_number head_or tail_of
  found [] k t = grind (arith, nat_tests)
  found (l ∷ ls) k t =
      one-of-more l ls (same w l.word) refl (ap (head_or (done l.kind)) k) (λ u. found ls (ap tail_of k) u) t

-- Every word, listed or not, the empty one too, is by the walk what it is by comparison with each listed word.
pub walk_find : (w : List ℕ) → walk_kind edges w ≡ find w words
walk_find w =
    found w words (ap (λ (r : List (Out TokenKind) × Bool). r.0) rule)
    (told 16 0 (words_of words) w (of_true (right 16 0 (words_of words)) (ap (λ (r : List (Out TokenKind) × Bool). r.1) rule)))
