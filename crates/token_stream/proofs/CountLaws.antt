-- Tokens that are read one behind another: what the loop that counts them meets.
use mathlib.Core.Path.{◌≡◌, refl, sym, ap, ◌∙◌}
use mathlib.Core.Bool.{Bool, true, false}
use mathlib.Core.List.{List, [], ◌∷◌}
use Prim.Native.Nat.{ℕ, zero, suc, ◌+◌, ◌-◌, ◌≤◌, ◌<◌}
use native.Mathlib.Omega.{arith}
use lib.ListN.{length}
use Rattle.tokenizer.specs.Answer.{Refusal, Out, refused, done}
use Rattle.tokenizer.specs.Token.{Standing, no_token, sort_of, value_of, token_at}
use Rattle.tokenizer.specs.declared.TokenKind.{TokenKind}
use Rattle.tokenizer.proofs.Marks.{bounds}
use Rattle.token_stream.specs.Count.{is_read, tokens_from, place_behind, count_tokens}

-- a token stands there
abbrev pub is_done : {A : Type 0} → Out A → Bool
is_done (refused r) = false
is_done (done a) = true

read_done : (k : Out TokenKind) → is_read k ≡ is_done k
read_done k = grind arith

-- ---- one turn of the loop

-- every kind but a refusal is that of a token that is read
pub other_kind : (k : Out TokenKind) → ((r : Refusal) → k ≡ refused r → ⊥) → is_read k ≡ true
other_kind (done k) o = read_done (done k)
other_kind (refused r) o = absurd (o r refl)

some-sort : (k : Out TokenKind) → is_read k ≡ true → sort_of k ≡ no_token → ⊥
some-sort k h e = grind arith

-- a token that is read takes a byte at least, and lies in the text
pub record Moves (text : List ℕ) (at : ℕ) (t : Standing) : Type 0 where
  pub further : at < t.next
  pub within : t.next ≤ length text

pub token_moves : (text : List ℕ) (at : ℕ) → is_read (token_at text at).kind ≡ true → Moves text at (token_at text at)
token_moves text at h =
    let b = bounds text at in
    let k = some-sort (token_at text at).kind h in
    record { further = b.past k; within = b.inside k }

-- how many tokens there are from a place on, and where the last of them ends
unfoldable pub tokens_left : List ℕ → ℕ → ℕ
tokens_left text at = length (tokens_from text (length text - at) at)

unfoldable pub last_end : List ℕ → ℕ → ℕ
last_end text at = place_behind at (tokens_from text (length text - at) at)

none_read : (text : List ℕ) (most at : ℕ) → is_read (token_at text at).kind ≡ false → tokens_from text most at ≡ []
unfolding tokens_from
none_read text zero at e = refl
none_read text (suc most) at e = rw e

one_read : (text : List ℕ) (most at : ℕ) → is_read (token_at text at).kind ≡ true → tokens_from text (suc most) at ≡ token_at text at ∷ tokens_from text most (token_at text at).next
unfolding tokens_from
one_read text most at e = rw e

-- how many are asked for at most decides nothing where they are as many as bytes are left
enough : (text : List ℕ) (at : ℕ) (b : Bool) → is_read (token_at text at).kind ≡ b → (m n : ℕ) → length text ≤ at + m → length text ≤ at + n → tokens_from text m at ≡ tokens_from text n at
enough text at false e m n p q = none_read text m at e ∙ sym (none_read text n at e)
enough text at true e zero n p q = let t = token_moves text at e in let f = t.further in let w = t.within in absurd (omega arith)
enough text at true e (suc m) zero p q = let t = token_moves text at e in let f = t.further in let w = t.within in absurd (omega arith)
enough text at true e (suc m) (suc n) p q =
    let f = (token_moves text at e).further in
    let next = (token_at text at).next in
    one_read text m at e ∙ ap (λ (ts : List Standing). token_at text at ∷ ts) (enough text next (is_read (token_at text next).kind) refl m n (omega arith) (omega arith)) ∙ sym (one_read text n at e)

behind_one : (at : ℕ) (s : Standing) (ss : List Standing) → place_behind at (s ∷ ss) ≡ place_behind s.next ss
unfolding place_behind
behind_one at s ss = refl

module _ (text : List ℕ) (at : ℕ) where
  module _ (d : is_done (token_at text at).kind ≡ false) where
    h : is_read (token_at text at).kind ≡ false
    h = read_done (token_at text at).kind ∙ d

    pub left_none : tokens_left text at ≡ 0
    unfolding tokens_left
    left_none = ap length (none_read text (length text - at) at h)

    pub end_none : last_end text at ≡ at
    unfolding last_end place_behind
    end_none = ap (place_behind at) (none_read text (length text - at) at h)

  module _ (d : is_done (token_at text at).kind ≡ true) where
    r : is_read (token_at text at).kind ≡ true
    r = read_done (token_at text at).kind ∙ d

    abbrev next : ℕ
    next = (token_at text at).next

    pub further : at < (token_at text at).next
    further = (token_moves text at r).further

    pub within : (token_at text at).next ≤ length text
    within = (token_moves text at r).within

    one : tokens_from text (length text - at) at ≡ token_at text at ∷ tokens_from text (length text - next) next
    one =
        let f = further in
        let w = within in
        let e : length text - at ≡ suc (length text - at - 1) = omega arith in
        ap (λ (n : ℕ). tokens_from text n at) e
        ∙ one_read text (length text - at - 1) at r
        ∙ ap (λ (ts : List Standing). token_at text at ∷ ts) (enough text next (is_read (token_at text next).kind) refl (length text - at - 1) (length text - next) (omega arith) (omega arith))

    pub left_one : tokens_left text at ≡ tokens_left text (token_at text at).next + 1
    unfolding tokens_left
    left_one = omega (arith, ap length one)

    pub end_one : last_end text at ≡ last_end text (token_at text at).next
    unfolding last_end
    end_one = ap (place_behind at) one ∙ behind_one at (token_at text at) (tokens_from text (length text - next) next)

pub counted : (text : List ℕ) → count_tokens text ≡ record { tokens = tokens_left text 0; refusal = value_of (token_at text (last_end text 0)).kind }
unfolding count_tokens tokens_left last_end
counted text =
    let e : length text ≡ length text - 0 = omega arith in
    ap (λ (n : ℕ). record { tokens = length (tokens_from text n 0); refusal = value_of (token_at text (place_behind 0 (tokens_from text n 0))).kind }) e

pub ruleset count_steps = (further, within, left_none, left_one, end_none, end_one, counted)
