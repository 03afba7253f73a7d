-- What stands at a place, from what is answered of it: a token, or what is none, by a walk through any table.
use Rattle.std.specs.Prelude.{if◌then◌else◌}
use mathlib.Core.Path.{◌≡◌}
use mathlib.Core.Bool.{Bool, true, false}
use mathlib.Core.List.{List, [], ◌∷◌}
use Prim.Native.Nat.{ℕ, ◌-◌}
use native.Mathlib.Omega.{arith}
use lib.ListN.{length, drop}
use lib.Dec.{T, eqb}
use Rattle.std.proofs.lemmas.Bool.Decides.{nat_tests}
use Rattle.std.specs.declared.result.Result.TheVariants.{Ok}
use Rattle.tokenizer.specs.Answer.{Out, refused, done, refuse}
use Rattle.tokenizer.specs.Places.{after_spaces, word_end}
use Rattle.tokenizer.specs.Token.{Standing, token, standing_of, token_or_refusal, word_of, is_digit, number_kind, token_at}
use Rattle.tokenizer.specs.WordTable.{walk, walk_kind, token_of_number, word_kind_by, begins_word, token_by}
use Rattle.tokenizer.specs.declared.Token.{Token}
use Rattle.tokenizer.specs.declared.TokenKind.{TokenKind}
use Rattle.tokenizer.proofs.Marks.{choice, in_sign, sign_holds}
use Rattle.tokenizer.proofs.Places.{refused_by}

-- a token that is answered is what stands there
stands : (k : Out TokenKind) (start size next : ℕ) (t : Token) → done t ≡ token_or_refusal (record { kind = k; start = start; size = size; next = next }) → standing_of (Ok t) ≡ record { kind = k; start = start; size = size; next = next }
stands (refused r) start size next t e = grind arith
stands (done k) start size next t e = grind arith

pub token-stands : (s : Standing) (t : Token) → done t ≡ token_or_refusal s → standing_of (Ok t) ≡ s
token-stands s t e = stands s.kind s.start s.size s.next t e

-- what stands somewhere is its four parts
pub whole : (s : Standing) (k : Out TokenKind) (start size next : ℕ) → s.kind ≡ k → s.start ≡ start → s.size ≡ size → s.next ≡ next → record { kind = k; start = start; size = size; next = next } ≡ s
whole s k start size next e₀ e₁ e₂ e₃ = rw (e₀, e₁, e₂, e₃)

module _ (table text : List ℕ) (at n : ℕ) (e : (token_by table text at).kind ≡ refuse n) where
  pub start-stands : (token_by table text at).start ≡ after_spaces text at
  start-stands = (refused_by text at table n e).0

  module _ (w : n ≡ 8) where
    pub word-passed : (token_by table text at).next ≡ word_end text (after_spaces text at)
    unfolding word_end
    word-passed = ((refused_by text at table n e).1 w).1

    pub word-sized : (token_by table text at).size ≡ word_end text (after_spaces text at) - after_spaces text at
    unfolding word_end
    word-sized = let s = ((refused_by text at table n e).1 w).0 in omega (arith, s)

  module _ (w : n ≡ 8 → ⊥) where
    pub refused-passed : (token_by table text at).next ≡ after_spaces text at
    refused-passed = ((refused_by text at table n e).2 w).1

    pub refused-sized : (token_by table text at).size ≡ after_spaces text at - after_spaces text at
    refused-sized = let s = ((refused_by text at table n e).2 w).0 in omega (arith, s)

-- ---- a number's magnitude is one that its sign takes, whatever the table

abbrev InSign : Out TokenKind → Type 0
InSign k = T (in_sign k)

digits-sign : (negative : Bool) (w : List ℕ) → InSign (number_kind negative w)
digits-sign negative [] = tt
digits-sign negative (d ∷ ds) = grind (arith, nat_tests)

number-sign : (m : ℕ) → InSign (token_of_number m)
unfolding token_of_number
number-sign m = grind (arith, nat_tests)

word-by-sign : (table w : List ℕ) → InSign (word_kind_by table w)
unfolding word_kind_by
word-by-sign table [] = tt
word-by-sign table (c ∷ w) =
    choice InSign (eqb c 45) (number_kind true w) (if is_digit c then number_kind false (c ∷ w) else walk_kind table (c ∷ w)) (λ _. digits-sign true w)
    (λ _. choice InSign (is_digit c) (number_kind false (c ∷ w)) (walk_kind table (c ∷ w)) (λ _. digits-sign false (c ∷ w)) (λ _. number-sign (walk table 0 (c ∷ w))))

pub sign_by : (table text : List ℕ) (at : ℕ) → T (in_sign (token_by table text at).kind)
unfolding token_by
sign_by table text at = go (begins_word (drop p text))
  where
    p : ℕ
    p = after_spaces text at

    w : List ℕ
    w = word_of (drop p text)

    go : (b : Bool) → InSign (if b then token (word_kind_by table w) p (length w) else token_at text at).kind
    go true = word-by-sign table w
    go false = sign_holds text at
