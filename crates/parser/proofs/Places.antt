-- Places of refusals: each return of the functions that look for one, as a law.
use mathlib.Core.Path.{◌≡◌, refl, sym, ◌∙◌}
use mathlib.Core.Bool.{Bool, true, false}
use mathlib.Core.List.{List}
use Prim.Native.Nat.{ℕ, ◌-◌}
use native.Mathlib.Omega.{arith}
use borrow.Author.Tests.{eqb-true}
use Rattle.tokenizer.specs.Answer.{Refusal, Out, refused, done, refuse, number_of}
use Rattle.tokenizer.specs.declared.refusal.Refusal as R
use Rattle.tokenizer.specs.declared.Token.{Token}
use Rattle.tokenizer.specs.declared.TokenKind.{TokenKind}
use Rattle.tokenizer.specs.Token.{token_at, token_or_refusal, sort_of, double_quoted, colon, nullability}
use Rattle.tokenizer.specs.Places.{after_spaces}
use Rattle.tokenizer.proofs.Marks.{place_here, bounds}
use Rattle.parser.specs.Answer.{refusal_in}
use Rattle.parser.specs.declared.error.ReadError.{ReadError}
use Rattle.parser.specs.Parse.{need, stands, after_role, place_at, role_place, word_place}
use Rattle.parser.specs.Internal.Steps.{taken, next_of}
use Rattle.parser.proofs.Matched.{error_at, string, got_next}

module _ (text : List ℕ) (at : ℕ) where
  pub place_spaces : after_spaces text at ≡ place_at text at
  unfolding place_at
  place_spaces = sym (place_here text at)

  -- a token that was taken, and one that is none
  pub token_placed : (t : Token) → done t ≡ token_or_refusal (token_at text at) → done t ≡ taken (token_at text at)
  unfolding taken
  token_placed t e = rw (← e) refl

  pub refusal_placed : (x : R.Refusal) (err : ReadError) → refuse (number_of x) ≡ token_or_refusal (token_at text at) → err ≡ error_at text at x → refused (refusal_in err) ≡ taken (token_at text at)
  unfolding taken place_at refusal_in
  refusal_placed x err e q = rw (q, ← e) refl

  -- nullability, taken or left out
  next_by : (b : Bool) → stands text nullability at ≡ b → (after_role text at ≡ at → b ≡ false) × ((after_role text at ≡ at → ⊥) → b ≡ true)
  unfolding after_role stands
  next_by true e = ((λ h. absurd (let s = eqb-true (sort_of (token_at text at).kind) nullability e in let p = (bounds text at).past (λ z. omega (arith, s, z)) in let w = rw e at h in omega arith)), λ n. refl)
  next_by false e = ((λ h. refl), λ n. absurd (n (rw e refl)))

  pub role_left : (next : ℕ) → next ≡ after_role text at → next ≡ at → at - 1 ≡ role_place text at
  unfolding role_place
  role_left next e h = rw ((next_by (stands text nullability at) refl).0 (sym e ∙ h)) refl

  pub role_there : (next : ℕ) → next ≡ after_role text at → (next ≡ at → ⊥) → place_at text at ≡ role_place text at
  unfolding role_place
  role_there next e n = rw ((next_by (stands text nullability at) refl).1 (λ h. n (e ∙ h))) refl

  -- the word of a field's type
  pub word-place-1 : (x : Refusal) → need text double_quoted at ≡ refused x → refused x ≡ word_place text at
  unfolding word_place
  word-place-1 x e = rw e refl

  module _ (q : Out TokenKind) (s l b : ℕ) (e : need text double_quoted at ≡ done (string q s l b)) where
    pub word-place-2 : (x : Refusal) → need text colon b ≡ refused x → refused x ≡ word_place text at
    unfolding word_place
    word-place-2 x f = rw (e, f) refl

    pub word-place-3 : (c : ℕ) → done c ≡ next_of (need text colon b) → (next : ℕ) → next ≡ after_role text c → (place : ℕ) → place ≡ place_at text next → done place ≡ word_place text at
    unfolding word_place
    word-place-3 c f next n place p = let g = got_next (need text colon b) c f in rw (e, g.1, p, n) refl
