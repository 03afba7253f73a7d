-- A token that is needed stands there, and one that is refused does not.
use mathlib.Core.Path.{◌≡◌, refl}
use mathlib.Core.Bool.{true, false}
use mathlib.Core.List.{List}
use Prim.Native.Nat.{ℕ}
use native.Mathlib.Omega.{arith}
use lib.Dec.{eqb}
use Rattle.tokenizer.specs.Answer.{Refusal, refused, done, refuse_at}
use Rattle.tokenizer.specs.Token.{Standing, token_at, sort_of}
use Rattle.parser.specs.Parse.{refusal_of, place_at, need, stands}

module _ (text : List ℕ) (sort at : ℕ) where
  pub needed-stands : (t : Standing) → need text sort at ≡ done t → stands text sort at ≡ true
  unfolding need stands
  needed-stands t e = grind arith

  pub refused-stands : (r : Refusal) → need text sort at ≡ refused r → stands text sort at ≡ false
  unfolding need stands
  refused-stands r e = grind arith

  -- a token of the sort, and one of another
  pub need-is : eqb (sort_of (token_at text at).kind) sort ≡ true → need text sort at ≡ done (token_at text at)
  unfolding need
  need-is e = rw e refl

  pub need-not : eqb (sort_of (token_at text at).kind) sort ≡ false → need text sort at ≡ refuse_at (refusal_of (token_at text at).kind) (place_at text at)
  unfolding need
  need-not e = rw e refl
