-- What a function answers when `?` hands an error on, whatever errors it has; and how great a refusal's number is.
use mathlib.Core.Path.{◌≡◌, ap}
use Prim.Native.Nat.{ℕ, ◌≤◌}
use Rattle.std.specs.Result.{IsErrAnd}
use Rattle.std.specs.declared.result.Result.{Result}
use Rattle.std.specs.declared.result.Result.TheVariants.{Ok, Err}
use borrow.Author.Rules.{rules}
use Rattle.tokenizer.specs.Answer.{refuse, number_of, answer_of}
use Rattle.tokenizer.specs.declared.refusal.Refusal as R

pub handed_on : {A E : Type 0} (number : E → ℕ) (r : Result A E) (e : E) → IsErrAnd r (λ y. y ≡ e) → answer_of number r ≡ refuse (number e)
handed_on number (Ok x) e h = absurd h
handed_on {E = E} number (Err y) e h = ap (λ (z : E). refuse (number z)) h

pub number_low : (e : R.Refusal) → number_of e ≤ 19
number_low e = search rules
