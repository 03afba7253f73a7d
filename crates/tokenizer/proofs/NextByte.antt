-- What `next_byte` answers: where the byte stands, and that it does not.
use mathlib.Core.Path.{◌≡◌, sym, ◌∙◌}
use mathlib.Core.List.{List}
use Prim.Native.Nat.{ℕ, ◌+◌, ◌<◌}
use native.Mathlib.Omega.{arith}
use lib.ListN.{length, get_or, get_or-eq_default}
use Rattle.std.specs.declared.option.Option.TheVariants.{Some, None}
use Rattle.std.proofs.lemmas.Bool.Decides.{nat_tests}
use Rattle.std.proofs.lemmas.Grind.{common_steps}
use Rattle.tokenizer.specs.Places.{after_spaces, next_byte}
use Rattle.tokenizer.proofs.Runs.{spaces-stop}

module _ (text : List ℕ) (at c : ℕ) where
  pub byte-here : (n : ℕ) → Some n ≡ next_byte text at c → (after_spaces text at < length text) × (get_or text (after_spaces text at) 0 ≡ c) × (n ≡ after_spaces text at + 1)
  unfolding next_byte
  byte-here n e = grind (arith, nat_tests, common_steps)

  pub byte-not : None ≡ next_byte text at c → 0 < c → get_or text (after_spaces text at) 0 ≡ c → ⊥
  unfolding next_byte
  byte-not e m h = grind (arith, nat_tests, common_steps, get_or-eq_default text 0 {n = after_spaces text at})

  pub right_there : (c ≡ 32 → ⊥) → at < length text → get_or text at 0 ≡ c → Some (at + 1) ≡ next_byte text at c
  unfolding next_byte
  right_there z h e = rw (spaces-stop text at h (λ q. z (sym e ∙ q))) (grind (arith, nat_tests, common_steps))
