-- What holds of every value that a reader answers, without taking its steps apart.
use Rattle.std.specs.Prelude.{if◌then◌else◌}
use mathlib.Core.Path.{◌≡◌, refl}
use mathlib.Core.Bool.{Bool, true, false}
use Prim.Native.Nat.{ℕ}
use Rattle.tokenizer.specs.Answer.{Out, refused, done, ◌>>=◌}
use Rattle.parser.specs.Parse.{refuse_last}

-- a fact of the value, if there is one
abbrev pub Holds : {A : Type 0} → (A → Type 0) → Out A → Type 0
Holds P (refused r) = Unit {0}
Holds P (done a) = P a

pub holds_bind : {A B : Type 0} (P : B → Type 0) (o : Out A) (f : A → Out B) → ((a : A) → Holds P (f a)) → Holds P (o >>= f)
holds_bind P (refused r) f h = tt
holds_bind P (done a) f h = h a

-- the same, with what holds of the first value
pub holds_then : {A B : Type 0} (Q : A → Type 0) (P : B → Type 0) (o : Out A) (f : A → Out B) → Holds Q o → ((a : A) → Q a → Holds P (f a)) → Holds P (o >>= f)
holds_then Q P (refused r) f q h = tt
holds_then Q P (done a) f q h = h a q

pub holds_if : {A : Type 0} (P : A → Type 0) (b : Bool) (x y : Out A) → Holds P x → Holds P y → Holds P (if b then x else y)
holds_if P true x y p q = p
holds_if P false x y p q = q

-- nothing is answered where a last token is refused
pub holds_last : {A : Type 0} (P : A → Type 0) (n : ℕ) (o : Out ℕ) → Holds P (refuse_last n o)
holds_last P n o = holds_bind P o _ λ place. tt

-- an answer that is a refusal
abbrev pub Refuses : {A : Type 0} → Out A → Type 0
Refuses {A} o = Holds (λ (a : A). ⊥) o

pub refuses_bind : {A B : Type 0} (o : Out A) (f : A → Out B) → Refuses o → Refuses (o >>= f)
refuses_bind (refused r) f h = tt
refuses_bind (done a) f h = absurd h

-- readers that go on alike, from every value or from none
pub bind_ext : {A B : Type 0} (o : Out A) (f g : A → Out B) → ((a : A) → f a ≡ g a) → (o >>= f) ≡ (o >>= g)
bind_ext (refused r) f g h = refl
bind_ext (done a) f g h = h a
