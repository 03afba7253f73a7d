-- What holds of an answer, where it is none but a refusal.
use Rattle.std.specs.Prelude.{if◌then◌else◌}
use mathlib.Core.Path.{◌≡◌, refl, subst}
use mathlib.Core.Bool.{Bool, true, false}
use Prim.Native.Nat.{ℕ, ◌≤◌}
use native.Mathlib.Omega.{arith}
use native.Mathlib.Decide.{dec_lt}
use borrow.Author.Tests.{le-leb, lt-leb}
use lib.Dec.{leb}
use Rattle.tokenizer.specs.Answer.{Out, refused, done, ◌>>=◌}

-- ---- what holds of an answer

abbrev pub Holds : {A : Type 0} → (A → Type 0) → Out A → Type 0
Holds P (refused r) = Unit {0}
Holds P (done a) = P a

pub holds_then : {A B : Type 0} (Q : A → Type 0) (P : B → Type 0) (o : Out A) (f : A → Out B) → Holds Q o → ((a : A) → Q a → Holds P (f a)) → Holds P (o >>= f)
holds_then Q P (refused r) f q h = tt
holds_then Q P (done a) f q h = h a q

pub holds_any : {A : Type 0} (o : Out A) → Holds (λ (a : A). Unit {0}) o
holds_any (refused r) = tt
holds_any (done a) = tt

pub holds_if : {A : Type 0} (P : A → Type 0) (b : Bool) (x y : Out A) → Holds P x → Holds P y → Holds P (if b then x else y)
holds_if P true x y p q = p
holds_if P false x y p q = q

pub holds_test : {A : Type 0} (P : A → Type 0) (m n : ℕ) (x y : Out A) → (m ≤ n → Holds P x) → Holds P y → Holds P (if leb m n then x else y)
holds_test P m n x y f g = elim (dec_lt n m) [ yes h ↦ rw (lt-leb m n h) g | no h ↦ rw (le-leb m n (omega arith)) (f (omega arith)) ]

pub holds_done : {A : Type 0} (P : A → Type 0) (o : Out A) (a : A) → Holds P o → o ≡ done a → P a
holds_done P o a h e = subst (Holds P) e h

pub same_bind : {A B : Type 0} (Q : A → Type 0) (o : Out A) (f g : A → Out B) → Holds Q o → ((a : A) → Q a → f a ≡ g a) → (o >>= f) ≡ (o >>= g)
same_bind Q (refused r) f g q h = refl
same_bind Q (done a) f g q h = h a q

pub holds_map : {A : Type 0} (Q P : A → Type 0) (o : Out A) → ((a : A) → Q a → P a) → Holds Q o → Holds P o
holds_map Q P (refused r) f h = tt
holds_map Q P (done a) f h = f a h

pub bind_assoc : {A B C : Type 0} (o : Out A) (f : A → Out B) (g : B → Out C) → ((o >>= f) >>= g) ≡ (o >>= (λ a. f a >>= g))
bind_assoc (refused r) f g = refl
bind_assoc (done a) f g = refl

pub bind_each : {A B : Type 0} (o : Out A) (f g : A → Out B) → ((a : A) → f a ≡ g a) → (o >>= f) ≡ (o >>= g)
bind_each (refused r) f g e = refl
bind_each (done a) f g e = e a

pub holds_both : {A : Type 0} (P Q : A → Type 0) (o : Out A) → Holds P o → Holds Q o → Holds (λ a. P a × Q a) o
holds_both P Q (refused r) p q = tt
holds_both P Q (done a) p q = (p, q)
