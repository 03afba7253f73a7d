-- Cases one behind another.
use mathlib.Core.Path.{◌≡◌, refl}
use Prim.Native.Nat.{ℕ, zero, suc, ◌+◌}
use native.Mathlib.Omega.{arith}
use Rattle.replay.specs.Sample.{times}
use Rattle.replay.specs.declared.Agreement.{Agreement}

times_suc : (one : Agreement → Agreement) (n : ℕ) (t : Agreement) → times one (suc n) t ≡ one (times one n t)
unfolding times
times_suc one zero t = refl
times_suc one (suc n) t = times_suc one n (one t)

pub times_more : (one : Agreement → Agreement) (n : ℕ) (t : Agreement) → times one (n + 1) t ≡ one (times one n t)
times_more one n t =
    let e : n + 1 ≡ suc n = omega arith in
    rw e (times_suc one n t)

pub times_none : (one : Agreement → Agreement) (t : Agreement) → times one 0 t ≡ t
unfolding times
times_none one t = refl

-- what the loops over cases use
pub ruleset times_steps = (times_more, times_none)
