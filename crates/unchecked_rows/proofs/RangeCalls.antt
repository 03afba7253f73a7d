-- What a closure may be asked over a range, where a call needs what the calls before it gave.
use Rattle.std.proofs.Common.{◌≡◌, sym, ap, subst, ◌∙◌, List, [], ◌∷◌, ℕ, ◌≤◌, ◌<◌, arith}
use native.Mathlib.Decide.{dec_lt}
use Rattle.std.proofs.iter.Yields.{nat_range_steps}
use Rattle.std.specs.declared.ops.Range.{Range}
use Rattle.std.specs.Iterator.{Yields, CallableAtEachTurn}
use Rattle.std.specs.List.{FoldsTo}

module _ {F : Type 0} (R : F → ℕ → F → Type 0) (f : F) (P : ℕ → Type 0) (gives : (k : ℕ) (g : F) → R f k g → (g ≡ f) × P k) where
  -- the calls so far left f as it was and the range at t, and P holds of each number before
  record SoFar (s t : Range ℕ) (g : F) : Type 0 where
    same : g ≡ f
    end : t.end ≡ s.end
    all : (k : ℕ) → s.start ≤ k → k < t.start → P k

  so_far : (ks : List ℕ) (s t : Range ℕ) (g : F) → Yields nat_range_steps s ks t → FoldsTo R f ks g → SoFar s t g
  so_far [] s t g y c = record { same = sym c; end = ap (λ r. r.end) (sym y); all = λ k a b. absurd (omega (arith, ap (λ (r : Range ℕ). r.start) y)) }
  so_far (x ∷ ks) s t g y c =
      let h = gives x c.0 c.1 in
      let later = so_far ks y.0 t g y.2 (subst (λ e. FoldsTo R e ks g) h.0 c.2) in
      record {
        same = later.same;
        end = later.end ∙ y.1.0;
        all = λ k a b. elim (dec_lt s.start k) [ yes l ↦ later.all k (omega (arith, y.1.1.2)) b | no l ↦ subst P (omega (arith, y.1.1.1)) h.1 ];
      }

  pub serves_after : (Q : F → ℕ → Type 0) (n : ℕ) → ((k : ℕ) → k < n → ((j : ℕ) → j < k → P j) → Q f k) → CallableAtEachTurn nat_range_steps R Q (record { start = 0; end = n }) f
  serves_after Q n h = record {
    at = λ ks t g k u y c e.
        let so = so_far ks (record { start = 0; end = n }) t g y c in
        subst (λ p. Q p k) (sym so.same) (h k (omega (arith, so.end, e.1)) (λ j l. so.all j (omega arith) (omega (arith, e.1.1))));
  }
