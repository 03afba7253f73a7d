-- Where a name or a zone stands: home, start and count hand back the same bytes.
use Rattle.std.specs.Prelude.{if◌then◌else◌}
use mathlib.Core.Path.{◌≡◌, refl, sym, ap, ◌∙◌}
use mathlib.Core.Bool.{Bool, true, false}
use mathlib.Core.List.{List, [], ◌∷◌}
use Prim.Native.Nat.{ℕ, zero, suc, ◌+◌, ◌≤◌}
use native.Mathlib.Omega.{arith}
use lib.ListN.{length, take, drop, length-drop}
use lib.Dec.{leb}
use lib.Seq.{length-take-le}
use borrow.Author.Tests.{leb-true}
use Rattle.datatype.specs.Tree.{part, name_of, zone_of}
use Rattle.arrow_types.specs.Status.{if_named}

part_size : (s : List ℕ) (start size : ℕ) → (length (part s start size) ≡ 0 → ⊥) → length (part s start size) ≡ size
part_size s start size z = by-fit (leb (start + size) (length s)) refl
  where
    by-fit : (b : Bool) → leb (start + size) (length s) ≡ b → length (part s start size) ≡ size
    by-fit true e =
        let h : start + size ≤ length s = leb-true (start + size) (length s) e in
        rw e (length-take-le size (drop start s) (omega (arith, h, length-drop start s)))
    by-fit false e = absurd (z (rw e refl))

name_size : (text names : List ℕ) (home start size : ℕ) → (length (name_of text names home start size) ≡ 0 → ⊥) → length (name_of text names home start size) ≡ size
unfolding name_of
name_size text names zero start size z = absurd (z refl)
name_size text names (suc zero) start size z = part_size text start size z
name_size text names (suc (suc zero)) start size z = part_size names start size z
name_size text names (suc (suc (suc home))) start size z = absurd (z refl)

part_none : (s : List ℕ) → part s 0 0 ≡ []
part_none s = by-fit (leb 0 (length s))
  where
    by-fit : (b : Bool) → (if b then take 0 (drop 0 s) else []) ≡ []
    by-fit true = refl
    by-fit false = refl

-- by the three numbers the same bytes are found

pub zone_back : (text : List ℕ) (start size : ℕ)
    → zone_of text (if_named (zone_of text start size) start) (length (zone_of text start size)) ≡ zone_of text start size
unfolding zone_of if_named
zone_back text start size = go (part text start size) refl
  where
    go : (found : List ℕ) → part text start size ≡ found → part text (if_named found start) (length found) ≡ found
    go [] e = part_none text
    go (c ∷ s) e =
        let n : length (part text start size) ≡ size = part_size text start size (λ z. absurd (let l = ap length e in omega arith)) in
        ap (part text start) (ap length (sym e) ∙ n) ∙ e

pub name_back : (text names : List ℕ) (home start size : ℕ)
    → name_of text names (if_named (name_of text names home start size) home) (if_named (name_of text names home start size) start) (length (name_of text names home start size)) ≡ name_of text names home start size
unfolding name_of if_named
name_back text names home start size = go (name_of text names home start size) refl
  where
    go : (found : List ℕ) → name_of text names home start size ≡ found → name_of text names (if_named found home) (if_named found start) (length found) ≡ found
    go [] e = refl
    go (c ∷ s) e =
        let n : length (name_of text names home start size) ≡ size = name_size text names home start size (λ z. absurd (let l = ap length e in omega arith)) in
        ap (name_of text names home start) (ap length (sym e) ∙ n) ∙ e
