-- The verdict of a tree depends on its kinds and its nesting alone.
use Rattle.std.specs.Prelude.{Option, Some, None, if◌then◌else◌}
use mathlib.Core.Path.{◌≡◌, refl, sym, ap, ◌∙◌}
use Prim.Native.Nat.{ℕ, suc, ◌+◌}
use Rattle.datatype.specs.Kind.{shape_of}
use Rattle.datatype.specs.Tree.{Forest, ∅, node, count, map_forest, Label}
use Rattle.layout.specs.Layout.{Asked, anything, kind_allowed, asked_of_first, first, broken_row}

-- a run of trees with nothing but their kinds
unfoldable pub kinds_of : Forest Label → Forest ℕ
kinds_of f = map_forest (λ l. l.kind) f

-- the first row that breaks a rule, by the kinds alone
unfoldable pub broken_kind : Asked → ℕ → Forest ℕ → Option ℕ
broken_kind asked i ∅ = None
broken_kind asked i (node k kids next) =
    let below = broken_kind (asked_of_first (shape_of k)) (suc i) kids in
    let beyond = broken_kind anything (i + suc (count kids)) next in
    if kind_allowed asked k then first below beyond else Some i

count_kinds : (f : Forest Label) → count (kinds_of f) ≡ count f
unfolding kinds_of
count_kinds ∅ = refl
count_kinds (node l k n) = λ j. suc (count_kinds k j) + count_kinds n j

broken_kind_lem : (asked : Asked) (i : ℕ) (f : Forest Label) → broken_row asked i f ≡ broken_kind asked i (kinds_of f)
unfolding broken_row broken_kind kinds_of
broken_kind_lem asked i ∅ = refl
broken_kind_lem asked i (node l k n) =
    let c : i + suc (count (kinds_of k)) ≡ i + suc (count k) = ap (λ (m : ℕ). i + suc m) (count_kinds k) in
    rw (c, broken_kind_lem (asked_of_first (shape_of l.kind)) (suc i) k, broken_kind_lem anything (i + suc (count k)) n)

-- two trees of the same kinds and nesting have the same verdict
pub kindred : (asked : Asked) (i : ℕ) (f g : Forest Label) → kinds_of f ≡ kinds_of g → broken_row asked i f ≡ broken_row asked i g
kindred asked i f g e = broken_kind_lem asked i f ∙ ap (broken_kind asked i) e ∙ sym (broken_kind_lem asked i g)
