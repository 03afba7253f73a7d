-- The counts of lines and of others, together.
use Rattle.std.specs.Prelude.{cond, sum_by, count_by}
use mathlib.Core.Path.{◌≡◌, sym, ◌∙◌}
use mathlib.Core.List.{List, [], ◌∷◌, ◌++◌}
use Prim.Native.Nat.{ℕ, ◌+◌, max}
use native.Mathlib.Omega.{arith}
use lib.ListN.{length, length-append}
use Rattle.std.proofs.lemmas.List.Sums.{sum_by-append}
use Rattle.tally.specs.Tally.{read, is_accepted, is_refused_by, rows_of_kind, levels, greatest_by, each_from, tally, added, together, refusals}
use Rattle.tally.proofs.Sums.{each-all, added-each}

greatest-append : {A : Type 0} (f : A → ℕ) (xs ys : List A) → greatest_by f (xs ++ ys) ≡ max (greatest_by f xs) (greatest_by f ys)
greatest-append f [] ys = omega arith
greatest-append f (x ∷ xs) ys = let h = greatest-append f xs ys in omega arith

-- The counts of lines behind others are those of the two together.
pub tally-append : (ls ms : List (List ℕ)) → tally (ls ++ ms) ≡ together (tally ls) (tally ms)
unfolding tally together
tally-append ls ms =
    let a : length (ls ++ ms) ≡ length ls + length ms = length-append ls ms in
    let o : count_by (λ l. is_accepted (read l)) (ls ++ ms) ≡ count_by (λ l. is_accepted (read l)) ls + count_by (λ l. is_accepted (read l)) ms =
    sum_by-append (λ l. cond (is_accepted (read l)) 1 0) ls ms in
    let r : each_from 1 refusals (λ n. count_by (λ l. is_refused_by n (read l)) (ls ++ ms))
    ≡ added (each_from 1 refusals (λ n. count_by (λ l. is_refused_by n (read l)) ls)) (each_from 1 refusals (λ n. count_by (λ l. is_refused_by n (read l)) ms)) =
    each-all refusals 1 _ _ (λ n. sum_by-append (λ l. cond (is_refused_by n (read l)) 1 0) ls ms) ∙ sym (added-each refusals 1 _ _) in
    let k : each_from 0 41 (λ k. sum_by (λ l. rows_of_kind k (read l)) (ls ++ ms))
    ≡ added (each_from 0 41 (λ k. sum_by (λ l. rows_of_kind k (read l)) ls)) (each_from 0 41 (λ k. sum_by (λ l. rows_of_kind k (read l)) ms)) =
    each-all 41 0 _ _ (λ k. sum_by-append (λ l. rows_of_kind k (read l)) ls ms) ∙ sym (added-each 41 0 _ _) in
    let d : greatest_by (λ l. levels (read l)) (ls ++ ms) ≡ max (greatest_by (λ l. levels (read l)) ls) (greatest_by (λ l. levels (read l)) ms) = greatest-append (λ l. levels (read l)) ls ms in
    λ j. record { lines = a j; ok = o j; refused = r j; kinds = k j; deep = d j }
