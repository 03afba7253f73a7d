-- Counting the rows of a table by their kinds, row by row.
use Rattle.std.specs.Prelude.{cond, count_by}
use Rattle.std.specs.List.{range_with_len}
use mathlib.Core.Path.{◌≡◌, sym, ap, ◌∙◌}
use mathlib.Core.List.{List, [], ◌∷◌, ◌++◌, map}
use Prim.Native.Nat.{ℕ, zero, ◌+◌, ◌/◌, ◌^◌, ◌≤◌, ◌<◌}
use native.Mathlib.Omega.{arith}
use lib.ListN.{length, get_or, set}
use lib.Dec.{eqb}
use Rattle.std.proofs.lemmas.List.Sums.{count_by-le-length, sum_by_push}
use Rattle.std.proofs.lemmas.List.FromFn.{map-range_with_len_more, length-map-range_with_len}
use Rattle.datatype.specs.Table.{row_words, word_at}
use Rattle.tally.specs.Tally.{added}
use Rattle.tally.specs.Internal.Steps.{kinds_at, rows_by_kind, Countable}
use Rattle.tally.proofs.Sums.{one_at, each-all, added-none, added-one, get-added}

kinds-more : (table : List ℕ) (at : ℕ) → kinds_at table (at + 1) ≡ kinds_at table at ++ (word_at table at 0 ∷ [])
unfolding kinds_at
kinds-more table at = map-range_with_len_more (λ i. word_at table i 0) 0 at at (omega arith)

few-of-kind : (table : List ℕ) (at k : ℕ) → count_by (λ w. eqb w k) (kinds_at table at) ≤ at
unfolding kinds_at
few-of-kind table at k =
    let a = count_by-le-length (λ (w : ℕ). eqb w k) (map (λ i. word_at table i 0) (range_with_len 0 at)) in
    let b = length-map-range_with_len (λ i. word_at table i 0) 0 at in
    omega arith

pub kinds-none : (counts table : List ℕ) → length counts ≡ 41 → counts ≡ added counts (rows_by_kind table 0)
unfolding rows_by_kind kinds_at
kinds-none counts table h = sym (added-none counts 0 41 h)

module _ (counts table : List ℕ) (at : ℕ) (size : length counts ≡ 41) (c : Countable counts table) (inside : at < length table / row_words) where
  pub kind-low : word_at table at 0 < 41
  kind-low = c.kind at inside

  pub kind_room : get_or (added counts (rows_by_kind table at)) (word_at table at 0) 0 + 1 < 2 ^ 32
  unfolding rows_by_kind
  kind_room =
      let k : ℕ = word_at table at 0 in
      let g = get-added counts 41 0 k (λ k. count_by (λ w. eqb w k) (kinds_at table at)) size kind-low in
      let f = few-of-kind table at (0 + k) in
      let r = c.room k in
      omega arith

  pub kind_counted : set (added counts (rows_by_kind table at)) (word_at table at 0) (get_or (added counts (rows_by_kind table at)) (word_at table at 0) 0 + 1) ≡ added counts (rows_by_kind table (at + 1))
  unfolding rows_by_kind
  kind_counted =
      let w : ℕ = word_at table at 0 in
      let zero : 0 + w ≡ w = omega arith in
      added-one counts 41 0 w (λ k. count_by (λ w. eqb w k) (kinds_at table at)) size kind-low
      ∙ ap (added counts) (each-all 41 0 _ (λ k. count_by (λ w. eqb w k) (kinds_at table (at + 1))) (λ k.
      ap (λ (i : ℕ). count_by (λ w. eqb w k) (kinds_at table at) + one_at i k) zero
      ∙ sym (ap (count_by (λ w. eqb w k)) (kinds-more table at) ∙ sum_by_push (λ w. cond (eqb w k) 1 0) (kinds_at table at) w)))

-- what `count_kinds` uses
pub ruleset kind_steps = (kinds-none, kind-low, kind_room, kind_counted)
