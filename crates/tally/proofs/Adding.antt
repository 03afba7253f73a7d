-- What one line more adds, where it is accepted and where it is refused.
use Rattle.std.specs.Prelude.{if◌then◌else◌, sum_by, count_by}
use mathlib.Core.Path.{◌≡◌, sym, ap, ◌∙◌}
use mathlib.Core.List.{List, [], ◌∷◌}
use Prim.Native.Nat.{ℕ, ◌+◌, ◌-◌, ◌≤◌, max}
use native.Mathlib.Omega.{arith}
use lib.ListN.{length, get_or, set}
use Rattle.tokenizer.specs.Answer.{Refusal, Out, refused, done}
use Rattle.datatype.specs.Tree.{Forest, depth, Row}
use Rattle.tally.specs.Tally.{read, is_accepted, is_refused_by, rows_of_kind, levels, greatest_by, each_from, Counts, tally, added, together, refusals}
use Rattle.tally.proofs.Sums.{one_at, each-all, added-none, added-one}

-- The counts of one line, by what reading it answers.
abbrev pub of_one : Out (Forest Row) → Counts
of_one o = record { lines = 1; ok = if is_accepted o then 1 else 0; refused = each_from 1 refusals (λ n. if is_refused_by n o then 1 else 0); kinds = each_from 0 41 (λ k. rows_of_kind k o); deep = levels o }

pub one-line : (line : List ℕ) (o : Out (Forest Row)) → read line ≡ o → tally (line ∷ []) ≡ of_one o
unfolding tally
one-line line o e =
    let r = each-all refusals 1 (λ n. count_by (λ l. is_refused_by n (read l)) (line ∷ [])) (λ n. if is_refused_by n (read line) then 1 else 0) (λ n. omega arith) in
    let k = each-all 41 0 (λ k. sum_by (λ l. rows_of_kind k (read l)) (line ∷ [])) (λ k. rows_of_kind k (read line)) (λ k. omega arith) in
    let a : count_by (λ l. is_accepted (read l)) (line ∷ []) ≡ (if is_accepted (read line) then 1 else 0) = omega arith in
    let d : greatest_by (λ l. levels (read l)) (line ∷ []) ≡ levels (read line) = omega arith in
    (λ j. record { lines = 1; ok = a j; refused = r j; kinds = k j; deep = d j }) ∙ ap of_one e

module _ (t : Counts) (line : List ℕ) (sixteen : length t.refused ≡ 16) where
  pub adds-accepted : (f : Forest Row) → read line ≡ done f
      → together t (tally (line ∷ [])) ≡ record { lines = t.lines + 1; ok = t.ok + 1; refused = t.refused; kinds = added t.kinds (each_from 0 41 (λ k. rows_of_kind k (done f))); deep = max t.deep (depth f) }
  unfolding together
  adds-accepted f e =
      ap (together t) (one-line line (done f) e)
      ∙ ap (λ (l : List ℕ). record { lines = t.lines + 1; ok = t.ok + 1; refused = l; kinds = added t.kinds (each_from 0 41 (λ k. rows_of_kind k (done f))); deep = max t.deep (depth f) }) (added-none t.refused 1 16 sixteen)

  pub adds-refused : length t.kinds ≡ 41 → (r : Refusal) → read line ≡ refused r → 1 ≤ r.number → r.number ≤ 16
      → together t (tally (line ∷ [])) ≡ record { lines = t.lines + 1; ok = t.ok; refused = set t.refused (r.number - 1) (get_or t.refused (r.number - 1) 0 + 1); kinds = t.kinds; deep = t.deep }
  unfolding together
  adds-refused many r e h k =
      let place : 1 + (r.number - 1) ≡ r.number = omega arith in
      let none = added-none t.refused 1 16 sixteen in
      let one : added t.refused (each_from 1 refusals (λ n. one_at r.number n)) ≡ set t.refused (r.number - 1) (get_or t.refused (r.number - 1) 0 + 1) =
      ap (added t.refused) (each-all 16 1 _ _ (λ n. ap (λ (i : ℕ). one_at i n) (sym place) ∙ (let z : one_at (1 + (r.number - 1)) n ≡ 0 + one_at (1 + (r.number - 1)) n = omega arith in z)))
      ∙ sym (added-one t.refused 16 1 (r.number - 1) (λ k. 0) sixteen (omega arith))
      ∙ ap (λ (l : List ℕ). set l (r.number - 1) (get_or l (r.number - 1) 0 + 1)) none in
      let kinds = added-none t.kinds 0 41 many in
      let o : t.ok + 0 ≡ t.ok = omega arith in
      let d : max t.deep 0 ≡ t.deep = omega arith in
      ap (together t) (one-line line (refused r) e) ∙ (λ j. record { lines = t.lines + 1; ok = o j; refused = one j; kinds = kinds j; deep = d j })
