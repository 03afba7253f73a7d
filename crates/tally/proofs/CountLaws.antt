-- What holds of the counts of every list of lines.
--   counts_of   all of it (specs/Laws.antt)
use Rattle.std.specs.Prelude.{if◌then◌else◌, cond, sum_by, count_by, sum, All, Any, IsTrue}
use Rattle.std.specs.List.Sorted.{IsPermutation}
use mathlib.Core.Path.{◌≡◌, refl, sym, ap, ◌∙◌, subst}
use mathlib.Core.Bool.{Bool, true, false}
use mathlib.Core.List.{List, [], ◌∷◌, ◌++◌}
use mathlib.Core.Logic.{◌⊎◌, inl, inr}
use Prim.Native.Nat.{ℕ, suc, ◌+◌, ◌≤◌, ◌<◌, max}
use native.Mathlib.Omega.{arith}
use native.Mathlib.Decide.{dec_le}
use lib.ListN.{length, get_or}
use lib.Dec.{eqb}
use Rattle.std.proofs.lemmas.List.Sums.{sum_by-cons}
use Rattle.std.proofs.lemmas.List.Elements.{All-cons, All-nil, All-append, All-from_get_or}
use Rattle.std.proofs.lemmas.List.Sorted.{sum_by-IsPermutation, length_permutation, All-permutation, IsPermutation-sym}
use Rattle.tokenizer.specs.Answer.{Out, refused, done}
use Rattle.datatype.specs.Tree.{Forest, Row}
use Rattle.tally.specs.Tally.{read, is_accepted, is_refused_by, rows_in, rows_of, rows_of_kind, levels, greatest_by, each_from, Counts, tally, refusals}
use Rattle.tally.specs.Laws.{all_counts, CountsOf}
use Rattle.tally.proofs.Sums.{one_at, each-all, sum-each-zero, sum-each-add, sum-each-one}
use Rattle.tally.proofs.RowKinds.{accepted}
use Rattle.tally.proofs.Refusals.{refusal_low_lem}
use Rattle.tally.proofs.Bounds.{Bounded, tally-bounded}
use Rattle.tally.proofs.Sizes.{report-fits}

-- ---- each line is counted once

line-once : (line : List ℕ) → (if is_accepted (read line) then 1 else 0) + sum (each_from 1 16 (λ n. if is_refused_by n (read line) then 1 else 0)) ≡ 1
unfolding read
line-once line = go (read line) refl
  where
    go : (o : Out (Forest Row)) → read line ≡ o → (if is_accepted o then 1 else 0) + sum (each_from 1 16 (λ n. if is_refused_by n o then 1 else 0)) ≡ 1
    go (refused r) e = let l = refusal_low_lem line 1024 r e in let s = sum-each-one 16 1 r.number l.0 (let h = l.1 in omega arith) in omega arith
    go (done f) e = let s = sum-each-zero 16 1 in omega arith

each-line : (ls : List (List ℕ)) → count_by (λ l. is_accepted (read l)) ls + sum (each_from 1 16 (λ n. count_by (λ l. is_refused_by n (read l)) ls)) ≡ length ls
each-line [] = let z : sum (each_from 1 16 (λ n. count_by (λ l. is_refused_by n (read l)) [])) ≡ 0 = sum-each-zero 16 1 in omega arith
each-line (l ∷ ls) =
    let a = sum_by-cons (λ (l : List ℕ). cond (is_accepted (read l)) 1 0) l ls in
    let b : sum (each_from 1 16 (λ n. count_by (λ l. is_refused_by n (read l)) (l ∷ ls))) ≡ sum (each_from 1 16 (λ n. (if is_refused_by n (read l) then 1 else 0) + count_by (λ l. is_refused_by n (read l)) ls)) =
    ap sum (each-all 16 1 _ _ (λ n. sum_by-cons (λ (l : List ℕ). cond (is_refused_by n (read l)) 1 0) l ls)) in
    let c = sum-each-add 16 1 (λ n. if is_refused_by n (read l) then 1 else 0) (λ n. count_by (λ l. is_refused_by n (read l)) ls) in
    let d = line-once l in
    let h = each-line ls in
    omega arith

-- ---- each row is counted once

kinds-once : (rows : List Row) → All (λ r. r.kind < 41) rows → sum (each_from 0 41 (λ k. count_by (λ r. eqb r.kind k) rows)) ≡ length rows
kinds-once [] a = sum-each-zero 41 0
kinds-once (r ∷ rows) a =
    let b : sum (each_from 0 41 (λ k. count_by (λ r. eqb r.kind k) (r ∷ rows))) ≡ sum (each_from 0 41 (λ k. one_at r.kind k + count_by (λ r. eqb r.kind k) rows)) =
    ap sum (each-all 41 0 _ _ (λ k. sum_by-cons (λ (r : Row). cond (eqb r.kind k) 1 0) r rows)) in
    let c = sum-each-add 41 0 (one_at r.kind) (λ k. count_by (λ r. eqb r.kind k) rows) in
    let low : r.kind < 41 = a 0 r (omega arith) in
    let d = sum-each-one 41 0 r.kind (omega arith) (omega arith) in
    let h = kinds-once rows (λ k d l. a (suc k) d (omega arith)) in
    omega arith

rows-once : (line : List ℕ) → sum (each_from 0 41 (λ k. rows_of_kind k (read line))) ≡ length (rows_of (read line))
unfolding read
rows-once line = go (read line) refl
  where
    go : (o : Out (Forest Row)) → read line ≡ o → sum (each_from 0 41 (λ k. rows_of_kind k o)) ≡ length (rows_of o)
    go (refused r) e = sum-each-zero 41 0
    go (done f) e = let a = accepted line f e in kinds-once (rows_in f) a.kind

each-row : (ls : List (List ℕ)) → sum (each_from 0 41 (λ k. sum_by (λ l. rows_of_kind k (read l)) ls)) ≡ sum_by (λ l. length (rows_of (read l))) ls
each-row [] = sum-each-zero 41 0
each-row (l ∷ ls) =
    let b : sum (each_from 0 41 (λ k. sum_by (λ l. rows_of_kind k (read l)) (l ∷ ls))) ≡ sum (each_from 0 41 (λ k. rows_of_kind k (read l) + sum_by (λ l. rows_of_kind k (read l)) ls)) =
    ap sum (each-all 41 0 _ _ (λ k. sum_by-cons (λ (l : List ℕ). rows_of_kind k (read l)) l ls)) in
    let c = sum-each-add 41 0 (λ k. rows_of_kind k (read l)) (λ k. sum_by (λ l. rows_of_kind k (read l)) ls) in
    let d = rows-once l in
    let e = sum_by-cons (λ (l : List ℕ). length (rows_of (read l))) l ls in
    let h = each-row ls in
    omega arith

-- ---- the deepest level

module _ {A : Type 0} (f : A → ℕ) where
  above : (m : ℕ) (xs : List A) → greatest_by f xs ≤ m → All (λ x. f x ≤ m) xs
  above m [] h = All-nil (λ (x : A). f x ≤ m)
  above m (x ∷ xs) h = All-cons (λ (x : A). f x ≤ m) x xs (omega arith) (above m xs (omega arith))

  below : (m : ℕ) (xs : List A) → All (λ x. f x ≤ m) xs → greatest_by f xs ≤ m
  below m [] a = omega arith
  below m (x ∷ xs) a = let h : f x ≤ m = a 0 x (omega arith) in let k = below m xs (λ k d l. a (suc k) d (omega arith)) in omega arith

  below-permuted : (xs ys : List A) → IsPermutation xs ys → greatest_by f ys ≤ greatest_by f xs
  below-permuted xs ys p = below (greatest_by f xs) ys (All-permutation (λ (x : A). f x ≤ greatest_by f xs) xs ys p (above (greatest_by f xs) xs (omega arith)))

  greatest-permuted : (xs ys : List A) → IsPermutation xs ys → greatest_by f ys ≡ greatest_by f xs
  greatest-permuted xs ys p = let a = below-permuted xs ys p in let b = below-permuted ys xs (IsPermutation-sym xs ys p) in omega arith

-- an accepted line has a level, a refused one none
accepted-deep : (line : List ℕ) → ((is_accepted (read line) ≡ true) × (1 ≤ levels (read line))) ⊎ ((is_accepted (read line) ≡ false) × (levels (read line) ≡ 0))
unfolding read
accepted-deep line = go (read line) refl
  where
    go : (o : Out (Forest Row)) → read line ≡ o → ((is_accepted o ≡ true) × (1 ≤ levels o)) ⊎ ((is_accepted o ≡ false) × (levels o ≡ 0))
    go (refused r) e = inr (refl, refl)
    go (done f) e = let a = accepted line f e in inl (refl, a.deep)

-- the lines with so many levels that are accepted
abbrev As_deep : ℕ → List ℕ → Type 0
As_deep m l = IsTrue (is_accepted (read l)) × (levels (read l) ≡ m)

here : (m : ℕ) (l : List ℕ) (ls : List (List ℕ)) → As_deep m l → Any (As_deep m) (l ∷ ls)
here m l ls h = (0, l, omega arith, refl, h)

there : (m : ℕ) (l : List ℕ) (ls : List (List ℕ)) → Any (As_deep m) ls → Any (As_deep m) (l ∷ ls)
there m l ls a = let h = a.2 in (suc a.0, a.1, omega arith, a.3, a.4)

abbrev one_if : Bool → ℕ
one_if b = if b then 1 else 0

accepted-more : (l : List ℕ) (ls : List (List ℕ)) → count_by (λ l. is_accepted (read l)) (l ∷ ls) ≡ one_if (is_accepted (read l)) + count_by (λ l. is_accepted (read l)) ls
accepted-more l ls = sum_by-cons (λ (l : List ℕ). cond (is_accepted (read l)) 1 0) l ls

-- how many are accepted, of one line more
module _ (l : List ℕ) (ls : List (List ℕ)) where
  abbrev oks : List (List ℕ) → ℕ
  oks ls = count_by (λ l. is_accepted (read l)) ls

  one-more : is_accepted (read l) ≡ true → oks (l ∷ ls) ≡ suc (oks ls)
  one-more e = accepted-more l ls ∙ ap (λ (b : Bool). one_if b + oks ls) e ∙ omega arith

  none-more : is_accepted (read l) ≡ false → oks (l ∷ ls) ≡ oks ls
  none-more e = accepted-more l ls ∙ ap (λ (b : Bool). one_if b + oks ls) e ∙ omega arith

none-deep : (ls : List (List ℕ)) → count_by (λ l. is_accepted (read l)) ls ≡ 0 → greatest_by (λ l. levels (read l)) ls ≡ 0
none-deep [] h = refl
none-deep (l ∷ ls) h =
    elim (accepted-deep l) [
      | inl a ↦ absurd (let m = one-more l ls a.0 in let z : suc (count_by (λ l. is_accepted (read l)) ls) ≡ 0 = sym m ∙ h in omega arith)
      | inr r ↦ let k = none-deep ls (sym (none-more l ls r.0) ∙ h) in let z = r.1 in omega arith
    ]

-- one line more, which is deeper or not
module _ (l : List ℕ) (ls : List (List ℕ)) (deeper : 0 < count_by (λ l. is_accepted (read l)) ls → Any (As_deep (greatest_by (λ l. levels (read l)) ls)) ls) where
  abbrev rest : ℕ
  rest = greatest_by (λ l. levels (read l)) ls

  in-rest : levels (read l) ≤ rest → 0 < count_by (λ l. is_accepted (read l)) ls → Any (As_deep (max (levels (read l)) rest)) (l ∷ ls)
  in-rest h k = there (max (levels (read l)) rest) l ls (subst (λ (n : ℕ). Any (As_deep n) ls) (let e : rest ≡ max (levels (read l)) rest = omega arith in e) (deeper k))

  some-rest : 1 ≤ rest → 0 < count_by (λ l. is_accepted (read l)) ls
  some-rest h = elim (dec_le 1 (count_by (λ (l : List ℕ). is_accepted (read l)) ls)) [
    | yes p ↦ p
    | no p ↦ let z = none-deep ls (omega arith) in absurd (omega arith)
  ]

  as-deep-more : 0 < count_by (λ l. is_accepted (read l)) (l ∷ ls) → Any (As_deep (max (levels (read l)) rest)) (l ∷ ls)
  as-deep-more h =
      elim (accepted-deep l) [
        | inr r ↦ let z = r.1 in in-rest (omega arith) (subst (λ (n : ℕ). 0 < n) (none-more l ls r.0) h)
        | inl a ↦ elim (dec_le rest (levels (read l))) [
          | yes k ↦ here (max (levels (read l)) rest) l ls (a.0, omega arith)
          | no k ↦ let z = a.1 in in-rest (omega arith) (some-rest (omega arith))
        ]
      ]

as-deep : (ls : List (List ℕ)) → 0 < count_by (λ l. is_accepted (read l)) ls → Any (As_deep (greatest_by (λ l. levels (read l)) ls)) ls
as-deep [] h = absurd (omega arith)
as-deep (l ∷ ls) h = as-deep-more l ls (as-deep ls) h

-- ---- the order of the lines

tally-permuted : (ls ms : List (List ℕ)) → IsPermutation ls ms → tally ms ≡ tally ls
unfolding tally
tally-permuted ls ms p =
    let a = length_permutation ls ms p in
    let o = sum_by-IsPermutation (λ (l : List ℕ). cond (is_accepted (read l)) 1 0) ls ms p in
    let r : each_from 1 refusals (λ n. count_by (λ l. is_refused_by n (read l)) ms) ≡ each_from 1 refusals (λ n. count_by (λ l. is_refused_by n (read l)) ls) =
    each-all refusals 1 _ _ (λ n. sum_by-IsPermutation (λ (l : List ℕ). cond (is_refused_by n (read l)) 1 0) ls ms p) in
    let k : each_from 0 41 (λ k. sum_by (λ l. rows_of_kind k (read l)) ms) ≡ each_from 0 41 (λ k. sum_by (λ l. rows_of_kind k (read l)) ls) =
    each-all 41 0 _ _ (λ k. sum_by-IsPermutation (λ (l : List ℕ). rows_of_kind k (read l)) ls ms p) in
    let d = greatest-permuted (λ (l : List ℕ). levels (read l)) ls ms p in
    λ j. record { lines = a j; ok = o j; refused = r j; kinds = k j; deep = d j }

-- ---- how great they are

below-32 : (xs : List ℕ) → ((k : ℕ) → get_or xs k 0 < 4294967296) → All (λ n. n < 4294967296) xs
below-32 xs h = All-from_get_or (λ (n : ℕ). n < 4294967296) xs 0 (λ i l. h i)

counts-small : (t : Counts) → Bounded t → All (λ n. n < 4294967296) (all_counts t)
counts-small t b =
    let l = b.lines in
    let o = b.ok in
    let d = b.deep in
    let P : ℕ → Type 0 = λ n. n < 4294967296 in
    All-cons P t.lines (t.ok ∷ t.deep ∷ (t.refused ++ t.kinds)) (omega arith) (All-cons P t.ok (t.deep ∷ (t.refused ++ t.kinds)) (omega arith) (All-cons P t.deep (t.refused ++ t.kinds) (omega arith)
    (All-append P t.refused t.kinds (below-32 t.refused (λ k. let r = b.refused k in omega arith)) (below-32 t.kinds (λ k. let r = b.kinds k in omega arith)))))

-- ---- all of it

pub counts_of : (ls : List (List ℕ)) → CountsOf ls (tally ls)
unfolding tally
counts_of ls = record {
  each_line = each-line ls;
  each_row = each-row ls;
  deepest = above (λ l. levels (read l)) (greatest_by (λ l. levels (read l)) ls) ls (omega arith);
  as_deep = as-deep ls;
  none_deep = none-deep ls;
  any_order = tally-permuted ls;
  small = λ few. counts-small (tally ls) (tally-bounded ls few);
  fits = λ few. report-fits (tally ls) (tally-bounded ls few);
}

pub counts_of_view : (ls : List (List ℕ)) (t : Counts) → t ≡ tally ls → CountsOf ls t
counts_of_view ls t e = subst (CountsOf ls) (sym e) (counts_of ls)
