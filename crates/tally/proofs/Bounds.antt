-- What is known of the counts of so many lines.
use Rattle.std.specs.Prelude.{All}
use mathlib.Core.Path.{◌≡◌, refl, sym, subst}
use mathlib.Core.List.{List, [], ◌∷◌}
use Prim.Native.Nat.{ℕ, zero, suc, ◌+◌, ◌*◌, ◌≤◌}
use native.Mathlib.Omega.{arith}
use lib.ListN.{length, get_or}
use lib.Dec.{eqb}
use Rattle.std.proofs.lemmas.List.Sums.{count_by-le-length, sum_by-le}
use Rattle.std.proofs.lemmas.List.Elements.{All-cons, All-nil}
use Rattle.tokenizer.specs.Answer.{Out, refused, done}
use Rattle.datatype.specs.Tree.{Forest, Row}
use Rattle.tally.specs.Tally.{read, is_accepted, is_refused_by, rows_of, rows_of_kind, levels, greatest_by, each_from, Counts, tally}
use Rattle.tally.specs.Laws.{IsTally}
use Rattle.tally.proofs.Sums.{length-each}
use Rattle.tally.proofs.RowKinds.{accepted, length-rows}

-- ---- one line

rows-few : (line : List ℕ) → length (rows_of (read line)) ≤ 1024
unfolding read
rows-few line = go (read line) refl
  where
    go : (o : Out (Forest Row)) → read line ≡ o → length (rows_of o) ≤ 1024
    go (refused r) e = omega arith
    go (done f) e = let a = accepted line f e in let r = a.rows in let l = length-rows f in omega arith

pub levels-low : (line : List ℕ) → levels (read line) ≤ 64
unfolding read
levels-low line = go (read line) refl
  where
    go : (o : Out (Forest Row)) → read line ≡ o → levels o ≤ 64
    go (refused r) e = omega arith
    go (done f) e = let a = accepted line f e in a.levels

kinds-few : (k : ℕ) (line : List ℕ) → rows_of_kind k (read line) ≤ 1024
kinds-few k line = let a = count_by-le-length (λ (r : Row). eqb r.kind k) (rows_of (read line)) in let b = rows-few line in omega arith

-- ---- all of them

each-most : (m n a k : ℕ) (f : ℕ → ℕ) → ((i : ℕ) → f i ≤ m) → get_or (each_from a n f) k 0 ≤ m
unfolding each_from
each-most m zero a k f h = omega arith
each-most m (suc n) a zero f h = h a
each-most m (suc n) a (suc k) f h = each-most m n (a + 1) k f h

greatest-most : {A : Type 0} (m : ℕ) (f : A → ℕ) → ((x : A) → f x ≤ m) → (xs : List A) → greatest_by f xs ≤ m
greatest-most m f h [] = omega arith
greatest-most m f h (x ∷ xs) = let a = h x in let b = greatest-most m f h xs in omega arith

every : {A : Type 0} (P : A → Type 0) → ((x : A) → P x) → (xs : List A) → All P xs
every P h [] = All-nil P
every P h (x ∷ xs) = All-cons P x xs (h x) (every P h xs)

pub record Bounded (t : Counts) : Type 0 where
  pub lines : t.lines ≤ 1000000
  pub ok : t.ok ≤ t.lines
  pub refused : (k : ℕ) → get_or t.refused k 0 ≤ t.lines
  pub sixteen : length t.refused ≡ 16
  pub kinds : (k : ℕ) → get_or t.kinds k 0 ≤ 1024 * t.lines
  pub many : length t.kinds ≡ 41
  pub deep : t.deep ≤ 64

pub tally-bounded : (ls : List (List ℕ)) → length ls ≤ 1000000 → Bounded (tally ls)
unfolding tally
tally-bounded ls few = record {
  lines = few;
  ok = count_by-le-length (λ (l : List ℕ). is_accepted (read l)) ls;
  refused = λ k. each-most (length ls) 16 1 k _ (λ n. count_by-le-length (λ (l : List ℕ). is_refused_by n (read l)) ls);
  sixteen = length-each 16 1 _;
  kinds = λ k. each-most (1024 * length ls) 41 0 k _ (λ i.
      let s = sum_by-le (λ (l : List ℕ). rows_of_kind i (read l)) 1024 ls (every _ (kinds-few i) ls) in omega arith);
  many = length-each 41 0 _;
  deep = greatest-most 64 (λ l. levels (read l)) levels-low ls;
}

pub bounded : (t : Counts) → IsTally t → Bounded t
bounded t i = subst Bounded (sym i.is) (tally-bounded i.of i.few)
