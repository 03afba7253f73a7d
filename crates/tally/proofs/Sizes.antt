-- How long a report is.
use mathlib.Core.Path.{◌≡◌}
use mathlib.Core.List.{List, [], ◌∷◌, ◌++◌}
use Prim.Native.Nat.{ℕ, zero, suc, ◌+◌, ◌-◌, ◌*◌, min, ◌≤◌}
use native.Mathlib.Decide.{dec_lt}
use native.Mathlib.Omega.{arith}
use lib.ListN.{length, get_or, length-append}
use Rattle.std.proofs.Math.Nat.{mul-suc}
use Rattle.tokenizer.specs.Text.{bytes}
use Rattle.writer.specs.Digits.{digits}
use Rattle.writer.proofs.DigitLaws.{digits_at_most, digits_few}
use Rattle.tally.specs.Tally.{Counts, count_line, number_line, count_lines, report}
use Rattle.tally.proofs.Bounds.{Bounded}

line-size : (word : List ℕ) (n : ℕ) → length (count_line word n) ≡ length word + length (digits n) + 2
line-size word n =
    let a = length-append word (bytes " " ++ (digits n ++ bytes "\n")) in
    let b = length-append (bytes " ") (digits n ++ bytes "\n") in
    let c = length-append (digits n) (bytes "\n") in
    omega arith

number-size : (word : List ℕ) (i n : ℕ) → length (number_line word i n) ≡ length word + length (digits i) + length (digits n) + 3
number-size word i n =
    let a = length-append word (bytes " " ++ count_line (digits i) n) in
    let b = length-append (bytes " ") (count_line (digits i) n) in
    let c = line-size (digits i) n in
    omega arith

-- Numbers below 10 have a digit less than those below 100.
module _ (word : List ℕ) (d most : ℕ) (enough : length word + d + 5 ≤ most) where
  pub lines-size : (i : ℕ) (ns : List ℕ) → i + length ns ≤ 100 → ((k : ℕ) → length (digits (get_or ns k 0)) ≤ d)
      → length (count_lines word i ns) + min (10 - i) (length ns) ≤ most * length ns
  unfolding count_lines
  lines-size i [] h few = omega arith
  lines-size i (zero ∷ ns) h few =
      let t = lines-size (suc i) ns (omega arith) (λ k. few (suc k)) in
      let m = mul-suc most (length ns) in
      omega arith
  lines-size i (suc n ∷ ns) h few =
      let t = lines-size (suc i) ns (omega arith) (λ k. few (suc k)) in
      let m = mul-suc most (length ns) in
      let f = few 0 in
      let a = length-append (number_line word i (suc n)) (count_lines word (suc i) ns) in
      let s = number-size word i (suc n) in
      elim (dec_lt i 10) [
        | yes l ↦ let e = digits_at_most 0 i (omega arith) in omega arith
        | no l ↦ let e = digits_at_most 1 i (omega arith) in omega arith
      ]

pub report-fits : (t : Counts) → Bounded t → length (report t) ≤ 1024
unfolding report
report-fits t b =
    let lines = digits_at_most 6 t.lines (let l = b.lines in omega arith) in
    let ok = digits_at_most 6 t.ok (let l = b.lines in let k = b.ok in omega arith) in
    let deep = digits_at_most 1 t.deep (let d = b.deep in omega arith) in
    let no = lines-size (bytes "no") 7 14 (omega arith) 1 t.refused (let s = b.sixteen in omega arith) (λ k. digits_at_most 6 (get_or t.refused k 0) (let l = b.lines in let r = b.refused k in omega arith)) in
    let kind = lines-size (bytes "kind") 10 19 (omega arith) 0 t.kinds (let m = b.many in omega arith) (λ k. digits_few (get_or t.kinds k 0) (let l = b.lines in let r = b.kinds k in omega arith)) in
    let s = b.sixteen in
    let m = b.many in
    let a₁ = line-size (bytes "lines") t.lines in
    let a₂ = line-size (bytes "ok") t.ok in
    let a₃ = line-size (bytes "deep") t.deep in
    let l₁ = length-append (count_line (bytes "lines") t.lines) (count_line (bytes "ok") t.ok ++ (count_lines (bytes "no") 1 t.refused ++ (count_lines (bytes "kind") 0 t.kinds ++ count_line (bytes "deep") t.deep))) in
    let l₂ = length-append (count_line (bytes "ok") t.ok) (count_lines (bytes "no") 1 t.refused ++ (count_lines (bytes "kind") 0 t.kinds ++ count_line (bytes "deep") t.deep)) in
    let l₃ = length-append (count_lines (bytes "no") 1 t.refused) (count_lines (bytes "kind") 0 t.kinds ++ count_line (bytes "deep") t.deep) in
    let l₄ = length-append (count_lines (bytes "kind") 0 t.kinds) (count_line (bytes "deep") t.deep) in
    let r₁ : 14 * length t.refused ≡ 224 = omega arith in
    let r₂ : 19 * length t.kinds ≡ 779 = omega arith in
    omega arith
