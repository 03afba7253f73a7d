-- The report, line by line, and how long it is.
use mathlib.Core.Path.{◌≡◌, refl, sym, ap, ◌∙◌}
use mathlib.Core.List.{List, [], ◌∷◌, ◌++◌, append_assoc, append-nil}
use Prim.Native.Nat.{ℕ, zero, suc, ◌+◌, ◌≤◌, ◌<◌}
use native.Mathlib.Omega.{arith}
use lib.ListN.{length, get_or, take, drop}
use lib.Seq.{take_all}
use Rattle.tokenizer.specs.Text.{bytes}
use Rattle.writer.specs.Digits.{digits}
use Rattle.writer.specs.Written.{written}
use Rattle.writer.specs.declared.Writer.{Writer}
use Rattle.writer.proofs.Written.{written_then, written_none, written_first, written_place}
use Rattle.tally.specs.Tally.{Counts, count_line, number_line, count_lines, report}

-- ---- the lines

module _ (w : Writer) where
  pub rest-written : (n : ℕ) → written (written (written w (32 ∷ [])) (digits n)) (10 ∷ []) ≡ written w (count_line [] n)
  rest-written n =
      ap (λ (v : Writer). written v (10 ∷ [])) (written_then w (32 ∷ []) (digits n))
      ∙ written_then w (32 ∷ digits n) (10 ∷ [])

  pub line-written : (word : List ℕ) (n : ℕ) → written (written w word) (count_line [] n) ≡ written w (count_line word n)
  line-written word n = written_then w word (count_line [] n)

  pub number-written : (word : List ℕ) (i n : ℕ) → written (written (written (written w word) (32 ∷ [])) (digits i)) (count_line [] n) ≡ written w (number_line word i n)
  number-written word i n =
      written_then (written (written w word) (32 ∷ [])) (digits i) (count_line [] n)
      ∙ written_then (written w word) (32 ∷ []) (count_line (digits i) n)
      ∙ written_then w word (bytes " " ++ count_line (digits i) n)

pub ruleset line_steps = (rest-written, line-written)

-- a count of 0 has no line
pub numbered-none : (w : Writer) (word : List ℕ) (i n : ℕ) → n ≡ 0 → w ≡ written w (count_lines word i (n ∷ []))
unfolding count_lines
numbered-none w word i n z = sym (ap (λ (k : ℕ). written w (count_lines word i (k ∷ []))) z ∙ written_none w)

pub numbered-line : (w : Writer) (word : List ℕ) (i n : ℕ) → (n ≡ 0 → ⊥) → written (written (written (written w word) (32 ∷ [])) (digits i)) (count_line [] n) ≡ written w (count_lines word i (n ∷ []))
unfolding count_lines
numbered-line w word i zero some = absurd (some refl)
numbered-line w word i (suc n) some = number-written w word i (suc n) ∙ ap (written w) (sym (append-nil (number_line word i (suc n))))

pub ruleset number_steps = (numbered-none, numbered-line)

-- ---- a line for each count

lines-next : (word : List ℕ) (first : ℕ) (counts : List ℕ) (i : ℕ) → i < length counts
    → count_lines word first (take (suc i) counts) ≡ count_lines word first (take i counts) ++ count_lines word (first + i) (get_or counts i 0 ∷ [])
unfolding count_lines
lines-next word first [] i h = absurd (omega arith)
lines-next word first (zero ∷ ns) zero h = refl
lines-next word first (suc n ∷ ns) zero h = let e : first + 0 ≡ first = omega arith in ap (λ (k : ℕ). number_line word k (suc n) ++ []) (sym e)
lines-next word first (zero ∷ ns) (suc i) h =
    let e : suc first + i ≡ first + suc i = omega arith in
    lines-next word (suc first) ns i (omega arith) ∙ ap (λ (k : ℕ). count_lines word (suc first) (take i ns) ++ count_lines word k (get_or ns i 0 ∷ [])) e
lines-next word first (suc n ∷ ns) (suc i) h =
    let e : suc first + i ≡ first + suc i = omega arith in
    let m : List ℕ = number_line word first (suc n) in
    ap (λ (l : List ℕ). m ++ l) (lines-next word (suc first) ns i (omega arith) ∙ ap (λ (k : ℕ). count_lines word (suc first) (take i ns) ++ count_lines word k (get_or ns i 0 ∷ [])) e)
    ∙ sym (append_assoc m (count_lines word (suc first) (take i ns)) (count_lines word (first + suc i) (get_or ns i 0 ∷ [])))

-- So many counts are written, and the number is the next one's.
pub record Reached (w : Writer) (word : List ℕ) (first : ℕ) (counts : List ℕ) (i number : ℕ) (w' : Writer) : Type 0 where
  pub next : number ≡ first + i
  pub lines : w' ≡ written w (count_lines word first (take i counts))

module _ (w : Writer) (word : List ℕ) (first : ℕ) (counts : List ℕ) where
  pub reached-start : Reached w word first counts 0 first w
  unfolding count_lines
  reached-start = record { next = omega arith; lines = sym (written_none w) }

  module _ (i number : ℕ) (w' : Writer) (r : Reached w word first counts i number w') where
    pub reached-next : (w'' : Writer) → i < length counts → w'' ≡ written w' (count_lines word number (get_or counts i 0 ∷ [])) → Reached w word first counts (i + 1) (number + 1) w''
    reached-next w'' h e =
        let s : suc i ≡ i + 1 = omega arith in
        let n = r.next in
        record {
          next = omega arith;
          lines =
              e
              ∙ ap (λ (v : Writer). written v (count_lines word number (get_or counts i 0 ∷ []))) r.lines
              ∙ written_then w (count_lines word first (take i counts)) (count_lines word number (get_or counts i 0 ∷ []))
              ∙ ap (λ (k : ℕ). written w (count_lines word first (take i counts) ++ count_lines word k (get_or counts i 0 ∷ []))) r.next
              ∙ ap (written w) (sym (lines-next word first counts i h))
              ∙ ap (λ (k : ℕ). written w (count_lines word first (take k counts))) s;
        }

  pub reached-all : (i number : ℕ) (w' : Writer) → Reached w word first counts i number w' → length counts ≤ i → w' ≡ written w (count_lines word first counts)
  reached-all i number w' r h = r.lines ∙ ap (λ (l : List ℕ). written w (count_lines word first l)) (take_all i counts h)

pub ruleset lines_steps = (reached-start, reached-next, reached-all)

-- ---- the whole report

module _ (w w₁ w₂ w₃ w₄ w₅ : Writer) (a b c d e : List ℕ) where
  five-written : w₁ ≡ written w a → w₂ ≡ written w₁ b → w₃ ≡ written w₂ c → w₄ ≡ written w₃ d → w₅ ≡ written w₄ e → w₅ ≡ written w (a ++ (b ++ (c ++ (d ++ e))))
  five-written p q r s t =
      t
      ∙ ap (λ (v : Writer). written v e) s
      ∙ written_then w₃ d e
      ∙ ap (λ (v : Writer). written v (d ++ e)) r
      ∙ written_then w₂ c (d ++ e)
      ∙ ap (λ (v : Writer). written v (c ++ (d ++ e))) q
      ∙ written_then w₁ b (c ++ (d ++ e))
      ∙ ap (λ (v : Writer). written v (b ++ (c ++ (d ++ e)))) p
      ∙ written_then w a (b ++ (c ++ (d ++ e)))

pub report-written : (w w₁ w₂ w₃ w₄ w₅ : Writer) (t : Counts) → w₁ ≡ written w (count_line (bytes "lines") t.lines) → w₂ ≡ written w₁ (count_line (bytes "ok") t.ok)
    → w₃ ≡ written w₂ (count_lines (bytes "no") 1 t.refused) → w₄ ≡ written w₃ (count_lines (bytes "kind") 0 t.kinds) → w₅ ≡ written w₄ (count_line (bytes "deep") t.deep)
    → w₅ ≡ written w (report t)
unfolding report
report-written w w₁ w₂ w₃ w₄ w₅ t = five-written w w₁ w₂ w₃ w₄ w₅ _ _ _ _ _

module _ (w w' : Writer) (s : List ℕ) (e : w' ≡ written w s) where
  pub same-lent : w'.out.ghost_name ≡ w.out.ghost_name
  unfolding written
  same-lent = ap (λ (v : Writer). v.out.ghost_name) e

  module _ (start : w.at ≡ 0) (size : length w.out.now ≡ 1024) (fits : length s ≤ 1024) where
    pub placed-size : w'.at ≡ length s
    placed-size = ap (λ (v : Writer). v.at) e ∙ written_place w s (omega arith) ∙ omega arith

    pub placed-bytes : w'.out.now ≡ s ++ drop (length s) w.out.now
    placed-bytes = ap (λ (v : Writer). v.out.now) e ∙ written_first w s start (omega arith) (omega arith)
