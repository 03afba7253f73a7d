-- Writing an answer's own bytes: bytes behind bytes, and a head and a newline around a text.
use mathlib.Core.Path.{◌≡◌, ap, ◌∙◌}
use Rattle.std.specs.Prelude.{None}
use mathlib.Core.List.{List, [], ◌∷◌, ◌++◌, append_assoc}
use Prim.Native.Nat.{ℕ, suc, ◌+◌, ◌≤◌, ◌<◌}
use native.Mathlib.Omega.{arith}
use lib.ListN.{length, set, take, drop, length-append, length-drop}
use lib.Seq.{sets, sets-eq, set_split, take-append-add, drop-append-add, drop-drop}
use Rattle.writer.specs.Digits.{digits}
use Rattle.writer.proofs.DigitLaws.{digits_at_most, digits_few}
use Rattle.tokenizer.specs.Answer.{number_of}
use Rattle.tokenizer.specs.declared.refusal.Refusal as R
use Rattle.tokenizer.proofs.Answered.{number_low}
use Rattle.parser.specs.declared.error.ReadError.{ReadError}
use Rattle.parser.specs.Answer.{refusal_in}
use Rattle.answer_line.specs.Line.{no_line, answer_bytes}
use Rattle.writer.specs.declared.Writer.{Writer}
use Rattle.writer.specs.Written.{last_place, written}
use Rattle.writer.proofs.Written.{written_then, written_place, written_sets, written_first}
use Rattle.answer_line.specs.Internal.Steps.{Answers, ok_head, HeadLength, Framed}

-- ---- how many digits the numbers have

pub row_digits : (n : ℕ) → n ≤ 1024 → length (digits n) ≤ 4
row_digits n h = digits_at_most 3 n (omega arith)

pub level_digits : (n : ℕ) → n ≤ 64 → length (digits n) ≤ 2
level_digits n h = digits_at_most 1 n (omega arith)

-- ---- an answer at the start of the output

-- bytes stored at the start
sets_start : (s before : List ℕ) → length s ≤ length before → sets before 0 s ≡ s ++ drop (length s) before
sets_start s before h = sets-eq s before 0 (omega arith) ∙ ap (λ (k : ℕ). s ++ drop k before) (let e : 0 + length s ≡ length s = omega arith in e)

-- what a writer that began there has written
pub line_answers : (p q : Writer) (s : List ℕ) → q ≡ written p s → p.at ≡ 0 → length s ≤ length p.out.now → length p.out.now ≤ last_place → Answers s p.out.now q.at q.out.now
line_answers p q s e start h k =
    record {
      counted = ap (λ (w : Writer). w.at) e ∙ written_place p s (omega arith) ∙ omega arith;
      stored = ap (λ (w : Writer). w.out.now) e ∙ written_first p s start k h;
    }

-- ---- the line of a refusal

-- It fits into an answer.
pub no_short : (e : R.Refusal) → length (no_line (record { number = number_of e; place = None })) ≤ 14
no_short e = let d = digits_few (number_of e) (let n = number_low e in omega arith) in simp length-append (omega arith)

pub no_place_short : (e : ReadError) → e.place ≤ 16384 → length (no_line (refusal_in e)) ≤ 25
unfolding refusal_in
no_place_short e h =
    let d = digits_few (number_of e.refusal) (let n = number_low e.refusal in omega arith) in
    let p = digits_few e.place (omega arith) in
    simp length-append (omega arith)

-- ---- the head of a tree's line

pub head_size : (rows levels : ℕ) → length (ok_head rows levels) ≡ 5 + length (digits rows) + length (digits levels)
unfolding ok_head
head_size rows levels = simp length-append (omega arith)

pub head_short : (rows levels : ℕ) → rows ≤ 1024 → levels ≤ 64 → length (ok_head rows levels) ≤ 11
head_short rows levels h k =
    let l = head_size rows levels in
    let m = row_digits rows h in
    let n = level_digits levels k in
    omega arith

-- ---- the head and the newline around a text

pub framed : (head : List ℕ) (size : ℕ) (before : List ℕ) → length head + size < length before
    → set (sets before 0 head) (length head + size) 10 ≡ head ++ (take size (drop (length head) before) ++ (10 ∷ drop (length head + size + 1) before))
framed head size before h =
    let rest : List ℕ = drop (length head) before in
    let room : length head + size < length (head ++ rest) = rw (length-append head rest, length-drop (length head) before) (omega arith) in
    let next : suc (length head + size) ≡ length head + (size + 1) = omega arith in
    let past : length head + (size + 1) ≡ length head + size + 1 = omega arith in
    ap (λ (l : List ℕ). set l (length head + size) 10) (sets_start head before (omega arith))
    ∙ set_split (head ++ rest) (length head + size) 10 room
    ∙ ap (λ (l : List ℕ). l ++ (10 ∷ drop (suc (length head + size)) (head ++ rest))) (take-append-add head rest size)
    ∙ ap (λ (l : List ℕ). (head ++ take size rest) ++ (10 ∷ l))
    (ap (λ (k : ℕ). drop k (head ++ rest)) next ∙ drop-append-add head rest (size + 1) ∙ drop-drop (size + 1) (length head) before ∙ ap (λ (k : ℕ). drop k before) past)
    ∙ append_assoc head (take size rest) (10 ∷ drop (length head + size + 1) before)

-- what a writer that began at the start has written
module _ (p q : Writer) (rows levels : ℕ) (e : q ≡ written p (ok_head rows levels)) (start : p.at ≡ 0) (few : rows ≤ 1024) (low : levels ≤ 64) where
  pub head_place : HeadLength rows levels q.at
  head_place =
      let s = head_short rows levels few low in
      let k : q.at ≡ p.at + length (ok_head rows levels) = ap (λ (w : Writer). w.at) e ∙ written_place p (ok_head rows levels) (omega arith) in
      record { is = omega arith; short = omega arith }

  pub head_framed : (size : ℕ) (r : Writer) → size ≤ 16384 → answer_bytes ≤ length p.out.now → length p.out.now ≤ last_place → r ≡ written (record q { at = q.at + size }) (10 ∷ [])
      → Framed (ok_head rows levels) size p.out.now r.at r.out.now
  head_framed size r h room most w =
      let s = head_short rows levels few low in
      let k = head_place.is in
      let fits : q.at + size + 1 ≤ last_place = omega arith in
      record {
        place = ap (λ (o : Writer). o.at) w ∙ written_place (record q { at = q.at + size }) (10 ∷ []) fits ∙ omega arith;
        stored =
            ap (λ (o : Writer). o.out.now) w
            ∙ written_sets (record q { at = q.at + size }) (10 ∷ []) fits
            ∙ ap (λ (l : List ℕ). set l (q.at + size) 10) (ap (λ (o : Writer). o.out.now) e ∙ written_sets p (ok_head rows levels) (omega arith))
            ∙ ap (λ (n : ℕ). set (sets p.out.now n (ok_head rows levels)) (q.at + size) 10) start
            ∙ ap (λ (n : ℕ). set (sets p.out.now 0 (ok_head rows levels)) (n + size) 10) k
            ∙ framed (ok_head rows levels) size p.out.now (omega arith);
      }

-- what the functions that write one part behind another cite
pub ruleset line_parts = (written_then, append_assoc)
