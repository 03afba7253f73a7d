-- The words of half rows, by their places.
use mathlib.Core.Path.{◌≡◌, refl, sym, ap, ◌∙◌}
use mathlib.Core.List.{List, ◌∷◌}
use Prim.Native.Nat.{ℕ, zero, suc, ◌+◌, ◌*◌, ◌-◌, ◌/◌, ◌^◌, ◌≤◌, ◌<◌}
use native.Mathlib.Omega.{arith}
use lib.ListN.{length, take, drop, get_or}
use Rattle.std.proofs.lemmas.List.{length-append, length-take, length-drop, get_or_append_left, get_or-append_right, get_or-take, get_or-drop, drop-drop}
use Rattle.datatype.specs.Table.{row_words, word_at}
use Rattle.half_rows.specs.HalfRows.{half_words, words_of_halves, unhalved_rows, unhalved}

-- ---- one row

module _ (hs : List ℕ) (long : half_words ≤ length hs) where
  abbrev own : List ℕ
  own = take half_words hs

  abbrev behind : List ℕ
  behind = (get_or own 4 0 + 2 ^ 16 * get_or own 5 0) ∷ drop 6 own

  own-long : length own ≡ half_words
  own-long = omega (arith, length-take half_words hs)

  four : length (take 4 own) ≡ 4
  four = omega (arith, length-take 4 own, own-long)

  pub row-long : length (words_of_halves own) ≡ row_words
  row-long = omega (arith, length-append (take 4 own) behind, four, length-drop 6 own, own-long)

  pub row-low : (k : ℕ) → k < 4 → get_or (words_of_halves own) k 0 ≡ get_or hs k 0
  row-low k h = get_or_append_left (take 4 own) behind 0 k (omega (arith, four)) ∙ get_or-take 4 own k 0 h ∙ get_or-take half_words hs k 0 (omega arith)

  pub row-four : get_or (words_of_halves own) 4 0 ≡ get_or hs 4 0 + 2 ^ 16 * get_or hs 5 0
  row-four =
      get_or-append_right (take 4 own) behind 4 4 0 four (omega arith)
      ∙ (λ j. get_or-take half_words hs 4 0 (omega arith) j + 2 ^ 16 * get_or-take half_words hs 5 0 (omega arith) j)

  pub row-high : (k : ℕ) → k < 7 → get_or (words_of_halves own) (5 + k) 0 ≡ get_or hs (6 + k) 0
  row-high k h =
      get_or-append_right (take 4 own) behind 4 (5 + k) 0 four (omega arith)
      ∙ ap (λ (i : ℕ). get_or behind i 0) place
      ∙ get_or-drop 6 own k 0
      ∙ get_or-take half_words hs (6 + k) 0 (omega arith)
    where
      place : 5 + k - 4 ≡ suc k
      place = omega arith

-- ---- many rows

pub unhalved-long : (n : ℕ) (hs : List ℕ) → half_words * n ≤ length hs → length (unhalved_rows n hs) ≡ row_words * n
unhalved-long zero hs h = refl
unhalved-long (suc n) hs h =
    let d = length-drop half_words hs in
    omega (arith, length-append (words_of_halves (take half_words hs)) (unhalved_rows n (drop half_words hs)), row-long hs (omega arith), unhalved-long n (drop half_words hs) (omega arith))

-- word k of row i is that of its thirteen half words
pub row-word : (n : ℕ) (hs : List ℕ) (i k : ℕ) → half_words * n ≤ length hs → i < n → k < row_words
    → get_or (unhalved_rows n hs) (row_words * i + k) 0 ≡ get_or (words_of_halves (take half_words (drop (half_words * i) hs))) k 0
row-word zero hs i k h l m = absurd (omega arith)
row-word (suc n) hs zero k h l m =
    ap (λ (j : ℕ). get_or (unhalved_rows (suc n) hs) j 0) first
    ∙ get_or_append_left (words_of_halves (take half_words hs)) (unhalved_rows n (drop half_words hs)) 0 k (omega (arith, row-long hs (omega arith)))
    ∙ ap (λ (j : ℕ). get_or (words_of_halves (take half_words (drop j hs))) k 0) none
  where
    first : row_words * 0 + k ≡ k
    first = omega arith

    none : 0 ≡ half_words * 0
    none = omega arith
row-word (suc n) hs (suc i) k h l m =
    let d = length-drop half_words hs in
    get_or-append_right (words_of_halves (take half_words hs)) (unhalved_rows n (drop half_words hs)) row_words (row_words * suc i + k) 0 (row-long hs (omega arith)) (omega arith)
    ∙ ap (λ (j : ℕ). get_or (unhalved_rows n (drop half_words hs)) j 0) (omega arith)
    ∙ row-word n (drop half_words hs) i k (omega arith) (omega arith) m
    ∙ ap (λ (s : List ℕ). get_or (words_of_halves (take half_words s)) k 0) (drop-drop (half_words * i) half_words hs ∙ ap (λ (j : ℕ). drop j hs) (omega arith))

-- ---- a table of them

module _ (hs : List ℕ) where
  abbrev rows : ℕ
  rows = length hs / half_words

  pub table-long : length (unhalved hs) ≡ row_words * rows
  unfolding unhalved
  table-long = unhalved-long rows hs (omega arith)

  pub table-count : length hs / half_words ≡ length (unhalved hs) / row_words
  table-count = omega (arith, table-long)

  pub row-there : (i : ℕ) → row_words * (i + 1) ≤ length (unhalved hs) → half_words * (i + 1) ≤ length hs
  row-there i h = omega (arith, table-long)

  module _ (i : ℕ) (h : row_words * (i + 1) ≤ length (unhalved hs)) where
    part-long : half_words ≤ length (drop (half_words * i) hs)
    part-long = omega (arith, length-drop (half_words * i) hs, row-there i h)

    word-is : (k : ℕ) → k < row_words → word_at (unhalved hs) i k ≡ get_or (words_of_halves (take half_words (drop (half_words * i) hs))) k 0
    unfolding unhalved
    word-is k m = row-word rows hs i k (omega arith) (omega (arith, row-there i h)) m

    pub word-low : (k : ℕ) → k < 4 → word_at (unhalved hs) i k ≡ get_or hs (half_words * i + k) 0
    word-low k m = word-is k (omega arith) ∙ row-low (drop (half_words * i) hs) part-long k m ∙ get_or-drop (half_words * i) hs k 0

    pub word-four : (k : ℕ) → k ≡ 4 → word_at (unhalved hs) i k ≡ get_or hs (half_words * i + k) 0 + 65536 * get_or hs (half_words * i + k + 1) 0
    word-four k e =
        ap (λ (m : ℕ). word_at (unhalved hs) i m) e
        ∙ word-is 4 (omega arith)
        ∙ row-four (drop (half_words * i) hs) part-long
        ∙ (λ j. get_or-drop (half_words * i) hs 4 0 j + 65536 * get_or-drop (half_words * i) hs 5 0 j)
        ∙ (λ j. get_or hs (half_words * i + sym e j) 0 + 65536 * get_or hs (five j) 0)
      where
        five : half_words * i + 5 ≡ half_words * i + k + 1
        five = omega arith

    pub word-high : (k : ℕ) → 4 < k → k < row_words → word_at (unhalved hs) i k ≡ get_or hs (half_words * i + k + 1) 0
    word-high k l m =
        ap (λ (n : ℕ). word_at (unhalved hs) i n) here
        ∙ word-is (5 + (k - 5)) (omega arith)
        ∙ row-high (drop (half_words * i) hs) part-long (k - 5) (omega arith)
        ∙ get_or-drop (half_words * i) hs (6 + (k - 5)) 0
        ∙ ap (λ (j : ℕ). get_or hs j 0) there
      where
        here : k ≡ 5 + (k - 5)
        here = omega arith

        there : half_words * i + (6 + (k - 5)) ≡ half_words * i + k + 1
        there = omega arith

pub place : (hs : List ℕ) (i k : ℕ) → row_words * (i + 1) ≤ length (unhalved hs) → k < row_words → half_words * i + k + 1 < length hs
place hs i k h l = omega (arith, row-there hs i h)

pub ruleset counted = (table-count, table-long)

pub ruleset worded = (row-there, word-low, word-four, word-high)
