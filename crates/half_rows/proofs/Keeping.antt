-- Rows written in halves, and back.
use mathlib.Core.Path.{◌≡◌, refl, sym, ap, ◌∙◌}
use mathlib.Core.Bool.{true, false}
use mathlib.Core.List.{List, [], ◌∷◌, ◌++◌}
use borrow.Author.Tests.{lt-leb, le-leb, eq-eqb, ne_eqb}
use Prim.Native.Nat.{ℕ, zero, suc, ◌+◌, ◌*◌, ◌-◌, ◌/◌, ◌%◌, ◌≤◌, ◌<◌}
use native.Mathlib.Omega.{arith}
use lib.ListN.{length, take, drop, get_or}
use lib.Seq.{sets, sets-eq, length-sets, drop-cons, take_all, take-add}
use borrow.Rule.Slice.PartMut.{put_mid}
use Rattle.std.proofs.lemmas.Slice.{put_mid-paste}
use Rattle.std.proofs.lemmas.List.{length-append, length-take, length-drop, append-nil, append_assoc, drop-drop}
use Rattle.datatype.proofs.Sets.{sets_append}
use Rattle.datatype.specs.Table.{row_words}
use Rattle.std.proofs.Common.{◌≢◌, nat_eq, nat_le}
use Rattle.tokenizer.specs.Answer.{refuse, done}
use Rattle.row_table.specs.Sound.{is_sound}
use Rattle.half_rows.proofs.HalfLaws.{table-long}
use Rattle.half_rows.specs.HalfRows.{half_words, halves_of, halved_rows, halved, unhalved, to_halves, from_halves, half_rows_answer, half_rows_words, wide_rows_answer, wide_rows_words}
use Rattle.half_rows.specs.Internal.Small.{row_of_words}

-- ---- a row of a table

-- So many elements from a place on, one by one.
abbrev pub elements : ℕ → ℕ → ℕ → List ℕ → List ℕ
elements zero base k t = []
elements (suc n) base k t = get_or t (base + k) 0 ∷ elements n base (suc k) t

pub cut : (n base k : ℕ) (t : List ℕ) → base + (k + n) ≤ length t → take n (drop (base + k) t) ≡ elements n base k t
cut zero base k t h = refl
cut (suc n) base k t h =
    let next : suc (base + k) ≡ base + suc k = omega arith in
    ap (take (suc n)) (drop-cons t (base + k) 0 (omega arith))
    ∙ ap (λ (s : List ℕ). get_or t (base + k) 0 ∷ s) (ap (λ (m : ℕ). take n (drop m t)) next ∙ cut n base (suc k) t (omega arith))

-- Row i's words are the i-th twelve of a table's.
pub row-cut : (table : List ℕ) (i : ℕ) → row_words * (i + 1) ≤ length table → take row_words (drop (row_words * i) table) ≡ row_of_words table i
row-cut table i h =
    let first : row_words * i ≡ row_words * i + 0 = omega arith in
    ap (λ (m : ℕ). take row_words (drop m table)) first ∙ cut 12 (row_words * i) 0 table (omega arith)

-- One row more in halves.
more : (n : ℕ) (table : List ℕ) → halved_rows (suc n) table ≡ halved_rows n table ++ halves_of (take row_words (drop (row_words * n) table))
more zero table = append-nil (halves_of (take row_words table))
more (suc n) table =
    let place : row_words + row_words * n ≡ row_words * suc n = omega arith in
    ap (λ (s : List ℕ). halves_of (take row_words table) ++ s) (more n (drop row_words table) ∙ ap (λ (s : List ℕ). halved_rows n (drop row_words table) ++ halves_of (take row_words s)) (drop-drop (row_words * n) row_words table ∙ ap (λ (m : ℕ). drop m table) place))
    ∙ sym (append_assoc (halves_of (take row_words table)) _ _)

pub halved-more : (n : ℕ) (table : List ℕ) → row_words * (n + 1) ≤ length table → halved_rows (n + 1) table ≡ halved_rows n table ++ halves_of (row_of_words table n)
halved-more n table h =
    let next : n + 1 ≡ suc n = omega arith in
    ap (λ (m : ℕ). halved_rows m table) next ∙ more n table ∙ ap (λ (ws : List ℕ). halved_rows n table ++ halves_of ws) (row-cut table n h)

-- ---- rows written one behind the other

-- What a copy leaves.
pub copied : (before s part : List ℕ) (at : ℕ) → at + length s ≤ length before → part ≡ s → put_mid at (at + length s - at) before part ≡ sets before at s
copied before s part at f e =
    let k : length s ≡ at + length s - at = omega arith in
    put_mid-paste at (at + length s - at) before part s (length s) e k refl
    ∙ ap (λ (t : List ℕ). take at before ++ t ++ drop (at + length s) before) (take_all (length s) s (omega arith))
    ∙ sym (sets-eq s before at f)

pub own-long : (ws : List ℕ) → length ws ≡ row_words → length (halves_of ws) ≡ half_words
own-long ws h =
    omega (arith, length-append (take 4 ws) (get_or ws 4 0 % 65536 ∷ get_or ws 4 0 / 65536 ∷ drop 5 ws), length-take 4 ws, length-drop 5 ws)

pub halved-long : (n : ℕ) (table : List ℕ) → row_words * n ≤ length table → length (halved_rows n table) ≡ half_words * n
halved-long zero table h = refl
halved-long (suc n) table h =
    let own : length (halves_of (take row_words table)) ≡ half_words = own-long (take row_words table) (omega (arith, length-take row_words table)) in
    omega (arith, length-append (halves_of (take row_words table)) (halved_rows n (drop row_words table)), own, halved-long n (drop row_words table) (omega (arith, length-drop row_words table)))

-- A part written behind those that stand.
pub one_more : (w i : ℕ) (before buffer part row so-far : List ℕ) → buffer ≡ sets before 0 so-far → length so-far ≡ w * i → part ≡ row → length row ≡ w → w * i + w ≤ length before
    → put_mid (w * i) (w * i + w - w * i) buffer part ≡ sets before 0 (so-far ++ row)
one_more w i before buffer part row so-far e n p l f =
    let fits : w * i + length row ≤ length buffer = omega (arith, ap length e, length-sets before 0 so-far) in
    let place : 0 + length so-far ≡ w * i = omega arith in
    ap (λ (m : ℕ). put_mid (w * i) (w * i + m - w * i) buffer part) (sym l)
    ∙ copied buffer row part (w * i) fits p
    ∙ ap (λ (s : List ℕ). sets s (w * i) row) e
    ∙ ap (λ (m : ℕ). sets (sets before 0 so-far) m row) (sym place)
    ∙ sets_append before 0 so-far row

-- One row more of a table.
pub taken-more : (table : List ℕ) (i : ℕ) → row_words * (i + 1) ≤ length table → take (row_words * (i + 1)) table ≡ take (row_words * i) table ++ row_of_words table i
taken-more table i h =
    let next : row_words * (i + 1) ≡ row_words * i + row_words = omega arith in
    ap (λ (m : ℕ). take m table) next ∙ take-add (row_words * i) row_words table ∙ ap (λ (s : List ℕ). take (row_words * i) table ++ s) (row-cut table i h)

pub taken-long : (halves : List ℕ) (i : ℕ) → row_words * i ≤ length (unhalved halves) → length (take (row_words * i) (unhalved halves)) ≡ row_words * i
taken-long halves i h = omega (arith, length-take (row_words * i) (unhalved halves))

pub sets-front : (s before : List ℕ) → length s ≤ length before → sets before 0 s ≡ s ++ drop (length s) before
sets-front s before h =
    let none : 0 + length s ≡ length s = omega arith in
    sets-eq s before 0 (omega arith) ∙ ap (λ (m : ℕ). s ++ drop m before) none

-- ---- into halves

pub table-halved-long : (table : List ℕ) → length (halved table) ≡ half_words * (length table / row_words)
unfolding halved
table-halved-long table = halved-long (length table / row_words) table (omega arith)

module _ (text names table before : List ℕ) where
  pub to-unsound : is_sound text names table ≡ false → (half_rows_answer text names table before ≡ refuse 17) × (half_rows_words text names table before ≡ before)
  unfolding half_rows_answer half_rows_words to_halves
  to-unsound e = (rw e, rw e)

  module _ (sound : is_sound text names table ≡ true) where
    pub to-full : length before / half_words < length table / row_words → (half_rows_answer text names table before ≡ refuse 28) × (half_rows_words text names table before ≡ before)
    unfolding half_rows_answer half_rows_words to_halves
    to-full h =
        let e : nat_le (length (halved table)) (length before) ≡ false = lt-leb _ _ (omega (arith, table-halved-long table)) in
        (rw (sound, e), rw (sound, e))

    module _ (room : length table / row_words ≤ length before / half_words) where
      fits : nat_le (length (halved table)) (length before) ≡ true
      fits = le-leb _ _ (omega (arith, table-halved-long table))

      pub to-answer : half_rows_answer text names table before ≡ done (length table / row_words)
      unfolding half_rows_answer to_halves
      to-answer = let n : length (halved table) / half_words ≡ length table / row_words = omega (arith, table-halved-long table) in rw (sound, fits, n)

      pub left-words : half_rows_words text names table before ≡ halved table ++ drop (length (halved table)) before
      unfolding half_rows_words to_halves
      left-words = rw (sound, fits)

      pub to-words : sets before 0 (halved_rows (length table / row_words) table) ≡ half_rows_words text names table before
      unfolding halved
      to-words = sets-front (halved table) before (omega (arith, table-halved-long table)) ∙ sym left-words

-- ---- back

module _ (text names halves before : List ℕ) where
  abbrev table : List ℕ
  table = unhalved halves

  pub from-left : length halves ≢ half_words * (length halves / half_words) → (wide_rows_answer text names halves before ≡ refuse 17) × (wide_rows_words text names halves before ≡ before)
  unfolding wide_rows_answer wide_rows_words from_halves
  from-left h = let e = ne_eqb _ _ h in (rw e, rw e)

  module _ (whole : length halves ≡ half_words * (length halves / half_words)) where
    thirteens : nat_eq (length halves) (half_words * (length halves / half_words)) ≡ true
    thirteens = eq-eqb _ _ whole

    pub from-unsound : is_sound text names table ≡ false → (wide_rows_answer text names halves before ≡ refuse 17) × (wide_rows_words text names halves before ≡ before)
    unfolding wide_rows_answer wide_rows_words from_halves
    from-unsound e = (rw (thirteens, e), rw (thirteens, e))

    module _ (sound : is_sound text names table ≡ true) where
      pub from-full : length before / row_words < length halves / half_words → (wide_rows_answer text names halves before ≡ refuse 28) × (wide_rows_words text names halves before ≡ before)
      unfolding wide_rows_answer wide_rows_words from_halves
      from-full h =
          let e : nat_le (length table) (length before) ≡ false = lt-leb _ _ (omega (arith, table-long halves)) in
          (rw (thirteens, sound, e), rw (thirteens, sound, e))

      module _ (room : length halves / half_words ≤ length before / row_words) where
        holds : nat_le (length table) (length before) ≡ true
        holds = le-leb _ _ (omega (arith, table-long halves))

        pub from-answer : wide_rows_answer text names halves before ≡ done (length halves / half_words)
        unfolding wide_rows_answer from_halves
        from-answer = let n : length table / row_words ≡ length halves / half_words = omega (arith, table-long halves) in rw (thirteens, sound, holds, n)

        pub back-words : wide_rows_words text names halves before ≡ table ++ drop (length table) before
        unfolding wide_rows_words from_halves
        back-words = rw (thirteens, sound, holds)

        pub from-words : sets before 0 (take (row_words * (length halves / half_words)) table) ≡ wide_rows_words text names halves before
        from-words =
            ap (λ (s : List ℕ). sets before 0 s) (take_all (row_words * (length halves / half_words)) table (omega (arith, table-long halves)))
            ∙ sets-front table before (omega (arith, table-long halves))
            ∙ sym back-words

pub ruleset row_steps = (row-cut, halved-more)

pub ruleset wide_steps = (row-cut, halved-more)
