-- There and back again.
--   there-and-back   a table in halves, brought back, is the table
--   back-and-there   half words brought back are kept as they were
use mathlib.Core.Path.{◌≡◌, refl, sym, ap, ◌∙◌, subst}
use mathlib.Core.Bool.{Bool, true, false}
use mathlib.Core.Logic.{◌⊎◌, inl, inr}
use mathlib.Core.List.{List, [], ◌∷◌, ◌++◌}
use Rattle.std.proofs.lemmas.Bool.{cases_lt, cases_eq}
use Prim.Native.Nat.{ℕ, zero, suc, ◌+◌, ◌*◌, ◌/◌, ◌%◌, ◌≤◌, ◌<◌}
use native.Mathlib.Omega.{arith}
use lib.ListN.{length, take, drop, get_or}
use lib.Seq.{sets, take_at, drop_at, take_all}
use lib.Dec.{T}
use Rattle.std.proofs.Common.{All, ◌≢◌}
use Rattle.std.proofs.lemmas.List.{length-take, length-drop, take-append-drop, get_or-take}
use Rattle.std.proofs.lemmas.List.Elements.{All-get_or, All-drop}
use Rattle.tokenizer.proofs.Basics.{is_true}
use Rattle.tokenizer.specs.Answer.{refuse, done, Out}
use Rattle.datatype.specs.Table.{row_words}
use Rattle.row_table.specs.Sound.{is_sound}
use Rattle.row_table.proofs.SoundTree.{sound_tree, sound-count}
use Rattle.half_rows.specs.HalfRows.{half, half_words, halves_of, words_of_halves, halved_rows, unhalved_rows, halved, unhalved, half_rows_answer, half_rows_words, wide_rows_answer, wide_rows_words}
use Rattle.half_rows.specs.Laws.{ComesBack, KeptAlike, KeepsAgain, BringsSound}
use Rattle.half_rows.proofs.HalfLaws.{row-long, unhalved-long, table-long}
use Rattle.half_rows.proofs.Keeping.{cut, own-long, halved-long, table-halved-long, sets-front, to-unsound, to-full, to-answer, left-words, from-left, from-unsound, from-full, from-answer, back-words, from-words}

-- ---- one row

there : (a b c d e f g h i j k l : ℕ) → words_of_halves (halves_of (a ∷ b ∷ c ∷ d ∷ e ∷ f ∷ g ∷ h ∷ i ∷ j ∷ k ∷ l ∷ [])) ≡ a ∷ b ∷ c ∷ d ∷ e ∷ f ∷ g ∷ h ∷ i ∷ j ∷ k ∷ l ∷ []
there a b c d e f g h i j k l =
    let joined : e % half + half * (e / half) ≡ e = omega arith in
    ap (λ (x : ℕ). a ∷ b ∷ c ∷ d ∷ x ∷ f ∷ g ∷ h ∷ i ∷ j ∷ k ∷ l ∷ []) joined

row-there : (ws : List ℕ) → length ws ≡ row_words → words_of_halves (halves_of ws) ≡ ws
row-there ws n =
    let whole = sym (take_all 12 ws (omega arith)) ∙ cut 12 0 0 ws (omega arith) in
    ap (λ (s : List ℕ). words_of_halves (halves_of s)) whole ∙ there _ _ _ _ _ _ _ _ _ _ _ _ ∙ sym whole

back : (a b c d e f g h i j k l m : ℕ) → e < half → halves_of (words_of_halves (a ∷ b ∷ c ∷ d ∷ e ∷ f ∷ g ∷ h ∷ i ∷ j ∷ k ∷ l ∷ m ∷ [])) ≡ a ∷ b ∷ c ∷ d ∷ e ∷ f ∷ g ∷ h ∷ i ∷ j ∷ k ∷ l ∷ m ∷ []
back a b c d e f g h i j k l m small =
    let low : (e + half * f) % half ≡ e = omega arith in
    let high : (e + half * f) / half ≡ f = omega arith in
    (λ n. a ∷ b ∷ c ∷ d ∷ low n ∷ high n ∷ g ∷ h ∷ i ∷ j ∷ k ∷ l ∷ m ∷ [])

row-back : (hs : List ℕ) → length hs ≡ half_words → get_or hs 4 0 < half → halves_of (words_of_halves hs) ≡ hs
row-back hs n small =
    let whole = sym (take_all 13 hs (omega arith)) ∙ cut 13 0 0 hs (omega arith) in
    ap (λ (s : List ℕ). halves_of (words_of_halves s)) whole ∙ back _ _ _ _ _ _ _ _ _ _ _ _ _ small ∙ sym whole

-- ---- a table

rows-there : (n : ℕ) (table : List ℕ) → length table ≡ row_words * n → unhalved_rows n (halved_rows n table) ≡ table
rows-there zero [] h = refl
rows-there zero (w ∷ ws) h = absurd (omega arith)
rows-there (suc n) table h =
    let own = take row_words table in
    let long : length own ≡ row_words = omega (arith, length-take row_words table) in
    let rest = halved_rows n (drop row_words table) in
    let kept = own-long own long in
    rw (take_at (halves_of own) rest half_words kept, drop_at (halves_of own) rest half_words kept, row-there own long, rows-there n (drop row_words table) (omega (arith, length-drop row_words table)))
    (take-append-drop row_words table)

rows-back : (n : ℕ) (hs : List ℕ) → length hs ≡ half_words * n → All (λ h. h < half) hs → halved_rows n (unhalved_rows n hs) ≡ hs
rows-back zero [] h small = refl
rows-back zero (w ∷ ws) h small = absurd (omega arith)
rows-back (suc n) hs h small =
    let own = take half_words hs in
    let long : length own ≡ half_words = omega (arith, length-take half_words hs) in
    let rest = unhalved_rows n (drop half_words hs) in
    let wide = row-long hs (omega arith) in
    let low : get_or own 4 0 < half = subst (λ (x : ℕ). x < half) (sym (get_or-take half_words hs 4 0 (omega arith))) (All-get_or (λ (x : ℕ). x < half) hs 4 0 (omega arith) small) in
    rw (take_at (words_of_halves own) rest row_words wide, drop_at (words_of_halves own) rest row_words wide, row-back own long low, rows-back n (drop half_words hs) (omega (arith, length-drop half_words hs)) (All-drop (λ (x : ℕ). x < half) half_words hs small))
    (take-append-drop half_words hs)

-- ---- as contracts say it

pub there-and-back : (text names table : List ℕ) → T (is_sound text names table) → unhalved (halved table) ≡ table
unfolding halved unhalved
there-and-back text names table t =
    let s = sound_tree text names table t in
    let n = sound-count text names table s in
    let rows : length (halved_rows (length table / row_words) table) / half_words ≡ length table / row_words = omega (arith, halved-long (length table / row_words) table (omega arith)) in
    ap (λ (m : ℕ). unhalved_rows m (halved_rows (length table / row_words) table)) rows ∙ rows-there (length table / row_words) table (omega arith)

pub back-and-there : (halves : List ℕ) → length halves ≡ half_words * (length halves / half_words) → All (λ h. h < half) halves → halved (unhalved halves) ≡ halves
unfolding halved unhalved
back-and-there halves whole small =
    let rows : length (unhalved_rows (length halves / half_words) halves) / row_words ≡ length halves / half_words = omega (arith, unhalved-long (length halves / half_words) halves (omega arith)) in
    ap (λ (m : ℕ). halved_rows m (unhalved_rows (length halves / half_words) halves)) rows ∙ rows-back (length halves / half_words) halves whole small

pub kept-alike : (text names table : List ℕ) → KeptAlike text names table
kept-alike text names table text' names' table' t u e = sym (there-and-back text names table t) ∙ ap unhalved e ∙ there-and-back text' names' table' u

-- half words that a sound tree was kept in, brought back
brought : (text names kept table rows : List ℕ) → unhalved kept ≡ table → length kept ≡ half_words * (length kept / half_words) → is_sound text names table ≡ true → length table ≤ length rows
    → (wide_rows_answer text names kept rows ≡ done (length kept / half_words)) × (wide_rows_words text names kept rows ≡ table ++ drop (length table) rows)
brought text names kept table rows e whole sound room =
    let s : is_sound text names (unhalved kept) ≡ true = ap (is_sound text names) e ∙ sound in
    let long = table-long kept in
    let same = ap length e in
    let f : length kept / half_words ≤ length rows / row_words = omega arith in (
      from-answer text names kept rows whole s f,
      sym (from-words text names kept rows whole s f)
          ∙ ap (λ (ws : List ℕ). sets rows 0 ws) (take_all (row_words * (length kept / half_words)) (unhalved kept) (omega arith) ∙ e)
          ∙ sets-front table rows room,
    )

-- what the first call left brings the tree back
module _ (text names table halves : List ℕ) where
  abbrev Comes : Out ℕ → List ℕ → Type 0
  Comes answer words = ComesBack text names table answer words

  none-left : (e : is_sound text names table ≡ false) → Comes (half_rows_answer text names table halves) (half_rows_words text names table halves)
  none-left e = subst (λ (o : Out ℕ). Comes o (half_rows_words text names table halves)) (sym (to-unsound text names table halves e).0) tt

  module _ (sound : is_sound text names table ≡ true) where
    n-is : length table ≡ row_words * (length table / row_words)
    n-is = let s = sound_tree text names table (subst T (sym sound) tt) in omega (arith, sound-count text names table s)

    no-room : length halves / half_words < length table / row_words → Comes (half_rows_answer text names table halves) (half_rows_words text names table halves)
    no-room h = subst (λ (o : Out ℕ). Comes o (half_rows_words text names table halves)) (sym (to-full text names table halves sound h).0) tt

    kept-front : length table / row_words ≤ length halves / half_words → take (half_words * (length table / row_words)) (half_rows_words text names table halves) ≡ halved table
    kept-front h =
        ap (λ (ws : List ℕ). take (half_words * (length table / row_words)) ws) (left-words text names table halves sound h)
        ∙ take_at (halved table) (drop (length (halved table)) halves) (half_words * (length table / row_words)) (table-halved-long table)

    with-room : length table / row_words ≤ length halves / half_words → Comes (half_rows_answer text names table halves) (half_rows_words text names table halves)
    with-room h = subst (λ (o : Out ℕ). Comes o (half_rows_words text names table halves)) (sym (to-answer text names table halves sound h)) all
      where
        all : Comes (done (length table / row_words)) (half_rows_words text names table halves)
        all rows room =
            let long = table-halved-long table in
            let back = brought text names (halved table) table rows (there-and-back text names table (subst T (sym sound) tt)) (omega (arith, n-is)) sound room in
            let n : length (halved table) / half_words ≡ length table / row_words = omega arith in
            let kept = kept-front h in (
              ap (λ (hs : List ℕ). wide_rows_answer text names hs rows) kept ∙ back.0 ∙ ap done n,
              ap (λ (hs : List ℕ). wide_rows_words text names hs rows) kept ∙ back.1,
            )

pub comes-back : (text names table halves : List ℕ) → ComesBack text names table (half_rows_answer text names table halves) (half_rows_words text names table halves)
comes-back text names table halves = go (is_sound text names table) refl
  where
    by : (sound : is_sound text names table ≡ true) → (length halves / half_words < length table / row_words) ⊎ (length table / row_words ≤ length halves / half_words)
        → ComesBack text names table (half_rows_answer text names table halves) (half_rows_words text names table halves)
    by sound (inl h) = no-room text names table halves sound h
    by sound (inr h) = with-room text names table halves sound h

    go : (b : Bool) → is_sound text names table ≡ b → ComesBack text names table (half_rows_answer text names table halves) (half_rows_words text names table halves)
    go false e = none-left text names table halves e
    go true e = by e (cases_lt (length halves / half_words) (length table / row_words))

-- what the second call brought back is kept again as it was
module _ (text names halves rows : List ℕ) (small : All (λ h. h < half) halves) where
  abbrev table : List ℕ
  table = unhalved halves

  abbrev Keeps : Out ℕ → List ℕ → Type 0
  Keeps answer words = KeepsAgain text names halves answer words

  not-back : wide_rows_answer text names halves rows ≡ refuse 17 → Keeps (wide_rows_answer text names halves rows) (wide_rows_words text names halves rows)
  not-back e = subst (λ (o : Out ℕ). Keeps o (wide_rows_words text names halves rows)) (sym e) tt

  no-place : wide_rows_answer text names halves rows ≡ refuse 28 → Keeps (wide_rows_answer text names halves rows) (wide_rows_words text names halves rows)
  no-place e = subst (λ (o : Out ℕ). Keeps o (wide_rows_words text names halves rows)) (sym e) tt

  module _ (whole : length halves ≡ half_words * (length halves / half_words)) (sound : is_sound text names table ≡ true) (room : length halves / half_words ≤ length rows / row_words) where
    front : take (row_words * (length halves / half_words)) (wide_rows_words text names halves rows) ≡ table
    front =
        ap (λ (ws : List ℕ). take (row_words * (length halves / half_words)) ws) (back-words text names halves rows whole sound room)
        ∙ take_at table (drop (length table) rows) (row_words * (length halves / half_words)) (table-long halves)

    kept : Keeps (done (length halves / half_words)) (wide_rows_words text names halves rows)
    kept = (
      subst (λ (ws : List ℕ). T (is_sound text names ws)) (sym front) (subst T (sym sound) tt),
      ap halved front ∙ back-and-there halves whole small,
    )

    placed : Keeps (wide_rows_answer text names halves rows) (wide_rows_words text names halves rows)
    placed = subst (λ (o : Out ℕ). Keeps o (wide_rows_words text names halves rows)) (sym (from-answer text names halves rows whole sound room)) kept

pub keeps-again : (text names halves rows : List ℕ) → All (λ h. h < half) halves → KeepsAgain text names halves (wide_rows_answer text names halves rows) (wide_rows_words text names halves rows)
keeps-again text names halves rows small = by (cases_eq (length halves) (half_words * (length halves / half_words)))
  where
    roomy : (whole : length halves ≡ half_words * (length halves / half_words)) (sound : is_sound text names (unhalved halves) ≡ true)
        → (length rows / row_words < length halves / half_words) ⊎ (length halves / half_words ≤ length rows / row_words)
        → KeepsAgain text names halves (wide_rows_answer text names halves rows) (wide_rows_words text names halves rows)
    roomy whole sound (inl h) = no-place text names halves rows small (from-full text names halves rows whole sound h).0
    roomy whole sound (inr h) = placed text names halves rows small whole sound h

    sounds : (whole : length halves ≡ half_words * (length halves / half_words)) (b : Bool) → is_sound text names (unhalved halves) ≡ b
        → KeepsAgain text names halves (wide_rows_answer text names halves rows) (wide_rows_words text names halves rows)
    sounds whole false e = not-back text names halves rows small (from-unsound text names halves rows whole e).0
    sounds whole true e = roomy whole e (cases_lt (length rows / row_words) (length halves / half_words))

    by : (length halves ≡ half_words * (length halves / half_words)) ⊎ (length halves ≢ half_words * (length halves / half_words))
        → KeepsAgain text names halves (wide_rows_answer text names halves rows) (wide_rows_words text names halves rows)
    by (inl whole) = sounds whole (is_sound text names (unhalved halves)) refl
    by (inr h) = not-back text names halves rows small (from-left text names halves rows h).0

-- the same of an answer and a buffer that are these
pub comes-back_as : (text names table halves : List ℕ) (answer : Out ℕ) (words : List ℕ) → answer ≡ half_rows_answer text names table halves → words ≡ half_rows_words text names table halves
    → ComesBack text names table answer words
comes-back_as text names table halves answer words e f =
    subst (λ (o : Out ℕ). ComesBack text names table o words) (sym e)
    (subst (λ (ws : List ℕ). ComesBack text names table (half_rows_answer text names table halves) ws) (sym f) (comes-back text names table halves))

pub keeps-again_as : (text names halves rows : List ℕ) (answer : Out ℕ) (words : List ℕ) → All (λ h. h < half) halves
    → answer ≡ wide_rows_answer text names halves rows → words ≡ wide_rows_words text names halves rows → KeepsAgain text names halves answer words
keeps-again_as text names halves rows answer words small e f =
    subst (λ (o : Out ℕ). KeepsAgain text names halves o words) (sym e)
    (subst (λ (ws : List ℕ). KeepsAgain text names halves (wide_rows_answer text names halves rows) ws) (sym f) (keeps-again text names halves rows small))

pub brings-sound_as : (text names halves rows : List ℕ) (answer : Out ℕ) → answer ≡ wide_rows_answer text names halves rows → BringsSound text names halves rows answer
brings-sound_as text names halves rows answer e whole sound room = e ∙ from-answer text names halves rows whole (is_true _ sound) room
