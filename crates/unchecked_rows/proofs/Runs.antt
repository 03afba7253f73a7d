-- Runs of rows: what every walk over a table leans on.
--   run_step     the run at a row: its row, the run of its children and the run behind it, or none
--   split        of a run that nests and is not empty the same, with both parts nesting
--   Turn, turn   the same for a loop that goes from tree to tree, by where it is and where it ends
--   no_rows, forest_none   the run of no rows
--   Is, is_run_lem, run_is, nests_is, forest_is    rows i to i + n are the table of a forest, and what that says of the run
--   nests_all, forest_all                          the whole table
use Rattle.std.specs.Prelude.{if◌then◌else◌}
use mathlib.Core.Path.{◌≡◌, refl, sym, ap, ◌∙◌, subst}
use mathlib.Core.Bool.{Bool, true, false, ◌&&◌}
use mathlib.Core.List.{List, [], ◌∷◌}
use mathlib.Core.Option.{Option, none, some}
use Prim.Native.Nat.{ℕ, ◌+◌, ◌*◌, ◌-◌, ◌≤◌, ◌<◌}
use native.Mathlib.Omega.{arith}
use lib.ListN.{length, take, drop, get_or, length-take, length-drop}
use lib.Seq.{drop-drop, take-take, take_all, get_or-take, get_or-drop, length-take-le}
use lib.Dec.{T, leb, leb→le}
use Rattle.std.proofs.lemmas.List.{drop-take}
use Rattle.std.proofs.lemmas.Bool.Decides.{nat_tests}
use borrow.Author.Tests.{le-leb}
use Rattle.tokenizer.proofs.Basics.{and_l, and_r, of_true}
use Rattle.datatype.specs.Tree.{Forest, ∅, node, count, Row}
use Rattle.datatype.specs.Table.{row_words, row_of, rows_word, table_of, join, view_with, view_of, rows_at}
use Rattle.unchecked_rows.specs.Internal.Run.{row_at, run_at, is_run, run_or, forest_at, Nests}
use Rattle.datatype.proofs.Table.{length_table, view_table, table_view, view_enough}

-- ---- parts of parts of lists

-- a stretch that runs to the end of one
stretch_end : (a m b : ℕ) (l : List ℕ) → b ≤ m → drop b (take m (drop a l)) ≡ take (m - b) (drop (a + b) l)
stretch_end a m b l h =
    let e : m ≡ b + (m - b) = omega arith in
    ap (λ (k : ℕ). drop b (take k (drop a l))) e ∙ drop-take b (m - b) (drop a l) ∙ ap (take (m - b)) (drop-drop b a l)

-- a stretch of a stretch of a list
stretch : (a m b n : ℕ) (l : List ℕ) → b + n ≤ m → take n (drop b (take m (drop a l))) ≡ take n (drop (a + b) l)
stretch a m b n l h = ap (take n) (stretch_end a m b l (omega arith)) ∙ take-take n (m - b) (drop (a + b) l) (omega arith)

-- ---- the run at a row

-- the view of words that are some, with the parts viewed on their own
view_step : (w : ℕ) (ws : List ℕ)
    → view_of (w ∷ ws) ≡ (if leb 1 (rows_word (w ∷ ws)) && leb (row_words * rows_word (w ∷ ws)) (length (w ∷ ws)) then join (row_of (w ∷ ws)) (view_of (take (row_words * (rows_word (w ∷ ws) - 1)) (drop row_words (w ∷ ws)))) (view_of (drop (row_words * (rows_word (w ∷ ws) - 1)) (drop row_words (w ∷ ws)))) else none)
unfolding view_of view_with
view_step w ws =
    let behind = drop row_words (w ∷ ws) in
    let size = row_words * (rows_word (w ∷ ws) - 1) in
    rw (
      view_enough (length ws) (length (take size behind)) (take size behind) (omega (arith, length-take size behind, length-drop row_words (w ∷ ws))) (omega arith),
      view_enough (length ws) (length (drop size behind)) (drop size behind) (omega (arith, length-drop size behind, length-drop row_words (w ∷ ws))) (omega arith),
    )

view_fits : (ws : List ℕ) (s : ℕ) → rows_word ws ≡ s → 1 ≤ s → row_words * s ≤ length ws
    → view_of ws ≡ join (row_of ws) (view_of (take (row_words * (s - 1)) (drop row_words ws))) (view_of (drop (row_words * (s - 1)) (drop row_words ws)))
view_fits [] s e l h = absurd (omega arith)
view_fits (w ∷ ws) s e l h = view_step w ws ∙ rw (e, le-leb 1 s l, le-leb (row_words * s) (length (w ∷ ws)) h)

not_both : (a b : ℕ) (c d : ℕ) → (a ≤ b → c ≤ d → ⊥) → (leb a b && leb c d) ≡ false
not_both a b c d h = grind (arith, nat_tests)

view_unfit : (ws : List ℕ) (s : ℕ) → rows_word ws ≡ s → 1 ≤ length ws → (1 ≤ s → row_words * s ≤ length ws → ⊥) → view_of ws ≡ none
view_unfit [] s e l h = absurd (omega arith)
view_unfit (w ∷ ws) s e l h = view_step w ws ∙ rw (e, not_both 1 s (row_words * s) (length (w ∷ ws)) h)

-- the words of a stretch of rows
words : List ℕ → ℕ → ℕ → List ℕ
words table i n = take (row_words * n) (drop (row_words * i) table)

module _ (table : List ℕ) (i n : ℕ) (room : row_words * (i + n) ≤ length table) (some-rows : 1 ≤ n) where
  words_long : length (words table i n) ≡ row_words * n
  unfolding words
  words_long = length-take-le (row_words * n) (drop (row_words * i) table) (omega (arith, length-drop (row_words * i) table))

  words-at : (k : ℕ) → k < row_words → get_or (words table i n) k 0 ≡ get_or table (row_words * i + k) 0
  unfolding words
  words-at k h = get_or-take (row_words * n) (drop (row_words * i) table) k 0 (omega arith) ∙ get_or-drop (row_words * i) table k 0

  row_is : row_of (words table i n) ≡ row_at table i
  unfolding row_of row_at
  row_is =
      rw (
        words-at 0 (omega arith),
        words-at 2 (omega arith),
        words-at 3 (omega arith),
        words-at 4 (omega arith),
        words-at 5 (omega arith),
        words-at 6 (omega arith),
        words-at 7 (omega arith),
        words-at 8 (omega arith),
        words-at 9 (omega arith),
        words-at 10 (omega arith),
        words-at 11 (omega arith),
      )

  below-is : (s : ℕ) → 1 ≤ s → s ≤ n → view_of (take (row_words * (s - 1)) (drop row_words (words table i n))) ≡ run_at table (i + 1) (s - 1)
  unfolding words run_at
  below-is s l h =
      let e : row_words * (i + 1) ≡ row_words * i + row_words = omega arith in
      rw (e, stretch (row_words * i) (row_words * n) row_words (row_words * (s - 1)) table (omega arith))

  behind-is : (s : ℕ) → 1 ≤ s → s ≤ n → view_of (drop (row_words * (s - 1)) (drop row_words (words table i n))) ≡ run_at table (i + s) (n - s)
  unfolding words run_at
  behind-is s l h =
      let e : row_words * (i + s) ≡ row_words * i + (row_words + row_words * (s - 1)) = omega arith in
      let d : row_words * (n - s) ≡ row_words * n - (row_words + row_words * (s - 1)) = omega arith in
      rw (e, d, drop-drop (row_words * (s - 1)) row_words (words table i n), stretch_end (row_words * i) (row_words * n) (row_words + row_words * (s - 1)) table (omega arith))

  -- the first row's subtree fits: the run is its row over the run of its children, and the run behind it
  pub run_step : 1 ≤ rows_at table i → rows_at table i ≤ n
      → run_at table i n ≡ join (row_at table i) (run_at table (i + 1) (rows_at table i - 1)) (run_at table (i + rows_at table i) (n - rows_at table i))
  unfolding run_at words
  run_step l h =
      let long = words_long in
      view_fits (words table i n) (rows_at table i) (words-at 1 (omega arith)) l (omega arith)
      ∙ rw (row_is, below-is (rows_at table i) l h, behind-is (rows_at table i) l h)

  -- else there is none
  pub run_none : (1 ≤ rows_at table i → rows_at table i ≤ n → ⊥) → run_at table i n ≡ none
  unfolding run_at words
  run_none h =
      let long = words_long in
      view_unfit (words table i n) (rows_at table i) (words-at 1 (omega arith)) (omega arith) (λ l k. h l (omega arith))

-- no rows are the run of no trees
pub no_rows : (table : List ℕ) (i : ℕ) → run_at table i 0 ≡ some ∅
unfolding run_at view_of view_with
no_rows table i = refl

-- ---- a run that nests

pub run_forest : (table : List ℕ) (i n : ℕ) → Nests table i n → run_at table i n ≡ some (forest_at table i n)
unfolding forest_at
run_forest table i n h = go (run_at table i n) h.whole
  where
    go : (o : Option (Forest Row)) → T (is_run o) → o ≡ some (run_or o)
    go none t = absurd t
    go (some f) t = refl

pub nests_of : (table : List ℕ) (i n : ℕ) (f : Forest Row) → row_words * (i + n) ≤ length table → run_at table i n ≡ some f → Nests table i n
nests_of table i n f l e = record { room = l; whole = rw e tt }

pub forest_of : (table : List ℕ) (i n : ℕ) (f : Forest Row) → run_at table i n ≡ some f → forest_at table i n ≡ f
unfolding forest_at
forest_of table i n f e = rw e

pub forest_none : (table : List ℕ) (i : ℕ) → forest_at table i 0 ≡ ∅
forest_none table i = forest_of table i 0 ∅ (no_rows table i)

-- a run that nests and is not empty: its first row, the run of that row's children, and the run behind its subtree
pub record Split (table : List ℕ) (i n : ℕ) : Type 0 where
  pub some-rows : 1 ≤ rows_at table i
  pub within : rows_at table i ≤ n
  pub kids : Nests table (i + 1) (rows_at table i - 1)
  pub rest : Nests table (i + rows_at table i) (n - rows_at table i)
  pub is : forest_at table i n ≡ node (row_at table i) (forest_at table (i + 1) (rows_at table i - 1)) (forest_at table (i + rows_at table i) (n - rows_at table i))

join_run : (r : Row) (a b : Option (Forest Row)) → T (is_run (join r a b)) → T (is_run a) × T (is_run b) × (run_or (join r a b) ≡ node r (run_or a) (run_or b))
join_run r none b t = absurd t
join_run r (some k) none t = absurd t
join_run r (some k) (some n) t = (tt, tt, refl)

split_fits : (table : List ℕ) (i n : ℕ) → Nests table i n → 1 ≤ n → 1 ≤ rows_at table i → rows_at table i ≤ n → Split table i n
unfolding forest_at
split_fits table i n h p l k =
    let e = run_step table i n h.room p l k in
    let room : row_words * (i + n) ≤ length table = h.room in
    let j = join_run (row_at table i) (run_at table (i + 1) (rows_at table i - 1)) (run_at table (i + rows_at table i) (n - rows_at table i)) (subst (λ (o : Option (Forest Row)). T (is_run o)) e h.whole) in
    record {
      some-rows = l;
      within = k;
      kids = record { room = omega arith; whole = j.0 };
      rest = record { room = omega arith; whole = j.1 };
      is = ap run_or e ∙ j.2;
    }

pub split : (table : List ℕ) (i n : ℕ) → Nests table i n → 1 ≤ n → Split table i n
split table i n h p = go (leb 1 (rows_at table i) && leb (rows_at table i) n) refl
  where
    go : (b : Bool) → (leb 1 (rows_at table i) && leb (rows_at table i) n) ≡ b → Split table i n
    go true e =
        let t = of_true _ e in
        split_fits table i n h p (leb→le 1 (rows_at table i) (and_l (leb 1 (rows_at table i)) (leb (rows_at table i) n) t)) (leb→le (rows_at table i) n (and_r (leb 1 (rows_at table i)) (leb (rows_at table i) n) t))
    go false e = absurd (subst (λ (o : Option (Forest Row)). T (is_run o)) (run_none table i n h.room p (λ l k. grind (arith, nat_tests, e))) h.whole)

-- the same in a loop's terms: a run from row at to row end, and its first tree, from row at to row at + its size
pub record Turn (table : List ℕ) (at end : ℕ) : Type 0 where
  pub some-rows : 1 ≤ rows_at table at
  pub within : at + rows_at table at ≤ end
  pub kids : Nests table (at + 1) (at + rows_at table at - (at + 1))
  pub rest : Nests table (at + rows_at table at) (end - (at + rows_at table at))
  pub is : forest_at table at (end - at) ≡ node (row_at table at) (forest_at table (at + 1) (at + rows_at table at - (at + 1))) (forest_at table (at + rows_at table at) (end - (at + rows_at table at)))

pub turn : (table : List ℕ) (at end : ℕ) → Nests table at (end - at) → at < end → Turn table at end
turn table at end h l = go (split table at (end - at) h (omega arith))
  where
    kids-size : at + rows_at table at - (at + 1) ≡ rows_at table at - 1
    kids-size = omega arith

    rest-size : end - (at + rows_at table at) ≡ end - at - rows_at table at
    rest-size = omega arith

    go : Split table at (end - at) → Turn table at end
    go s =
        let w = s.within in
        record {
          some-rows = s.some-rows;
          within = omega arith;
          kids = rw kids-size s.kids;
          rest = rw rest-size s.rest;
          is = rw (kids-size, rest-size) s.is;
        }

-- ---- rows that are the table of a forest

pub record Is (table : List ℕ) (i n : ℕ) (f : Forest Row) : Type 0 where
  pub room : row_words * (i + n) ≤ length table
  pub rows : take (row_words * n) (drop (row_words * i) table) ≡ table_of f
  pub size : count f ≡ n

pub is_run_lem : (table : List ℕ) (i n : ℕ) (f : Forest Row) → Is table i n f → run_at table i n ≡ some f
unfolding run_at
is_run_lem table i n f h = rw h.rows (view_table f)

pub run_is : (table : List ℕ) (i n : ℕ) (f : Forest Row) → row_words * (i + n) ≤ length table → run_at table i n ≡ some f → Is table i n f
unfolding run_at
run_is table i n f l e =
    let t : table_of f ≡ take (row_words * n) (drop (row_words * i) table) = table_view (take (row_words * n) (drop (row_words * i) table)) f e in
    let long = length-take-le (row_words * n) (drop (row_words * i) table) (omega (arith, length-drop (row_words * i) table)) in
    record { room = l; rows = sym t; size = omega (arith, length_table f, ap length t) }

pub nests_is : (table : List ℕ) (i n : ℕ) (f : Forest Row) → Is table i n f → Nests table i n
nests_is table i n f h = nests_of table i n f h.room (is_run_lem table i n f h)

pub forest_is : (table : List ℕ) (i n : ℕ) (f : Forest Row) → Is table i n f → forest_at table i n ≡ f
forest_is table i n f h = forest_of table i n f (is_run_lem table i n f h)

-- as many rows as the stretch has
pub count_forest : (table : List ℕ) (i n : ℕ) → Nests table i n → count (forest_at table i n) ≡ n
count_forest table i n h = (run_is table i n (forest_at table i n) h.room (run_forest table i n h)).size

-- ---- the whole table

pub run_all : (table : List ℕ) (n : ℕ) → length table ≡ row_words * n → run_at table 0 n ≡ view_of table
unfolding run_at
run_all table n e = rw (take_all (row_words * n) table (omega arith))

-- a table that does not have whole rows nests not
pub view_rows : (table : List ℕ) (f : Forest Row) → view_of table ≡ some f → length table ≡ row_words * count f
view_rows table f e = ap length (sym (table_view table f e)) ∙ length_table f

pub nests_all : (table : List ℕ) (f : Forest Row) → view_of table ≡ some f → Nests table 0 (count f)
nests_all table f e =
    let l = view_rows table f e in
    nests_of table 0 (count f) f (omega arith) (run_all table (count f) l ∙ e)

pub forest_all : (table : List ℕ) (f : Forest Row) → view_of table ≡ some f → forest_at table 0 (count f) ≡ f
forest_all table f e = forest_of table 0 (count f) f (run_all table (count f) (view_rows table f e) ∙ e)
