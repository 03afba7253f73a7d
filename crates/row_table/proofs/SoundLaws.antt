-- The walk of `sound.rt`: each place where it answers, and each turn of its loop.
use mathlib.Core.Path.{◌≡◌, refl, sym, ap, ◌∙◌, subst}
use mathlib.Core.Bool.{Bool, true, false, ◌&&◌, and-true, and-false}
use mathlib.Core.List.{List}
use mathlib.Core.Option.{Option, none, some}
use Prim.Native.Nat.{ℕ, suc, ◌+◌, ◌-◌, ◌*◌, ◌/◌, ◌≤◌, ◌<◌}
use native.Mathlib.Omega.{arith}
use lib.ListN.{length, get_or}
use lib.Dec.{T}
use borrow.Author.Tests.{le-leb, lt-leb}
use Rattle.std.proofs.lemmas.Bool.Decides.{nat_tests}
use Rattle.tokenizer.specs.Text.{same}
use Rattle.tokenizer.specs.Utf8.{is_utf8}
use Rattle.tokenizer.proofs.Basics.{of_true}
use Rattle.tokenizer.proofs.Listed.{same_path}
use Rattle.datatype.specs.Tree.{Forest, ∅, node, count, depth, Row, name_list, labels}
use Rattle.datatype.specs.Table.{row_words, words_of, table_of, join, view_of, rows_at}
use Rattle.row_table.specs.Sound.{Standing, bare, rows_fit, placed, is_sound}
use Rattle.unchecked_rows.specs.Internal.Run.{row_at, run_at, is_run, run_or, forest_at}
use Rattle.row_table.specs.Internal.Check.{below_of, trees, own_fits, children_fit, run_fits}
use Rattle.datatype.proofs.Table.{table_view}
use Rattle.datatype.proofs.Tests.{iff_eq, false_of}
use Rattle.unchecked_rows.specs.Parents.{parents_fit}
use Rattle.unchecked_rows.proofs.ParentFit.{view_fits as parents-view}
use Rattle.unchecked_rows.proofs.Runs.{run_step, run_none, no_rows, forest_none, run_all, run_is, view_rows}
use Rattle.row_table.proofs.SoundTree.{SoundTree, sound_tree, tree_sound, sound-count}
use Rattle.row_table.proofs.Clauses.{Run, run_of, of_run, run_in, run_out}

-- ---- a run that is taken apart into its first row and two runs

join_fits : (text : List ℕ) (standing : Standing) (l : ℕ) (r : Row) (a b : Option (Forest Row))
    → run_fits text standing (suc l) (join r a b) ≡ (own_fits text standing r && run_fits text (below_of r.kind) l a && children_fit r.kind (run_or a) && run_fits text standing (suc l) b)
unfolding run_fits
join_fits text standing l r none b = sym (rw (and-false (own_fits text standing r)))
join_fits text standing l r (some k) none = sym (and-false (own_fits text standing r && run_fits text (below_of r.kind) l (some k) && children_fit r.kind k))
join_fits text standing l r (some k) (some n) =
    iff_eq (run_fits text standing (suc l) (some (node r k n))) (own_fits text standing r && run_fits text (below_of r.kind) l (some k) && children_fit r.kind k && run_fits text standing (suc l) (some n))
    (λ t. let w = run_out text standing l r k n (run_of text standing (suc l) (node r k n) t) in let a = of_run text (below_of r.kind) l k w.1 in let b = of_run text standing (suc l) n w.3 in grind (arith, nat_tests))
    (λ t. of_run text standing (suc l) (node r k n) (run_in text standing l r k n (grind (arith, nat_tests)) (run_of text (below_of r.kind) l k (grind (arith, nat_tests))) (grind (arith, nat_tests)) (run_of text standing (suc l) n (grind (arith, nat_tests)))))

-- rows need a level
no_level : (text : List ℕ) (standing : Standing) (f : Forest Row) → 1 ≤ count f → run_fits text standing 0 (some f) ≡ false
unfolding run_fits
no_level text standing ∅ h = absurd (omega arith)
no_level text standing (node r k n) h = rw (lt-leb (depth (node r k n)) 0 (omega arith))

no_run : (text : List ℕ) (standing : Standing) (level : ℕ) → run_fits text standing level none ≡ false
unfolding run_fits
no_run text standing level = refl

-- a run that is sound is a run
pub fits_whole : (text : List ℕ) (standing : Standing) (level : ℕ) (o : Option (Forest Row)) → run_fits text standing level o ≡ true → is_run o ≡ true
unfolding run_fits
fits_whole text standing level none e = e
fits_whole text standing level (some f) e = refl

-- ---- the loop over a run, in the code's terms

-- no rows are sound
pub turn_end : (text : List ℕ) (standing : Standing) (level : ℕ) (table : List ℕ) (at end : ℕ) → end ≤ at → run_fits text standing level (run_at table at (end - at)) ≡ true
unfolding run_fits placed labels rows_fit
turn_end text standing level table at end h = let e : end - at ≡ 0 = omega arith in rw (e, no_rows table at, le-leb 0 level (omega arith))

module _ (text : List ℕ) (standing : Standing) (level : ℕ) (table : List ℕ) (at end : ℕ) (room : row_words * end ≤ length table) (go : at < end) where
  abbrev here : Bool
  here = run_fits text standing level (run_at table at (end - at))

  abbrev size : ℕ
  size = rows_at table at

  abbrev kind : ℕ
  kind = get_or table (row_words * at + 0) 0

  room-here : row_words * (at + (end - at)) ≤ length table
  room-here = omega arith

  pub turn_level : level ≡ 0 → here ≡ false
  turn_level e = rw e (by-run (run_at table at (end - at)) refl)
    where
      by-run : (o : Option (Forest Row)) → run_at table at (end - at) ≡ o → run_fits text standing 0 o ≡ false
      by-run none q = no_run text standing 0
      by-run (some f) q = no_level text standing f (let c = (run_is table at (end - at) f room-here q).size in omega arith)

  turn-none : (1 ≤ size → size ≤ end - at → ⊥) → here ≡ false
  turn-none h = rw (run_none table at (end - at) room-here (omega arith) h) (no_run text standing level)

  pub turn_empty : size ≡ 0 → here ≡ false
  turn_empty e = turn-none (λ l h. omega arith)

  pub turn_long : end - at < size → here ≡ false
  turn_long e = turn-none (λ l h. omega arith)

  module _ (some_level : level ≡ 0 → ⊥) (some-rows : size ≡ 0 → ⊥) (within : size ≤ end - at) where
    -- the first row by itself, over its children, which are sound, and what is behind them
    pub turn_go : here ≡ (own_fits text standing (row_at table at) && run_fits text (below_of kind) (level - 1) (run_at table (at + 1) (at + size - (at + 1))) && children_fit kind (trees table (at + 1) (at + size)) && run_fits text standing level (run_at table (at + size) (end - (at + size))))
    unfolding row_at forest_at
    turn_go =
        let a : at + size - (at + 1) ≡ size - 1 = omega arith in
        let b : end - (at + size) ≡ end - at - size = omega arith in
        let c : level ≡ suc (level - 1) = omega arith in
        rw (a, b, run_step table at (end - at) room-here (omega arith) (omega arith) (omega arith))
        (ap (λ (n : ℕ). run_fits text standing n (join (row_at table at) (run_at table (at + 1) (size - 1)) (run_at table (at + size) (end - at - size)))) c
        ∙ join_fits text standing (level - 1) (row_at table at) (run_at table (at + 1) (size - 1)) (run_at table (at + size) (end - at - size))
        ∙ ap (λ (n : ℕ). own_fits text standing (row_at table at) && run_fits text (below_of kind) (level - 1) (run_at table (at + 1) (size - 1)) && children_fit kind (run_or (run_at table (at + 1) (size - 1))) && run_fits text standing n (run_at table (at + size) (end - at - size))) (sym c))

    -- a row of one has no children
    pub turn_leaf : size ≡ 1 → here ≡ (own_fits text standing (row_at table at) && children_fit kind ∅ && run_fits text standing level (run_at table (at + size) (end - (at + size))))
    turn_leaf e =
        let none : run_fits text (below_of kind) (level - 1) (run_at table (at + 1) (at + size - (at + 1))) ≡ true = turn_end text (below_of kind) (level - 1) table (at + 1) (at + size) (omega arith) in
        let z : at + size - (at + 1) ≡ 0 = omega arith in
        let f : trees table (at + 1) (at + size) ≡ ∅ = rw z (forest_none table (at + 1)) in
        turn_go ∙ rw (none, f, and-true (own_fits text standing (row_at table at)))

-- what the loop uses
pub ruleset turns = (turn_end, turn_level, turn_empty, turn_long, turn_go, turn_leaf, fits_whole)

-- ---- a whole table

-- one root exactly where the root's subtree is the whole table
one_tree : (f : Forest Row) (n : ℕ) → count f ≡ n → 1 ≤ n → get_or (table_of f) 1 0 ≡ n → (r : Row) × (k : Forest Row) × (f ≡ node r k ∅)
unfolding table_of words_of
one_tree ∅ n c l e = absurd (omega arith)
one_tree (node r k ∅) n c l e = (r, k, refl)
one_tree (node r k (node q i j)) n c l e = absurd (omega arith)

module _ (text names table : List ℕ) where
  abbrev rows : ℕ
  rows = length table / row_words

  abbrev sound : Bool
  sound = is_sound text names table

  no : (SoundTree text names table → ⊥) → sound ≡ false
  no f = sym (false_of sound (λ t. f (sound_tree text names table t)))

  pub sound_long : 16384 < length text → sound ≡ false
  sound_long h = no (λ s. let u = s.short in omega arith)

  pub sound_names : same names name_list ≡ false → sound ≡ false
  sound_names e = no (λ s. subst T e (rw s.listed tt))

  pub sound_empty : length table < row_words * (0 + 1) → sound ≡ false
  sound_empty e = no (λ s. let u = sound-count text names table s in omega arith)

  pub sound_many : 1024 < rows → sound ≡ false
  sound_many e = no (λ s. let u = sound-count text names table s in let v = s.rows in omega arith)

  pub sound_left : (length table ≡ row_words * rows → ⊥) → sound ≡ false
  sound_left e = no (λ s. let u = sound-count text names table s in omega arith)

  -- the root's subtree
  root-size : (s : SoundTree text names table) → rows_at table 0 ≡ suc (count s.kids)
  unfolding table_of words_of
  root-size s = ap (λ (t : List ℕ). get_or t 1 0) (sym (table_view table (node s.root s.kids ∅) s.view))

  pub sound_root : (rows_at table 0 ≡ rows → ⊥) → sound ≡ false
  sound_root d = no (λ s. let u = sound-count text names table s in let v = root-size s in d (omega arith))

  pub sound_utf8 : is_utf8 text ≡ false → sound ≡ false
  sound_utf8 e = no (λ s. subst T e s.utf8)

  pub sound_parents : parents_fit table ≡ false → sound ≡ false
  sound_parents e = no (λ s. subst T e (rw (parents-view table (node s.root s.kids ∅) s.view) s.parents))

  module _ (short : length text ≤ 16384) (listed : same names name_list ≡ true) (some-rows : rows ≡ 0 → ⊥) (few : rows ≤ 1024) (whole : length table ≡ row_words * rows) (root : rows_at table 0 ≡ rows) (good : is_utf8 text ≡ true) (parents : parents_fit table ≡ true) where
    names-are : names ≡ name_list
    names-are = same_path names name_list (of_true _ listed)

    sound-in : (f : Forest Row) → view_of table ≡ some f → Run text bare 64 f → SoundTree text names table
    sound-in f v w = go (one_tree f rows (let c = view_rows table f v in omega arith) (omega arith) (ap (λ (t : List ℕ). get_or t 1 0) (table_view table f v) ∙ root))
      where
        with_root : (r : Row) (k : Forest Row) → view_of table ≡ some (node r k ∅) → Run text bare 64 (node r k ∅) → SoundTree text names table
        with_root r k v w =
            let c = view_rows table (node r k ∅) v in
            let d = w.flat in
            record {
              root = r;
              kids = k;
              view = v;
              short = short;
              utf8 = of_true _ good;
              listed = names-are;
              rows = omega arith;
              levels = omega arith;
              places = w.places;
              fits = rw names-are w.fits;
              parents = of_true _ (sym (parents-view table (node r k ∅) v) ∙ parents);
            }

        go : (r : Row) × (k : Forest Row) × (f ≡ node r k ∅) → SoundTree text names table
        go x = with_root x.0 x.1 (v ∙ ap some x.2) (subst (λ (g : Forest Row). Run text bare 64 g) x.2 w)

    sound-out : (s : SoundTree text names table) → Run text bare 64 (node s.root s.kids ∅)
    sound-out s = let d = s.levels in record { flat = omega arith; places = s.places; fits = rw names-are at s.fits }

    view_fits : T (run_fits text bare 64 (view_of table)) → T sound
    view_fits t = go (view_of table) refl t
      where
        bad : T (run_fits text bare 64 none) → ⊥
        bad t = unfold run_fits in t

        go : (o : Option (Forest Row)) → view_of table ≡ o → T (run_fits text bare 64 o) → T sound
        go none e t = absurd (bad t)
        go (some f) e t = tree_sound text names table (sound-in f e (run_of text bare 64 f t))

    fits-view : T sound → T (run_fits text bare 64 (view_of table))
    fits-view t = go (sound_tree text names table t)
      where
        go : SoundTree text names table → T (run_fits text bare 64 (view_of table))
        go s = rw s.view (of_run text bare 64 (node s.root s.kids ∅) (sound-out s))

    pub sound_is : sound ≡ run_fits text bare 64 (run_at table 0 (rows - 0))
    sound_is =
        let z : rows - 0 ≡ rows = omega arith in
        sym (ap (λ (m : ℕ). run_fits text bare 64 (run_at table 0 m)) z ∙ ap (run_fits text bare 64) (run_all table rows whole) ∙ iff_eq (run_fits text bare 64 (view_of table)) sound view_fits fits-view)

-- what `is_sound` uses
pub ruleset sounds = (sound_long, sound_names, sound_empty, sound_many, sound_left, sound_root, sound_utf8, sound_parents, sound_is)
