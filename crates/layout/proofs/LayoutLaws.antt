-- The layout verdict: the scan over the rows finds the first row of the tree that breaks a rule.
use Rattle.std.specs.Prelude.{Option, Some, None, if◌then◌else◌}
use mathlib.Core.Path.{◌≡◌, refl, sym, ap, ◌∙◌, subst}
use mathlib.Core.Bool.{Bool, true, false, ◌&&◌}
use mathlib.Core.List.{List, [], ◌∷◌, ◌++◌, append_assoc, append-nil}
use Prim.Native.Nat.{ℕ, zero, suc, ◌+◌, ◌/◌, ◌≤◌, ◌<◌}
use native.Mathlib.Omega.{arith}
use lib.ListN.{length, take, drop, get_or}
use lib.Seq.{drop-cons}
use Rattle.std.proofs.lemmas.List.{drop_all}
use Rattle.std.specs.Simd.{first_chunks}
use lib.Dec.{T, leb}
use Rattle.std.proofs.lemmas.Bool.Decides.{nat_tests}
use Rattle.tokenizer.specs.Answer.{done, refuse}
use Rattle.tokenizer.proofs.Basics.{of_true}
use Rattle.datatype.specs.Kind.{shape_of}
use Rattle.datatype.specs.Tree.{Forest, ∅, node, count, roots, Row, label_of, labels}
use Rattle.datatype.specs.Table.{row_words, words_of}
use Rattle.row_table.specs.Sound.{Standing, bare, arity_fits, rules_of, rows_fit, is_sound}
use Rattle.unchecked_rows.specs.Equal.{first_rows, whole_rows}
use Rattle.layout.specs.Layout.{Asked, anything, key, run_end, kind_allowed, asked_of_first, first, broken_row, verdict_of}
use Rattle.layout.specs.Internal.Scan.{scan}
use Rattle.datatype.proofs.Table.{table_view}
use Rattle.datatype.proofs.KindShapes.{shape_by}
use Rattle.row_table.proofs.SoundTree.{rows_fit_lem, SoundTree, sound_tree, sound-labels}
use Rattle.unchecked_rows.proofs.RowList.{rows_of, whole_rows_lem, count_labels}

-- ---- what a row is asked

-- what each of them allows
module _ (k : ℕ) where
  pub allowed-1 : true ≡ kind_allowed anything k
  unfolding kind_allowed
  allowed-1 = refl

  pub allowed-2 : (leb 2 k && leb k 9) ≡ kind_allowed key k
  unfolding kind_allowed
  allowed-2 = refl

  pub allowed-3 : (leb 3 k && leb k 5) ≡ kind_allowed run_end k
  unfolding kind_allowed
  allowed-3 = refl

-- ---- the loop over the rows

chunked : (n : ℕ) (ws : List ℕ) → first_chunks row_words n ws ≡ first_rows n ws
chunked zero ws = refl
chunked (suc n) ws = ap (λ (rs : List (List ℕ)). take row_words ws ∷ rs) (chunked n (drop row_words ws))

pub whole_are : (table : List ℕ) → whole_rows table ≡ first_chunks row_words (length table / row_words) table
unfolding whole_rows
whole_are table = sym (chunked (length table / row_words) table)

pub scan_end : (asked : Asked) (i : ℕ) (rows : List (List ℕ)) → length rows ≤ i → scan asked i (drop i rows) ≡ None
unfolding scan
scan_end asked i rows h = rw (drop_all i rows h)

pub scan_step : (asked : Asked) (i : ℕ) (rows : List (List ℕ)) → i < length rows
    → scan asked i (drop i rows) ≡ (if kind_allowed asked (get_or (get_or rows i []) 0 0) then scan (asked_of_first (shape_of (get_or (get_or rows i []) 0 0))) (i + 1) (drop (i + 1) rows) else Some i)
unfolding scan
scan_step asked i rows h =
    let s : suc i ≡ i + 1 = omega arith in
    rw (← s, drop-cons rows i [] h)

-- what the loop uses
pub ruleset scans = (whole_are, scan_end, scan_step)

-- ---- the scan and the tree

-- a kind with no children asks nothing of a first child
none_asks : (k : ℕ) → T (arity_fits (rules_of (shape_of k)).children 0) → asked_of_first (shape_of k) ≡ anything
unfolding rules_of arity_fits asked_of_first
none_asks k = rw (shape_by k) (grind (arith, nat_tests))

first_first : (a b c : Option ℕ) → first (first a b) c ≡ first a (first b c)
first_first None b c = refl
first_first (Some i) b c = refl

module _ (text names : List ℕ) where
  -- what the scan finds in a run of trees, and then in the rows behind it
  Found : Asked → ℕ → Forest Row → List (List ℕ) → Type 0
  Found asked i f rest = scan asked i (rows_of f ++ rest) ≡ first (broken_row asked i (labels text names f)) (scan anything (i + count f) rest)

  module _ (asked : Asked) (i : ℕ) (r : Row) (k n : Forest Row) (rest : List (List ℕ)) where
    abbrev next : Asked
    next = asked_of_first (shape_of r.kind)

    abbrev below : Option ℕ
    below = broken_row next (suc i) (labels text names k)

    abbrev beyond : Option ℕ
    beyond = broken_row anything (i + suc (count (labels text names k))) (labels text names n)

    -- the children and the later siblings, where both are found
    scan-parts : Found next (suc i) k (rows_of n ++ rest) → Found anything (suc i + count k) n rest
        → scan next (suc i) (rows_of k ++ rows_of n ++ rest) ≡ first (first below beyond) (scan anything (i + (suc (count k) + count n)) rest)
    unfolding Found
    scan-parts p q =
        let a : suc i + count k ≡ i + suc (count (labels text names k)) = omega (arith, count_labels text names k) in
        let b : suc i + count k + count n ≡ i + (suc (count k) + count n) = omega arith in
        append-swap ∙ p ∙ ap (first below) (q ∙ λ j. first (broken_row anything (a j) (labels text names n)) (scan anything (b j) rest)) ∙ sym (first_first below beyond (scan anything (i + (suc (count k) + count n)) rest))
      where
        append-swap : scan next (suc i) (rows_of k ++ rows_of n ++ rest) ≡ scan next (suc i) (rows_of k ++ (rows_of n ++ rest))
        append-swap = ap (scan next (suc i)) (append_assoc (rows_of k) (rows_of n) rest)

    scan-node : Found next (suc i) k (rows_of n ++ rest) → Found anything (suc i + count k) n rest → Found asked i (node r k n) rest
    unfolding Found scan broken_row labels label_of words_of
    scan-node p q = go (kind_allowed asked r.kind)
      where
        parts : scan next (suc i) (rows_of k ++ rows_of n ++ rest) ≡ first (first below beyond) (scan anything (i + (suc (count k) + count n)) rest)
        parts = scan-parts p q

        go : (t : Bool) → (if t then scan next (suc i) (rows_of k ++ rows_of n ++ rest) else Some i) ≡ first (if t then first below beyond else Some i) (scan anything (i + (suc (count k) + count n)) rest)
        go true = parts
        go false = refl

  nothing-below : (place : Standing) (r : Row) (k n : Forest Row) → T (rows_fit place (labels text names (node r k n))) → k ≡ ∅ → asked_of_first (shape_of r.kind) ≡ anything
  unfolding labels label_of
  nothing-below place r k n t e =
      none_asks r.kind (subst (λ (g : Forest Row). T (arity_fits (rules_of (shape_of r.kind)).children (length (roots (labels text names g))))) e (rows_fit_lem place (label_of text names r) (labels text names k) (labels text names n) t).0.arity)

  scan-run : (place : Standing) (f : Forest Row) (asked : Asked) (i : ℕ) (rest : List (List ℕ)) → T (rows_fit place (labels text names f)) → (f ≡ ∅ → asked ≡ anything) → Found asked i f rest
  unfolding Found broken_row labels
  scan-run place ∅ asked i rest t h = let e : i + 0 ≡ i = omega arith in rw (h refl, e)
  scan-run place (node r k n) asked i rest t h =
      let w = rows_fit_lem place (label_of text names r) (labels text names k) (labels text names n) t in
      scan-node asked i r k n rest (scan-run (rules_of (shape_of (label_of text names r).kind)).below k (asked_of_first (shape_of r.kind)) (suc i) (rows_of n ++ rest) w.1 (nothing-below place r k n t)) (scan-run place n anything (suc i + count k) rest w.2 (λ e. refl))

first_none : (a : Option ℕ) → first a None ≡ a
first_none None = refl
first_none (Some i) = refl

-- ---- the whole tree

module _ (text names table : List ℕ) where
  pub verdict_not : is_sound text names table ≡ false → verdict_of text names table ≡ refuse 17
  unfolding verdict_of
  verdict_not e = rw e

  module _ (s : SoundTree text names table) where
    abbrev tree : Forest Row
    tree = node s.root s.kids ∅

    scan-tree : scan anything 0 (whole_rows table) ≡ broken_row anything 0 (labels text names tree)
    unfolding Found scan
    scan-tree =
        ap (λ (t : List ℕ). scan anything 0 (whole_rows t)) (sym (table_view table tree s.view))
        ∙ ap (scan anything 0) (whole_rows_lem tree ∙ sym (append-nil (rows_of tree)))
        ∙ scan-run text names bare tree anything 0 [] s.fits (λ e. refl)
        ∙ first_none (broken_row anything 0 (labels text names tree))

  pub verdict_is : is_sound text names table ≡ true → verdict_of text names table ≡ done (scan anything 0 (whole_rows table))
  unfolding verdict_of
  verdict_is e =
      let s = sound_tree text names table (of_true _ e) in
      rw e (ap done (sym (scan-tree s ∙ ap (broken_row anything 0) (sym (sound-labels text names table s)))))

-- what `verdict_of` uses
pub ruleset verdicts = (verdict_not, verdict_is)
