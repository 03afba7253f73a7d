-- What the functions of `children.rt` say of the children of a row.
use mathlib.Core.Path.{◌≡◌, refl, sym, ◌∙◌}
use mathlib.Core.Bool.{Bool, true, false, ◌&&◌, false≢true}
use mathlib.Core.List.{List, map}
use Prim.Native.Nat.{ℕ, zero, suc, ◌+◌, ◌-◌, ◌*◌, ◌≤◌, ◌<◌}
use native.Mathlib.Omega.{arith}
use Rattle.std.proofs.lemmas.Bool.Decides.{nat_tests}
use lib.ListN.{length, get_or}
use lib.Dec.{leb, eqb, eqb→eq, eqb-suc-suc}
use borrow.Author.Tests.{eq-eqb, ne_eqb}
use Rattle.std.specs.Prelude.{if◌then◌else◌, is_ok, Result, Ok, Err}
use Rattle.tokenizer.specs.declared.refusal.Refusal as R
use Rattle.tokenizer.specs.declared.refusal.Refusal.TheVariants.{TextTooLong, NotUtf8, TooDeep, TooManyRows, TextEnds, StringNeverEnds, StringEmpty, UnknownWord, UnexpectedToken, NumberOutOfRange, WrongTimeUnit, WrongDecimal, MustBeNonNull, WrongMapEntries, WrongUnionId, TrailingText, NotSound, NotLatin, PrintTooLong}
use Rattle.tokenizer.specs.Answer.{number_of}
use Rattle.tokenizer.proofs.Basics.{is_true, of_true}
use Rattle.datatype.specs.Kind.{ids_fit}
use Rattle.datatype.specs.Tree.{Forest, ∅, node, count, roots, Row}
use Rattle.datatype.specs.Table.{row_words, rows_at}
use Rattle.row_table.specs.Sound.{no_child, one_child, two_children, any_count, arity_fits, rules_of}
use Rattle.unchecked_rows.specs.Internal.Run.{row_at, run_at, is_run, entries_of, Nests}
use Rattle.row_table.specs.Internal.Check.{trees, entries_ok, first_non_null, children_fit}
use Rattle.unchecked_rows.specs.MapEntries.{refused_with, entries_refusal_at}
use Rattle.unchecked_rows.specs.UnionFields.{type_ids_fit}
use Rattle.datatype.proofs.Tests.{iff_eq}
use Rattle.datatype.proofs.KindShapes.{shape_by}
use Rattle.unchecked_rows.proofs.EntryLaws.{entries_nest}
use Rattle.unchecked_rows.proofs.UnionLaws.{type_ids_fit_lem}
use Rattle.unchecked_rows.proofs.Runs.{Turn, turn, forest_none, count_forest}

-- ---- how many

no_roots : (f : Forest Row) → eqb (length (roots f)) 0 ≡ eqb (count f) 0
no_roots ∅ = refl
no_roots (node r k n) = ne_eqb (suc (length (roots n))) 0 (λ e. omega arith) ∙ sym (ne_eqb (suc (count k) + count n) 0 (λ e. omega arith))

-- no refusal has the number 0
numbered : (e : R.Refusal) → eqb (number_of e) 0 ≡ false
numbered TextTooLong = refl
numbered NotUtf8 = refl
numbered TooDeep = refl
numbered TooManyRows = refl
numbered TextEnds = refl
numbered StringNeverEnds = refl
numbered StringEmpty = refl
numbered UnknownWord = refl
numbered UnexpectedToken = refl
numbered NumberOutOfRange = refl
numbered WrongTimeUnit = refl
numbered WrongDecimal = refl
numbered MustBeNonNull = refl
numbered WrongMapEntries = refl
numbered WrongUnionId = refl
numbered TrailingText = refl
numbered NotSound = refl
numbered NotLatin = refl
numbered PrintTooLong = refl

pub ok_is : {A : Type 0} (r : Result A R.Refusal) → is_ok r ≡ eqb (refused_with r) 0
ok_is (Ok value) = refl
ok_is (Err e) = sym (numbered e)

-- the ghost fields of `Children`, as the walks take them
pub nests : (table : List ℕ) (first end : ℕ) → first ≤ end → row_words * end ≤ length table → is_run (run_at table first (end - first)) ≡ true → Nests table first (end - first)
nests table first end l room whole = record { room = omega arith; whole = of_true _ whole }

module _ (table : List ℕ) (first end : ℕ) (l : first ≤ end) (room : row_words * end ≤ length table) (whole : is_run (run_at table first (end - first)) ≡ true) where
  pub none_here : first ≡ end → trees table first end ≡ ∅
  none_here e = let z : end - first ≡ 0 = omega arith in rw z (forest_none table first)

  -- no tree exactly where there are no rows
  pub no_child_is : eqb (length (roots (trees table first end))) 0 ≡ eqb first end
  no_child_is =
      no_roots (trees table first end)
      ∙ rw (count_forest table first (end - first) (nests table first end l room whole)) (iff_eq (eqb (end - first) 0) (eqb first end) (λ t. of_true _ (eq-eqb first end (let e = eqb→eq (end - first) 0 t in omega arith))) (λ t. of_true _ (eq-eqb (end - first) 0 (let e = eqb→eq first end t in omega arith))))

module _ (table : List ℕ) (first end : ℕ) (l : first ≤ end) (room : row_words * end ≤ length table) (whole : is_run (run_at table first (end - first)) ≡ true) where
  some_row : (first ≡ end → ⊥) → first < end
  some_row d = omega arith

  -- where there is a tree, there are rows
  pub one_some : eqb (length (roots (trees table first end))) 1 ≡ true → first < end
  one_some e = some_row (λ z. false≢true (sym (rw (none_here table first end l room whole z)) ∙ e))

  pub two_some : eqb (length (roots (trees table first end))) 2 ≡ true → first < end
  two_some e = some_row (λ z. false≢true (sym (rw (none_here table first end l room whole z)) ∙ e))

  pub ids_are : type_ids_fit table first end ≡ ids_fit (map (λ c. c.union_id) (roots (trees table first end)))
  ids_are = type_ids_fit_lem table first end (nests table first end l room whole) l

  module _ (some : first < end) where
    first-turn : Turn table first end
    first-turn = turn table first end (nests table first end l room whole) some

    abbrev behind : Forest Row
    behind = trees table (first + rows_at table first) end

    pub behind_from : first + rows_at table first ≤ end
    behind_from = first-turn.within

    pub behind_whole : is_run (run_at table (first + rows_at table first) (end - (first + rows_at table first))) ≡ true
    behind_whole = is_true _ first-turn.rest.whole

    roots-more : length (roots (trees table first end)) ≡ suc (length (roots behind))
    roots-more = go first-turn
      where
        go : Turn table first end → length (roots (trees table first end)) ≡ suc (length (roots behind))
        go t = rw t.is

    more_roots : (n : ℕ) → eqb (length (roots (trees table first end))) (suc n) ≡ eqb (length (roots behind)) n
    more_roots n = rw roots-more (eqb-suc-suc (length (roots behind)) n)

    pub one_is : eqb (length (roots (trees table first end))) 1 ≡ eqb (first + rows_at table first) end
    one_is = more_roots 0 ∙ no_child_is table (first + rows_at table first) end behind_from room behind_whole

    pub two_are : eqb (length (roots (trees table first end))) 2 ≡ eqb (length (roots behind)) 1
    two_are = more_roots 1

    -- Map's entries, where there is one tree
    pub entries_are : entries_refusal_at table first ≡ entries_of (trees table first end)
    entries_are = entries_nest table first end (nests table first end l room whole) some

    -- run ends, where there are trees
    pub first_role_is : first_non_null (trees table first end) ≡ eqb (get_or table (row_words * first + 2) 0) 2
    first_role_is = go first-turn
      where
        go : Turn table first end → first_non_null (trees table first end) ≡ eqb (get_or table (row_words * first + 2) 0) 2
        go t = unfold row_at in rw t.is

-- ---- the children of a kind

no_child_fits : (n : ℕ) → arity_fits no_child n ≡ eqb n 0
unfolding arity_fits
no_child_fits zero = refl
no_child_fits (suc n) = grind (arith, nat_tests)

one_child_fits : (n : ℕ) → arity_fits one_child n ≡ eqb n 1
unfolding arity_fits
one_child_fits zero = refl
one_child_fits (suc zero) = refl
one_child_fits (suc (suc n)) = grind (arith, nat_tests)

two_children_fit : (n : ℕ) → arity_fits two_children n ≡ eqb n 2
unfolding arity_fits
two_children_fit zero = refl
two_children_fit (suc zero) = refl
two_children_fit (suc (suc zero)) = refl
two_children_fit (suc (suc (suc n))) = grind (arith, nat_tests)

any_count_fits : (n : ℕ) → arity_fits any_count n ≡ true
unfolding arity_fits
any_count_fits n = refl

-- what a kind asks of its children, by its number
abbrev pub kids_at : ℕ → Forest Row → Bool
kids_at k f =
    if eqb k 32 then true
    else if eqb k 33 then ids_fit (map (λ c. c.union_id) (roots f))
    else if eqb k 39 then eqb (length (roots f)) 1 && entries_ok f
    else if eqb k 40 then eqb (length (roots f)) 2 && first_non_null f
    else if eqb k 34 then eqb (length (roots f)) 2
    else if leb 27 k && leb k 31 then eqb (length (roots f)) 1
    else eqb (length (roots f)) 0

pub kids_by : (k : ℕ) (f : Forest Row) → children_fit k f ≡ kids_at k f
unfolding children_fit rules_of
kids_by k f = rw (shape_by k) (grind (arith, nat_tests, no_child_fits, one_child_fits, two_children_fit, any_count_fits))

-- what `fit` uses
pub ruleset kids = (kids_by, nat_tests, no_child_is, one_some, two_some, ok_is, ids_are, entries_are, first_role_is)

-- what counts the children
pub ruleset counts = (none_here, one_is, two_are, behind_from, behind_whole)
