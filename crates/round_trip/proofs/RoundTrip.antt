-- Demand 3 on the definitions. For every text, name list and table that meet its conditions (`in_demand3`):
--   in_demand3_lem  which are: a sound tree, plain names and zones, a printed text of at most 16,384 bytes
--   round_trip      the printed text is accepted, with any number of rows lent that holds the tree, and the tree that is
--                   read is sound and says the same as the one printed: it has as many rows, and the two are equal trees
--   printed_utf8    the printed text is UTF-8
--   prints          the printer gives exactly the printed text, into any room that holds it: no refusal 17, 18 or 19
--   prints-apart    two such trees with one printed text say the same, whatever their texts and tables are
--   not_equal       so two such trees that are not equal have different printed texts, in whichever spelling each is printed
use mathlib.Core.Path.{◌≡◌, sym, ap, ◌∙◌, subst}
use mathlib.Core.Bool.{false}
use mathlib.Core.List.{List}
use Prim.Native.Nat.{ℕ, suc, ◌≤◌, min}
use native.Mathlib.Omega.{arith}
use lib.ListN.{length}
use lib.Dec.{T}
use borrow.Author.Tests.{le-leb}
use Rattle.std.proofs.lemmas.Bool.Decides.{nat_tests}
use Rattle.tokenizer.specs.Answer.{Out, done}
use Rattle.tokenizer.specs.Utf8.{is_utf8}
use Rattle.tokenizer.proofs.Basics.{is_true}
use Rattle.datatype.specs.Tree.{Forest, ∅, node, count, depth, Row, Label, name_list, label_of, labels}
use Rattle.datatype.specs.Table.{table_of, tree_of}
use Rattle.row_table.specs.Sound.{bare, rows_fit, is_sound}
use Rattle.unchecked_rows.specs.Equal.{equal_trees}
use Rattle.datatype.proofs.Table.{table_view}
use Rattle.row_table.proofs.SoundTree.{SoundTree, sound_tree, sound-labels}
use Rattle.unchecked_rows.proofs.RowList.{count_labels}
use Rattle.row_table.proofs.DepthLaws.{depth_labels}
use Rattle.unchecked_rows.proofs.Equivalence.{labels-equal}
use Rattle.datatype_parse.specs.Parse.{parse}
use Rattle.datatype_parse.proofs.MoreRows.{more_rows}
use Rattle.datatype_parse.proofs.ReadSound.{read_sound}
use Rattle.display_length.specs.declared.words.Spelling.{Spelling}
use Rattle.display_length.specs.Display.{display}
use Rattle.display_length.specs.PrintedLength.{quoted_latin}
use Rattle.datatype_display.specs.Print.{print}
use Rattle.datatype_display.proofs.PrintedUtf8.{display_utf8}
use Rattle.round_trip.specs.Plain.{is_plain_text, all_plain, is_plain_tree, printed, in_demand3}
use Rattle.round_trip.proofs.PlainRows.{PlainRows, In, rows_plain, plain_rows}
use Rattle.round_trip.proofs.ReadBack.{WholeRead, whole_read}
use Rattle.round_trip.proofs.Printed.{plain_quoted}

-- ---- the conditions, taken apart

-- what a tree that demand 3 speaks of says
pub record PlainTree (tree : Forest Label) : Type 0 where
  pub root : Label
  pub kids : Forest Label
  pub one : tree ≡ node root kids ∅
  pub rows : PlainRows bare (node root kids ∅)
  pub levels : suc (depth kids) ≤ 64
  pub few : suc (count kids) ≤ 1024

pub record Conditions (spelling : Spelling) (text names table : List ℕ) : Type 0 where
  pub is_sound : T (is_sound text names table)
  pub tree : SoundTree text names table
  pub plain : T (all_plain (tree_of text names table))
  pub short : length (printed spelling text names table) ≤ 16384

pub conditions : (spelling : Spelling) (text names table : List ℕ) → T (in_demand3 spelling text names table) → Conditions spelling text names table
unfolding in_demand3 is_plain_tree
conditions spelling text names table h =
    let s : T (is_sound text names table) = grind (arith, nat_tests) in
    record { is_sound = s; tree = sound_tree text names table s; plain = grind (arith, nat_tests); short = grind (arith, nat_tests) }

-- the other way round, and no more is asked: a sound tree, names and zones that are plain, row by row, and a printed text
-- that is not too long
pub in_demand3_lem : (spelling : Spelling) (text names table : List ℕ) → T (is_sound text names table)
    → ((l : Label) → In l (tree_of text names table) → T (is_plain_text l.name) × T (is_plain_text l.zone))
    → length (printed spelling text names table) ≤ 16384 → T (in_demand3 spelling text names table)
unfolding in_demand3 is_plain_tree
in_demand3_lem spelling text names table s p l = let r = rows_plain (tree_of text names table) p in grind (arith, nat_tests)

module _ (spelling : Spelling) (text names table : List ℕ) (c : Conditions spelling text names table) where
  abbrev root_row : Row
  root_row = c.tree.root

  abbrev kid_rows : Forest Row
  kid_rows = c.tree.kids

  says : tree_of text names table ≡ labels text names (node root_row kid_rows ∅)
  says = sound-labels text names table c.tree

  tree-utf8 : T (is_utf8 (printed spelling text names table))
  tree-utf8 =
      let f : Forest Label = tree_of text names table in
      display_utf8 spelling bare f (subst (λ (g : Forest Label). T (rows_fit bare g)) (sym says) c.tree.fits)

  pub plain-tree : PlainTree (tree_of text names table)
  unfolding labels
  plain-tree =
      let e : T (all_plain (labels text names (node root_row kid_rows ∅))) = subst (λ (f : Forest Label). T (all_plain f)) says c.plain in
      record {
        root = label_of text names root_row;
        kids = labels text names kid_rows;
        one = says;
        rows = plain_rows bare (labels text names (node root_row kid_rows ∅)) c.tree.fits e;
        levels = let h = c.tree.levels in omega (arith, depth_labels text names kid_rows);
        few = let h = c.tree.rows in omega (arith, count_labels text names kid_rows);
      }

-- ---- the tree, printed and read

module _ (tree : Forest Label) (p : PlainTree tree) where
  tree-read : (spelling : Spelling) (rows : ℕ) → count tree ≤ rows → WholeRead spelling tree rows
  tree-read spelling rows enough =
      let e : count (node p.root p.kids ∅) ≤ rows = subst (λ (f : Forest Label). count f ≤ rows) p.one enough in
      subst (λ (f : Forest Label). WholeRead spelling f rows) (sym p.one) (whole_read spelling p.root p.kids rows p.rows p.levels (omega arith))

  tree-few : count tree ≤ 1024
  tree-few = subst (λ (f : Forest Label). count f ≤ 1024) (sym p.one) (let h = p.few in omega arith)

-- ---- the round trip

pub record RoundTrip (spelling : Spelling) (text names table : List ℕ) : Type 0 where
  -- the tree that the printed text is read as
  pub back : Forest Row
  -- with any number of rows lent that holds it, 1,024 among them
  pub reads : (rows : ℕ) → count (tree_of text names table) ≤ rows → parse (printed spelling text names table) rows ≡ done back
  pub few : count (tree_of text names table) ≤ 1024
  -- it says what the printed tree says
  pub says : labels (printed spelling text names table) name_list back ≡ tree_of text names table
  pub rows : count back ≡ count (tree_of text names table)
  -- and so they are equal trees by document 01's rule
  pub equal : T (equal_trees (printed spelling text names table) name_list text names (table_of back) table)
  -- its table is sound over the printed text
  pub sound : T (is_sound (printed spelling text names table) name_list (table_of back))

module _ (spelling : Spelling) (text names table : List ℕ) (c : Conditions spelling text names table) where
  abbrev tree : Forest Label
  tree = tree_of text names table

  with-tree : (p : PlainTree tree) → WholeRead spelling tree (count tree) → RoundTrip spelling text names table
  with-tree p w =
      let first : parse (display spelling tree) (count tree) ≡ done w.back = w.reads c.short (is_true (is_utf8 (display spelling tree)) (tree-utf8 spelling text names table c)) in
      let lent : parse (display spelling tree) 1024 ≡ done w.back = more_rows (display spelling tree) (count tree) 1024 w.back (tree-few tree p) first in
      let f : Forest Row = node c.tree.root c.tree.kids ∅ in
      let same : labels (display spelling tree) name_list w.back ≡ labels text names f = w.says ∙ sound-labels text names table c.tree in
      record {
        back = w.back;
        reads = λ rows enough. more_rows (display spelling tree) (count tree) rows w.back enough first;
        few = tree-few tree p;
        says = w.says;
        rows = sym (count_labels (display spelling tree) name_list w.back) ∙ ap count w.says;
        equal =
            subst (λ (t : List ℕ). T (equal_trees (display spelling tree) name_list text names (table_of w.back) t)) (table_view table f c.tree.view)
            (labels-equal (display spelling tree) name_list text names w.back f same);
        sound = read_sound (display spelling tree) 1024 w.back lent (omega arith);
      }

pub round_trip : (spelling : Spelling) (text names table : List ℕ) → T (in_demand3 spelling text names table) → RoundTrip spelling text names table
round_trip spelling text names table h = go (conditions spelling text names table h)
  where
    go : Conditions spelling text names table → RoundTrip spelling text names table
    go c =
        let p = plain-tree spelling text names table c in
        with-tree spelling text names table c p (tree-read (tree_of text names table) p spelling (count (tree_of text names table)) (omega arith))

-- ---- the printed text

pub printed_utf8 : (spelling : Spelling) (text names table : List ℕ) → T (in_demand3 spelling text names table) → T (is_utf8 (printed spelling text names table))
printed_utf8 spelling text names table h = tree-utf8 spelling text names table (conditions spelling text names table h)

pub prints : (spelling : Spelling) (text names table : List ℕ) (room : ℕ) → T (in_demand3 spelling text names table) → length (printed spelling text names table) ≤ room
    → print spelling text names table room ≡ done (printed spelling text names table)
unfolding print
prints spelling text names table room h fits = go (conditions spelling text names table h)
  where
    go : Conditions spelling text names table → print spelling text names table room ≡ done (printed spelling text names table)
    go c =
        let l : length (printed spelling text names table) ≤ 16384 = c.short in
        rw (
          is_true (is_sound text names table) c.is_sound,
          is_true (quoted_latin (tree_of text names table)) (plain_quoted (tree_of text names table) c.plain),
          le-leb (length (printed spelling text names table)) (min room 16384) (omega arith),
        )

-- ---- two trees with one printed text

one_answer : (f g : Forest Row) (o : Out (Forest Row)) → o ≡ done f → o ≡ done g → f ≡ g
one_answer f g o p q = cc

module _ (spelling spelling' : Spelling) (text names table text' names' table' : List ℕ) (h : T (in_demand3 spelling text names table)) (h' : T (in_demand3 spelling' text' names' table')) where
  pub prints-apart : printed spelling text names table ≡ printed spelling' text' names' table' → tree_of text names table ≡ tree_of text' names' table'
  prints-apart e = met (round_trip spelling text names table h) (round_trip spelling' text' names' table' h')
    where
      met : RoundTrip spelling text names table → RoundTrip spelling' text' names' table' → tree_of text names table ≡ tree_of text' names' table'
      met a b =
          let q : parse (printed spelling text names table) 1024 ≡ done b.back = ap (λ (s : List ℕ). parse s 1024) e ∙ b.reads 1024 b.few in
          let t : a.back ≡ b.back = one_answer a.back b.back (parse (printed spelling text names table) 1024) (a.reads 1024 a.few) q in
          sym a.says ∙ (λ j. labels (e j) name_list (t j)) ∙ b.says

  -- the same by document 01's rule
  pub prints-equal : printed spelling text names table ≡ printed spelling' text' names' table' → T (equal_trees text names text' names' table table')
  prints-equal e = met (conditions spelling text names table h) (conditions spelling' text' names' table' h')
    where
      met : Conditions spelling text names table → Conditions spelling' text' names' table' → T (equal_trees text names text' names' table table')
      met c d =
          let f : Forest Row = node c.tree.root c.tree.kids ∅ in
          let g : Forest Row = node d.tree.root d.tree.kids ∅ in
          let same : labels text names f ≡ labels text' names' g = sym (sound-labels text names table c.tree) ∙ prints-apart e ∙ sound-labels text' names' table' d.tree in
          rw (sym (table_view table f c.tree.view), sym (table_view table' g d.tree.view)) (labels-equal text names text' names' f g same)

  pub not_equal : equal_trees text names text' names' table table' ≡ false → printed spelling text names table ≡ printed spelling' text' names' table' → ⊥
  not_equal n e = subst T n (prints-equal e)
