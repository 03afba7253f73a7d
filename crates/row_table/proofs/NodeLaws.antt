-- The nodes of a sound tree: what a row's words say of its label; nodes side by side, the first of them and those that are
-- left; the root, and the rows below it.
--   kind_said, role_said, id_said, number_said, scale_said, name_said, zone_said   a row's label, by the words that the code reads
--   none-left, first_labels    what nodes side by side say: nothing where none is left, else the first and the others
--   given, ended               what the iterator gives, by its answer
--   root-tree, root_levels     the root over what stands below it is the whole tree, of at most 64 levels
--   row_kind, node_kind        each row's kind is a kind
use Rattle.std.specs.declared.option.Option.{Option}
use Rattle.std.specs.declared.option.Option.TheVariants.{None, Some}
use mathlib.Core.Path.{◌≡◌, refl, sym, ap, ◌∙◌, subst}
use mathlib.Core.List.{List, ◌++◌}
use Prim.Native.Nat.{ℕ, zero, suc, ◌+◌, ◌-◌, ◌*◌, ◌/◌, ◌≤◌, ◌<◌, max}
use native.Mathlib.Decide.{dec_lt}
use native.Mathlib.Omega.{arith}
use lib.ListN.{length, get_or, get_or-append}
use lib.Seq.{get_or-append-add, get_or-append_right}
use lib.Dec.{T}
use Rattle.datatype.specs.Kind.{kinds}
use Rattle.datatype.specs.Tree.{Forest, ∅, node, count, depth, Row, name_of, zone_of, label_of, labels}
use Rattle.datatype.specs.Table.{row_words, words_of, table_of, tree_of, rows_at, word_at}
use Rattle.datatype.proofs.Table.{length_table, table_view}
use Rattle.unchecked_rows.specs.Internal.Run.{row_at, forest_at, Nests}
use Rattle.row_table.specs.Sound.{Standing, bare, rows_fit, is_sound}
use Rattle.unchecked_rows.proofs.Runs.{Turn, turn, forest_none, count_forest}
use Rattle.row_table.proofs.SoundTree.{RowFits, rules_at, rows_fit_lem, SoundTree, sound_tree, sound-count, sound-nests, sound-forest, sound-labels}
use Rattle.row_table.proofs.Walks.{labels-turn}
use Rattle.row_table.specs.declared.nodes.SoundTree.{SoundTree as Whole}
use Rattle.row_table.specs.declared.nodes.Node.{Node}
use Rattle.row_table.specs.declared.nodes.Nodes.{Nodes}
use Rattle.row_table.specs.Nodes.{label_in, children_in, labels_in, IsFirst, GivesNode}
use Rattle.row_table.specs.Internal.Nodes.{depth_below, levels_below, rows_in}

-- ---- a row's label, by the words that the code reads

module _ (text names table : List ℕ) (i : ℕ) where
  pub kind_said : (label_of text names (row_at table i)).kind ≡ word_at table i 0
  unfolding label_of row_at
  kind_said = refl

  pub role_said : (label_of text names (row_at table i)).role ≡ word_at table i 2
  unfolding label_of row_at
  role_said = refl

  pub id_said : (label_of text names (row_at table i)).union_id ≡ word_at table i 3
  unfolding label_of row_at
  id_said = refl

  pub number_said : (label_of text names (row_at table i)).number ≡ word_at table i 4
  unfolding label_of row_at
  number_said = refl

  pub scale_said : (label_of text names (row_at table i)).scale ≡ word_at table i 5
  unfolding label_of row_at
  scale_said = refl

  pub name_said : (label_of text names (row_at table i)).name ≡ name_of text names (word_at table i 6) (word_at table i 7) (word_at table i 8)
  unfolding label_of row_at
  name_said = refl

  pub zone_said : (label_of text names (row_at table i)).zone ≡ zone_of text (word_at table i 9) (word_at table i 10)
  unfolding label_of row_at
  zone_said = refl

-- ---- nodes side by side

pub none-left : (ns : Nodes) → ns.start ≡ ns.end → labels_in ns ≡ ∅
unfolding labels
none-left ns e = let z : ns.end - ns.start ≡ 0 = omega arith in rw (z, forest_none ns.whole.now.tree.rows.now ns.start)

module _ (ns : Nodes) (some : ns.start ≡ ns.end → ⊥) where
  next-turn : Turn ns.whole.now.tree.rows.now ns.start ns.end
  next-turn = let o = ns.ordered in turn ns.whole.now.tree.rows.now ns.start ns.end ns.nests (omega arith)

  pub next-some : 1 ≤ rows_at ns.whole.now.tree.rows.now ns.start
  next-some = next-turn.some-rows

  pub next-nests : Nests ns.whole.now.tree.rows.now (ns.start + 1) (ns.start + rows_at ns.whole.now.tree.rows.now ns.start - (ns.start + 1))
  next-nests = next-turn.kids

  module _ (s : ℕ) (is : s ≡ rows_at ns.whole.now.tree.rows.now ns.start) where
    pub next-within : ns.start + s ≤ ns.end
    next-within = let w = next-turn.within in omega arith

    pub next-rest : Nests ns.whole.now.tree.rows.now (ns.start + s) (ns.end - (ns.start + s))
    next-rest = rw is next-turn.rest

module _ (ns : Nodes) (n : Node) (left : Nodes) (f : IsFirst ns n left) where
  abbrev table : List ℕ
  table = ns.whole.now.tree.rows.now

  here : Turn table ns.start ns.end
  here =
      let r = n.some_rows in
      let o = left.ordered in
      let a = f.at in
      let s = f.start in
      let e = f.end in
      turn table ns.start ns.end ns.nests (omega arith)

  pub first_labels : labels_in ns ≡ node (label_in n) (children_in n) (labels_in left)
  first_labels = rw (f.of_left, f.start, f.end, f.of, f.at) (labels-turn ns.whole.now.tree.text.now ns.whole.now.tree.names.now table ns.start ns.end here)

  pub first_levels : depth (rows_in ns) ≡ max (suc (levels_below n)) (depth (rows_in left))
  first_levels = rw (f.of_left, f.start, f.end, f.of, f.at) (go here)
    where
      go : Turn table ns.start ns.end → depth (forest_at table ns.start (ns.end - ns.start)) ≡ max (suc (depth_below table ns.start)) (depth (forest_at table (ns.start + rows_at table ns.start) (ns.end - (ns.start + rows_at table ns.start))))
      go t = rw t.is

  pub levels_left : depth (rows_in left) ≤ depth (rows_in ns)
  levels_left = let d = first_levels in omega arith

  pub levels_first : levels_below n + 1 ≤ depth (rows_in ns)
  levels_first = let d = first_levels in omega arith

-- what the iterator gives, by its answer
pub given : (ns : Nodes) (r : Option Node) (left : Nodes) → GivesNode ns r left → (n : Node) → r ≡ Some n → IsFirst ns n left
given ns None left g n e = absurd (let z : ◌≡◌ {A = Option Node} None (Some n) = e in cc)
given ns (Some m) left g n e = let z : m ≡ n = cc in subst (λ (k : Node). IsFirst ns k left) z g

pub ended : (ns : Nodes) (r : Option Node) (left : Nodes) → GivesNode ns r left → r ≡ None → ns.start ≡ ns.end
ended ns None left g e = g.0
ended ns (Some m) left g e = absurd (let z : ◌≡◌ {A = Option Node} (Some m) None = e in cc)

-- the levels that a walk goes down
module _ (ns : Nodes) (r : Option Node) (left : Nodes) (g : GivesNode ns r left) (n : Node) (is : r ≡ Some n) (level : ℕ) (flat : depth (rows_in ns) ≤ level) where
  pub level-some : 1 ≤ level
  level-some = let d = levels_first ns n left (given ns r left g n is) in omega arith

  pub level-below : (kids : Nodes) → kids.whole ≡ n.whole → kids.start ≡ n.at + 1 → kids.end ≡ n.at + rows_at n.whole.now.tree.rows.now n.at → depth (rows_in kids) ≤ level - 1
  level-below kids of start end = let d = levels_first ns n left (given ns r left g n is) in rw (of, start, end) (omega arith)

-- ---- a sound tree

module _ (text names table : List ℕ) (sound : T (is_sound text names table)) where
  abbrev pub tree : SoundTree text names table
  tree = sound_tree text names table sound

  pub few_rows : length table ≤ row_words * 1024
  few_rows = let c = sound-count text names table tree in let r = tree.rows in omega arith

  all-rows : length table / row_words - 0 ≡ suc (count tree.kids)
  all-rows = let c = sound-count text names table tree in omega arith

  pub all_forest : forest_at table 0 (length table / row_words - 0) ≡ node tree.root tree.kids ∅
  all_forest = ap (λ (n : ℕ). forest_at table 0 n) all-rows ∙ sound-forest text names table tree

  pub all_labels : tree_of text names table ≡ labels text names (forest_at table 0 (length table / row_words - 0))
  all_labels = sound-labels text names table tree ∙ ap (labels text names) (sym all_forest)

  pub all_nest : Nests table 0 (length table / row_words - 0)
  all_nest = rw all-rows (sound-nests text names table tree)

  pub all_levels : depth (forest_at table 0 (length table / row_words - 0)) ≤ 64
  all_levels = let l = tree.levels in rw all_forest (omega arith)

  pub all_turn : Turn table 0 (length table / row_words)
  all_turn = let c = sound-count text names table tree in turn table 0 (length table / row_words) all_nest (omega arith)

module _ (w : Whole) where
  root-turn : Turn w.tree.rows.now 0 (length w.tree.rows.now / row_words)
  root-turn = all_turn w.tree.text.now w.tree.names.now w.tree.rows.now w.sound

  pub root-some : 1 ≤ rows_at w.tree.rows.now 0
  root-some = root-turn.some-rows

  pub root-nests : Nests w.tree.rows.now (0 + 1) (0 + rows_at w.tree.rows.now 0 - (0 + 1))
  root-nests = root-turn.kids

-- ---- the root, and the rows below it

abbrev root_of : {A : Type 0} → A → Forest A → A
root_of a ∅ = a
root_of a (node r kids next) = r

abbrev kids_of : {A : Type 0} → Forest A → Forest A
kids_of ∅ = ∅
kids_of (node r kids next) = kids

abbrev behind : {A : Type 0} → Forest A → Forest A
behind ∅ = ∅
behind (node r kids next) = next

module _ (text names table : List ℕ) (sound : T (is_sound text names table)) where
  same-tree : node (row_at table 0) (forest_at table (0 + 1) (0 + rows_at table 0 - (0 + 1))) (forest_at table (0 + rows_at table 0) (length table / row_words - (0 + rows_at table 0))) ≡ node (tree text names table sound).root (tree text names table sound).kids ∅
  same-tree = sym (all_turn text names table sound).is ∙ all_forest text names table sound

  root_is : row_at table 0 ≡ (tree text names table sound).root
  root_is = ap (root_of (row_at table 0)) same-tree

  kids-are : forest_at table (0 + 1) (0 + rows_at table 0 - (0 + 1)) ≡ (tree text names table sound).kids
  kids-are = ap kids_of same-tree

  -- all other rows stand below the root
  pub root_all : rows_at table 0 ≡ length table / row_words
  root_all =
      let n : 0 ≡ count (forest_at table (0 + rows_at table 0) (length table / row_words - (0 + rows_at table 0))) = sym (ap (λ f. count (behind f)) same-tree) in
      let m = count_forest table (0 + rows_at table 0) (length table / row_words - (0 + rows_at table 0)) (all_turn text names table sound).rest in
      let w = (all_turn text names table sound).within in
      omega arith

-- what row 0 and those below it say
module _ (w : Whole) where
  pub levels-at : depth_below w.tree.rows.now 0 < 64
  levels-at =
      let t = tree w.tree.text.now w.tree.names.now w.tree.rows.now w.sound in
      let l = t.levels in
      rw (kids-are w.tree.text.now w.tree.names.now w.tree.rows.now w.sound) (omega arith)

  pub root-at : tree_of w.tree.text.now w.tree.names.now w.tree.rows.now
      ≡ node (label_of w.tree.text.now w.tree.names.now (row_at w.tree.rows.now 0)) (labels w.tree.text.now w.tree.names.now (forest_at w.tree.rows.now (0 + 1) (0 + rows_at w.tree.rows.now 0 - (0 + 1)))) ∅
  unfolding labels
  root-at =
      let text = w.tree.text.now in
      let names = w.tree.names.now in
      let table = w.tree.rows.now in
      rw (root_is text names table w.sound, kids-are text names table w.sound)
      (sound-labels text names table (tree text names table w.sound))

-- the node that all others stand below
module _ (n : Node) (first : n.at ≡ 0) where
  pub root_levels : levels_below n < 64
  root_levels = rw first (levels-at n.whole.now)

  pub root-tree : (w : Whole) → n.whole.now ≡ w → tree_of w.tree.text.now w.tree.names.now w.tree.rows.now ≡ node (label_in n) (children_in n) ∅
  root-tree w of = rw (of, first) (root-at w)

-- ---- each row's kind

-- of a row, those below it and those behind
in_node : (r : Row) (n : ℕ) (a b : List ℕ) (p q : ℕ) → length a ≡ row_words * p → r.kind < kinds → ((i : ℕ) → i < p → word_at a i 0 < kinds) → ((i : ℕ) → i < q → word_at b i 0 < kinds)
    → (i : ℕ) → i < suc p + q → word_at (words_of r n ++ (a ++ b)) i 0 < kinds
unfolding words_of
in_node r n a b p q long k below behind zero h = k
in_node r n a b p q long k below behind (suc i) h = elim (dec_lt i p) [ yes l ↦ inner l | no l ↦ outer (omega arith) ]
  where
    past : word_at (words_of r n ++ (a ++ b)) (suc i) 0 ≡ word_at (a ++ b) i 0
    past =
        let e : row_words * suc i + 0 ≡ length (words_of r n) + (row_words * i + 0) = omega arith in
        ap (λ (k : ℕ). get_or (words_of r n ++ (a ++ b)) k 0) e ∙ get_or-append-add (words_of r n) (a ++ b) (row_words * i + 0) 0

    inner : i < p → word_at (words_of r n ++ (a ++ b)) (suc i) 0 < kinds
    inner l = rw (past, get_or-append a b 0 (row_words * i + 0) (omega arith)) (below i l)

    outer : p ≤ i → word_at (words_of r n ++ (a ++ b)) (suc i) 0 < kinds
    outer l =
        let e : row_words * i + 0 - length a ≡ row_words * (i - p) + 0 = omega arith in
        rw (past, get_or-append_right a b (row_words * i + 0) 0 (omega arith), e) (behind (i - p) (omega arith))

all_known : (text names : List ℕ) (place : Standing) (f : Forest Row) → T (rows_fit place (labels text names f)) → (i : ℕ) → i < count f → word_at (table_of f) i 0 < kinds
unfolding labels label_of table_of
all_known text names place ∅ t i h = absurd (omega arith)
all_known text names place (node r kids next) t i h = go (rows_fit_lem place (label_of text names r) (labels text names kids) (labels text names next) t) (λ p u. all_known text names p kids u) (λ u. all_known text names place next u) i h
  where
    go : RowFits place (label_of text names r) (labels text names kids) × T (rows_fit (rules_at (label_of text names r)).below (labels text names kids)) × T (rows_fit place (labels text names next))
        → ((p : Standing) → T (rows_fit p (labels text names kids)) → (i : ℕ) → i < count kids → word_at (table_of kids) i 0 < kinds)
        → (T (rows_fit place (labels text names next)) → (i : ℕ) → i < count next → word_at (table_of next) i 0 < kinds)
        → (i : ℕ) → i < suc (count kids) + count next → word_at (words_of r (suc (count kids)) ++ (table_of kids ++ table_of next)) i 0 < kinds
    go (f, b, n) below behind = in_node r (suc (count kids)) (table_of kids) (table_of next) (count kids) (count next) (length_table kids) f.kind (below (rules_at (label_of text names r)).below b) (behind n)

pub row_kind : (w : Whole) (i : ℕ) → row_words * (i + 1) ≤ length w.tree.rows.now → word_at w.tree.rows.now i 0 < kinds
row_kind w i there =
    let text = w.tree.text.now in
    let names = w.tree.names.now in
    let table = w.tree.rows.now in
    let t = sound_tree text names table w.sound in
    let f = node t.root t.kids ∅ in
    let c = sound-count text names table t in
    rw (← table_view table f t.view) (all_known text names bare f t.fits i (omega arith))

pub node_kind : (n : Node) → word_at n.whole.now.tree.rows.now n.at 0 < kinds
node_kind n = let r = n.nests.room in let s = n.some_rows in row_kind n.whole.now n.at (omega arith)

-- what `root` and `next` use
pub ruleset root_steps = (root-some, root-nests)

pub ruleset next_steps = (next-some, next-nests, next-within, next-rest)
