-- Bytes that are clean and bytes that are Latin, which names print in double quotes, and whether these are Latin: what
-- `is_clean` and the functions of `names.rt` and `latin.rt` answer.
use Rattle.std.specs.Prelude.{if◌then◌else◌}
use Rattle.std.specs.declared.option.Option.{Option}
use Rattle.std.specs.declared.option.Option.TheVariants.{Some}
use mathlib.Core.Path.{◌≡◌, refl, sym, ap, ◌∙◌}
use mathlib.Core.Bool.{Bool, true, false, not, ◌&&◌, ◌||◌, and-true, or-true}
use mathlib.Core.List.{List, [], ◌∷◌}
use Prim.Native.Nat.{ℕ, zero, suc, ◌+◌, ◌-◌, ◌/◌, ◌≤◌, ◌<◌, max}
use native.Mathlib.Decide.{dec_lt}
use native.Mathlib.Omega.{arith}
use lib.ListN.{length, get_or, take, drop, drop_of_length-le}
use lib.Seq.{drop-cons}
use native.Mathlib.Numerals.{add-one}
use lib.Dec.{T, leb, eqb, leb→le, le→leb}
use borrow.Author.Tests.{le-leb, lt-leb, lt-ltb, le-ltb}
use Rattle.std.specs.List.{fold}
use Rattle.tokenizer.specs.Text.{all, same, bytes}
use Rattle.tokenizer.proofs.Basics.{and_l, and_r, both, is_true, of_true, all_take, all_drop}
use Rattle.datatype.specs.Kind.{run_end_encoded, shape_of}
use Rattle.datatype.specs.Tree.{Forest, ∅, node, roots, Row, Label, part, name_of, zone_of, label_of, labels}
use Rattle.datatype.specs.Table.{row_words, tree_of, word_at}
use Rattle.row_table.specs.Sound.{is_sound}
use Rattle.unchecked_rows.specs.Internal.Run.{row_at, forest_at}
use Rattle.datatype.proofs.Tests.{iff_eq}
use Rattle.row_table.proofs.SoundTree.{sound_tree}
use Rattle.display_length.specs.PrintedLength.{quotes_names, is_latin, names_latin, quoted_latin}
use Rattle.row_table.specs.declared.nodes.Node.{Node}
use Rattle.row_table.specs.declared.nodes.Nodes.{Nodes}
use Rattle.display_length.specs.Internal.Steps.{row_latin, is_clean, clean_weight}
use Rattle.row_table.specs.Nodes.{label_in, children_in, labels_in, IsFirst, GivesNode}
use Rattle.display_length.specs.Display.{is_lead, default_names}
use Rattle.row_table.proofs.NodeLaws.{none-left, first_labels, given, all_labels}

-- ---- bytes

leb_max : (a b n : ℕ) → leb (max a b) n ≡ (leb a n && leb b n)
leb_max a b n =
    iff_eq (leb (max a b) n) (leb a n && leb b n)
    (λ t. let m = leb→le (max a b) n t in both (leb a n) (leb b n) (le→leb a n (omega arith)) (le→leb b n (omega arith)))
    (λ t. let p = leb→le a n (and_l (leb a n) (leb b n) t) in let q = leb→le b n (and_r (leb a n) (leb b n) t) in le→leb (max a b) n (omega arith))

-- the greatest weight tells whether all bytes pass a test: those do whose weight is at most a limit
greatest_of : (test : ℕ → Bool) (weight : ℕ → ℕ) (limit : ℕ) → ((c : ℕ) → leb (weight c) limit ≡ test c)
    → (s : List ℕ) (top : ℕ) → leb (fold (λ t c. max (weight c) t) top s) limit ≡ (leb top limit && all test s)
greatest_of test weight limit so [] top = sym (and-true (leb top limit))
greatest_of test weight limit so (c ∷ s) top =
    greatest_of test weight limit so s (max (weight c) top) ∙ rw (leb_max (weight c) top limit, so c) (swap (test c) (leb top limit) (all test s))
  where
    swap : (a b d : Bool) → (a && b && d) ≡ (b && (a && d))
    swap true b d = refl
    swap false true d = refl
    swap false false d = refl

clean-by-weight : (c : ℕ) → leb (clean_weight c) 0xC5 ≡ is_clean c
unfolding is_clean
clean-by-weight c =
    elim (dec_lt c 32) [
      | yes h ↦ rw (lt-ltb c 32 h, lt-leb 32 c h)
      | no h ↦ rw (le-ltb c 32 (omega arith), le-leb 32 c (omega arith)) (go (eqb c 92) (eqb c 127) (is_lead c))
    ]
  where
    go : (b d l : Bool) → leb (if b || d || l then 255 else c) 0xC5 ≡ (not b && not d && not l && leb c 0xC5)
    go true d l = refl
    go false true l = refl
    go false false true = refl
    go false false false = refl

-- the greatest byte, behind a number, and the greatest weight
unfoldable pub greatest : ℕ → List ℕ → ℕ
greatest top s = fold (λ t c. max c t) top s

unfoldable pub heaviest : ℕ → List ℕ → ℕ
heaviest top s = fold (λ t c. max (clean_weight c) t) top s

pub latin_greatest : (s : List ℕ) → leb (greatest 0 s) 0xC5 ≡ is_latin s
unfolding greatest
latin_greatest s = greatest_of (λ c. leb c 0xC5) (λ c. c) 0xC5 (λ c. refl) s 0

pub clean_heaviest : (s : List ℕ) → leb (heaviest 0 s) 0xC5 ≡ all is_clean s
unfolding heaviest
clean_heaviest s = greatest_of is_clean clean_weight 0xC5 clean-by-weight s 0

module _ (s : List ℕ) (top i : ℕ) where
  pub greatest-go : i < length s → greatest top (drop i s) ≡ greatest (max (get_or s i 0) top) (drop (i + 1) s)
  unfolding greatest
  greatest-go h = rw (drop-cons s i 0 h, add-one i) refl

  pub greatest-end : length s ≤ i → greatest top (drop i s) ≡ top
  unfolding greatest
  greatest-end h = rw (drop_of_length-le s h) refl

  pub heaviest-go : i < length s → heaviest top (drop i s) ≡ heaviest (max (clean_weight (get_or s i 0)) top) (drop (i + 1) s)
  unfolding heaviest
  heaviest-go h = rw (drop-cons s i 0 h, add-one i) refl

  pub heaviest-end : length s ≤ i → heaviest top (drop i s) ≡ top
  unfolding heaviest
  heaviest-end h = rw (drop_of_length-le s h) refl

-- ---- nodes

-- what a node prints itself, and its children's names
module _ (n : Node) (kids : List Label) where
  pub row_latin_is : row_latin (label_in n) kids ≡ (is_latin (label_in n).zone && (not (quotes_names (shape_of (label_in n).kind) kids) || names_latin kids))
  unfolding row_latin
  row_latin_is = refl

-- a node's name, by the row's words
abbrev pub name_in : Node → List ℕ
name_in n = name_of n.whole.now.tree.text.now n.whole.now.tree.names.now (word_at n.whole.now.tree.rows.now n.at 6) (word_at n.whole.now.tree.rows.now n.at 7) (word_at n.whole.now.tree.rows.now n.at 8)

-- the first of nodes side by side and those that are left, or none
module _ (ns : Nodes) where
  pub pair_none : ns.start ≡ ns.end → quotes_names run_end_encoded (roots (labels_in ns)) ≡ false
  unfolding quotes_names
  pair_none e = rw (none-left ns e)

  pub names_none : ns.start ≡ ns.end → names_latin (roots (labels_in ns)) ≡ true
  names_none e = rw (none-left ns e)

  pub quoted_none : ns.start ≡ ns.end → quoted_latin (labels_in ns) ≡ true
  unfolding quoted_latin
  quoted_none e = rw (none-left ns e)

  module _ (r : Option Node) (left : Nodes) (g : GivesNode ns r left) (n : Node) (is : r ≡ Some n) where
    pub pair_one : left.start ≡ left.end → false ≡ quotes_names run_end_encoded (roots (labels_in ns))
    unfolding quotes_names
    pair_one e = rw (first_labels ns n left (given ns r left g n is), none-left left e)

    pub pair_two : (q : Option Node) (more : Nodes) → GivesNode left q more → (m : Node) → q ≡ Some m → (s t : List ℕ) → s ≡ name_in n → t ≡ name_in m
        → (d : Bool) → d ≡ (same s (bytes "run_ends") && same t (bytes "values")) → not d ≡ quotes_names run_end_encoded (roots (labels_in ns))
    unfolding quotes_names default_names label_of row_at
    pair_two q more h m so s t e f d k = rw (first_labels ns n left (given ns r left g n is), first_labels left m more (given left q more h m so), k, e, f)

    -- a name tells that not all are Latin, or the others tell
    module _ (all : Bool) (so : all ≡ names_latin (roots (labels_in ns))) (s : List ℕ) (name : s ≡ name_in n) (b : Bool) (test : b ≡ is_latin s) where
      names_first : all ≡ (b && names_latin (roots (labels_in left)))
      unfolding label_of row_at
      names_first = rw (so, first_labels ns n left (given ns r left g n is), test, name)

      pub names-no : b ≡ false → false ≡ all
      names-no e = rw (names_first, e)

      pub names-rest : b ≡ true → all ≡ names_latin (roots (labels_in left))
      names-rest e = rw (names_first, e)

  pub quoted_first : (n : Node) (left : Nodes) → IsFirst ns n left → quoted_latin (labels_in ns) ≡ (row_latin (label_in n) (roots (children_in n)) && quoted_latin (children_in n) && quoted_latin (labels_in left))
  unfolding quoted_latin row_latin
  quoted_first n left f = rw (first_labels ns n left f)

-- ---- a text whose bytes all pass a test

module _ (test : ℕ → Bool) where
  -- a part of a list that passes a test, and a name or a zone
  part-all : (s : List ℕ) (start size : ℕ) → T (all test s) → all test (part s start size) ≡ true
  part-all s start size t = go (leb (start + size) (length s))
    where
      go : (b : Bool) → all test (if b then take size (drop start s) else []) ≡ true
      go true = is_true _ (all_take test size (drop start s) (all_drop test start s t))
      go false = refl

  pub name-all : (text names : List ℕ) → T (all test text) → T (all test names) → (home start size : ℕ) → all test (name_of text names home start size) ≡ true
  unfolding name_of
  name-all text names a b zero start size = refl
  name-all text names a b (suc zero) start size = part-all text start size a
  name-all text names a b (suc (suc zero)) start size = part-all names start size b
  name-all text names a b (suc (suc (suc home))) start size = refl

  pub zone-all : (text : List ℕ) → T (all test text) → (start size : ℕ) → all test (zone_of text start size) ≡ true
  unfolding zone_of
  zone-all text a start size = part-all text start size a

-- so is what a tree over it says
module _ (text names : List ℕ) (a : T (is_latin text)) (b : T (is_latin names)) where
  roots-latin : (f : Forest Row) → names_latin (roots (labels text names f)) ≡ true
  unfolding labels label_of
  roots-latin ∅ = refl
  roots-latin (node r k n) = rw (name-all (λ c. leb c 0xC5) text names a b r.home r.name_start r.name_length) (roots-latin n)

  quoted-latin : (f : Forest Row) → quoted_latin (labels text names f) ≡ true
  unfolding quoted_latin labels label_of
  quoted-latin ∅ = refl
  quoted-latin (node r k n) =
      let q = not (quotes_names (shape_of r.kind) (roots (labels text names k))) in
      rw (zone-all (λ c. leb c 0xC5) text a r.zone_start r.zone_length, roots-latin k, or-true q, quoted-latin k) (quoted-latin n)

-- what is clean is Latin
clean_latin : (s : List ℕ) → T (all is_clean s) → T (is_latin s)
unfolding is_clean
clean_latin [] t = tt
clean_latin (c ∷ s) t =
    let low = leb 32 c && not (eqb c 92) && not (eqb c 127) && not (is_lead c) in
    both (leb c 0xC5) (is_latin s) (and_r low (leb c 0xC5) (and_l (low && leb c 0xC5) (all is_clean s) t)) (clean_latin s (and_r (low && leb c 0xC5) (all is_clean s) t))

-- ---- the whole tree

module _ (text names table : List ℕ) (sound : T (is_sound text names table)) where
  pub tree-latin : (r : Bool) → r ≡ is_latin text → r ≡ true → true ≡ quoted_latin (tree_of text names table)
  tree-latin r e f =
      let s = sound_tree text names table sound in
      let n : T (is_latin names) = rw s.listed tt in
      sym (ap quoted_latin (all_labels text names table sound) ∙ quoted-latin text names (of_true _ (sym e ∙ f)) n (forest_at table 0 (length table / row_words - 0)))

  pub tree-clean : (clean : Bool) → (clean ≡ true → T (all is_clean text)) → clean ≡ true → true ≡ quoted_latin (tree_of text names table)
  tree-clean clean c e = tree-latin true (sym (is_true _ (clean_latin text (c e)))) refl
