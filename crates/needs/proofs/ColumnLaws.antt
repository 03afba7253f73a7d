-- The one column of a name, among the fields of a tree's root.
--   columns-unsound, columns_refused, columns_are   17, 25, or the columns
--   columns_none, columns_first   what nodes side by side say: nothing where none is left, else the first and the others
--   Searching                     what the search for a name holds
use Rattle.std.specs.declared.option.Option.{Option}
use Rattle.std.specs.declared.option.Option.TheVariants.{None, Some}
use Rattle.std.specs.Option.{option_to_list}
use Rattle.std.specs.Prelude.{if◌then◌else◌, is_some}
use mathlib.Core.Path.{◌≡◌, refl, sym, ◌∙◌}
use mathlib.Core.Bool.{Bool, true, false}
use mathlib.Core.List.{List, [], ◌∷◌, ◌++◌}
use Prim.Native.Nat.{ℕ}
use Rattle.tokenizer.specs.Text.{same}
use Rattle.tokenizer.specs.Answer.{done, refuse}
use Rattle.datatype.specs.Tree.{Label, name_of, label_of}
use Rattle.datatype.specs.Table.{word_at}
use Rattle.datatype.specs.Table.{row_at}
use Rattle.row_table.specs.declared.nodes.Node.{Node}
use Rattle.row_table.specs.declared.nodes.Nodes.{Nodes}
use Rattle.row_table.specs.Nodes.{label_in, IsFirst}
use Rattle.row_table.specs.declared.nodes.SoundTree.{SoundTree}
use Rattle.row_table.specs.Sound.{is_sound, struct_fields}
use Rattle.row_table.specs.Fields.{AreFields}
use Rattle.row_table.proofs.NodeLaws.{none-left, first_labels}
use Rattle.row_table.proofs.FieldLaws.{not-sound}
use Rattle.needs.specs.Needs.{fields_named, only, columns_of}
use Rattle.needs.specs.Internal.Columns.{columns_in, said}

-- ---- the columns of a tree

pub columns-unsound : (text names table : List ℕ) → is_sound text names table ≡ false → columns_of text names table ≡ refuse 17
unfolding columns_of
columns-unsound text names table e = rw (not-sound text names table e)

module _ (w : SoundTree) where
  pub columns_refused : struct_fields w.tree.text.now w.tree.names.now w.tree.rows.now ≡ refuse 25 → columns_of w.tree.text.now w.tree.names.now w.tree.rows.now ≡ refuse 25
  unfolding columns_of
  columns_refused e = rw e

  pub columns_are : (ns : Nodes) → AreFields w ns → columns_of w.tree.text.now w.tree.names.now w.tree.rows.now ≡ done (columns_in ns)
  unfolding columns_of columns_in
  columns_are ns f = rw f.say

-- ---- columns side by side

pub columns_none : (ns : Nodes) → ns.start ≡ ns.end → columns_in ns ≡ []
unfolding columns_in
columns_none ns e = rw (none-left ns e)

pub columns_first : (ns : Nodes) (n : Node) (left : Nodes) → IsFirst ns n left → columns_in ns ≡ label_in n ∷ columns_in left
unfolding columns_in
columns_first ns n left f = rw (first_labels ns n left f)

-- ---- the one of a name

only_found : (o : Option Label) → only (option_to_list o ++ []) ≡ o
only_found None = refl
only_found (Some l) = refl

-- what the loop holds: the one of a name is among what was found and what is left
pub record Searching (name : List ℕ) (all : List Label) (found : Option Node) (left : Nodes) : Type 0 where
  pub so : only (fields_named name all) ≡ only (option_to_list (said found) ++ fields_named name (columns_in left))

module _ (name : List ℕ) (all : List Label) where
  pub search_start : (ns : Nodes) → all ≡ columns_in ns → Searching name all None ns
  search_start ns e = record { so = rw e }

  module _ (found : Option Node) (ns : Nodes) (v : Searching name all found ns) where
    pub search_end : ns.start ≡ ns.end → said found ≡ only (fields_named name all)
    search_end h = sym (v.so ∙ rw (columns_none ns h) (only_found (said found)))

    module _ (n : Node) (left : Nodes) (f : IsFirst ns n left) (s : List ℕ) (is : s ≡ name_of n.whole.now.tree.text.now n.whole.now.tree.names.now (word_at n.whole.now.tree.rows.now n.at 6) (word_at n.whole.now.tree.rows.now n.at 7) (word_at n.whole.now.tree.rows.now n.at 8)) (b : Bool) (test : b ≡ same s name) where
      -- the columns of that name from here on
      named : fields_named name (columns_in ns) ≡ (if b then label_in n ∷ fields_named name (columns_in left) else fields_named name (columns_in left))
      unfolding label_of row_at
      named = rw (columns_first ns n left f, test, is)

      pub search_pass : b ≡ false → Searching name all found left
      search_pass e = record { so = v.so ∙ rw (named, e) }

      pub search_twice : b ≡ true → is_some found ≡ true → None ≡ only (fields_named name all)
      search_twice e g = sym (v.so ∙ rw (named, e) (two found g))
        where
          two : (o : Option Node) → is_some o ≡ true → only (option_to_list (said o) ++ label_in n ∷ fields_named name (columns_in left)) ≡ None
          two None q = absurd (let z : ◌≡◌ {A = Bool} false true = q in cc)
          two (Some r) q = refl

      pub search_found : b ≡ true → is_some found ≡ false → Searching name all (Some n) left
      search_found e g = record { so = v.so ∙ rw (named, e) (first found g) }
        where
          first : (o : Option Node) → is_some o ≡ false → only (option_to_list (said o) ++ label_in n ∷ fields_named name (columns_in left)) ≡ only (label_in n ∷ fields_named name (columns_in left))
          first None q = refl
          first (Some r) q = absurd (let z : ◌≡◌ {A = Bool} true false = q in cc)

-- what `sound_tree`, `columns_of` and `only_named` use
pub ruleset columns_unsound = (columns-unsound)

pub ruleset columns_steps = (columns_refused, columns_are)

pub ruleset search_steps = (search_start, search_end)
