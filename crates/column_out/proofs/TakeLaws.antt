-- What stays of a sound tree.
--   not_sound, not_struct, no_field   17, 25 and 29
--   short_text, short_names, few_rows   what a sound tree has
--   first_within, stays    where the field is there
use Rattle.std.specs.Prelude.{Some, None}
use mathlib.Core.Path.{◌≡◌, refl, sym, ap, ◌∙◌, subst}
use mathlib.Core.Bool.{true, false}
use mathlib.Core.List.{List, [], ◌++◌}
use Prim.Native.Nat.{ℕ, suc, ◌+◌, ◌-◌, ◌/◌, ◌≤◌}
use native.Mathlib.Omega.{arith}
use lib.ListN.{length, length-append}
use borrow.Author.Tests.{lt-ltb, le-ltb}
use Rattle.tokenizer.specs.Answer.{done, refuse}
use Rattle.datatype.specs.Tree.{Forest, ∅, node, count, roots, Label, name_list, labels}
use Rattle.datatype.specs.Table.{row_words, tree_of, rows_at}
use Rattle.datatype.specs.declared.tree.Tree.{Tree}
use Rattle.unchecked_rows.specs.Internal.Run.{Nests}
use Rattle.unchecked_rows.proofs.Runs.{forest_none}
use Rattle.row_table.specs.Sound.{is_sound}
use Rattle.row_table.specs.Fields.{struct_fields, AreFields}
use Rattle.row_table.specs.declared.nodes.SoundTree.{SoundTree as Whole}
use Rattle.row_table.specs.declared.nodes.Node.{Node}
use Rattle.row_table.specs.declared.nodes.Nodes.{Nodes}
use Rattle.row_table.proofs.FieldLaws.{not-sound}
use Rattle.row_table.proofs.SoundTree.{SoundTree, sound_tree}
use Rattle.row_table.proofs.NodeLaws.{few_rows as words_most, all_labels, all_turn, root_all}
use Rattle.row_table.proofs.Walks.{labels-turn}
use Rattle.packing.specs.Packed.{row_text, packed_text}
use Rattle.packing.specs.Packer.{put_row, row_written, trees_written, trees_fit}
use Rattle.packing.specs.declared.packer.Packer.{Packer}
use Rattle.packing.proofs.PackerRuns.{fits_row, fits_kids, node-written, none-written}
use Rattle.column_out.specs.ColumnOut.{without, tree_left}
use Rattle.column_out.specs.declared.fields.Kept.{Kept}
use Rattle.column_out.specs.Internal.Stretch.{label_at, nth_row, stretch_length, put_stretch}
use Rattle.column_out.specs.Internal.Steps.{rows_in, Stays}
use Rattle.column_out.proofs.Stretches.{run}
use Rattle.column_out.proofs.Cuts.{fewer, Cut, cut}

pub not_sound : (text names table : List ℕ) (n : ℕ) → is_sound text names table ≡ false → refuse 17 ≡ tree_left text names table n
unfolding tree_left
not_sound text names table n e = rw (not-sound text names table e)

pub not_struct : (text names table : List ℕ) (n : ℕ) → struct_fields text names table ≡ refuse 25 → refuse 25 ≡ tree_left text names table n
unfolding tree_left
not_struct text names table n e = rw e

-- ---- a sound tree

module _ (w : Whole) where
  abbrev text : List ℕ
  text = w.tree.text.now

  abbrev names : List ℕ
  names = w.tree.names.now

  abbrev table : List ℕ
  table = w.tree.rows.now

  abbrev all : ℕ
  all = rows_in table

  s : SoundTree text names table
  s = sound_tree text names table w.sound

  pub short_text : length w.tree.text.now ≤ 16384
  short_text = s.short

  pub short_names : length w.tree.names.now ≤ 16384
  short_names = let e : length name_list ≡ 18 = refl in omega (arith, ap length s.listed)

  pub few_rows : length w.tree.rows.now / row_words ≤ 1024
  few_rows = omega (arith, words_most text names table w.sound)

  abbrev root : Label
  root = label_at text names table 0

  whole : tree_of text names table ≡ node root (run text names table 1 all) ∅
  unfolding labels
  whole =
      let r = root_all text names table w.sound in
      let e : 0 + all ≡ all = omega arith in
      let z : all - (0 + all) ≡ 0 = omega arith in
      all_labels text names table w.sound ∙ labels-turn text names table 0 all (all_turn text names table w.sound) ∙ rw (r, z, forest_none table (0 + all), e)

  module _ (fields : Nodes) (f : AreFields w fields) (n : ℕ) where
    say : struct_fields text names table ≡ done (run text names table 1 all)
    say = f.say ∙ ap done (rw (f.of, f.start, f.end))

    nests : Nests table 1 (all - 1)
    nests =
        let e : 0 + rows_at table 0 - (0 + 1) ≡ all - 1 = omega (arith, root_all text names table w.sound) in
        subst (λ (k : ℕ). Nests table 1 k) e (all_turn text names table w.sound).kids

    pub no_field : nth_row fields.whole.now.tree.rows.now fields.start fields.end n ≡ None → refuse 29 ≡ tree_left w.tree.text.now w.tree.names.now w.tree.rows.now n
    unfolding tree_left
    no_field e =
        let few = fewer text names table n 1 all nests (rw (f.of, f.start, f.end) at e) in
        rw (say, le-ltb n (length (roots (run text names table 1 all))) few)

    module _ (first : ℕ) (e : nth_row fields.whole.now.tree.rows.now fields.start fields.end n ≡ Some first) where
      cut-out : Cut text names table 1 all n first
      cut-out = cut text names table n 1 all first nests (rw (f.of, f.start, f.end) at e)

      pub first_within : (1 ≤ first) × (first + rows_at w.tree.rows.now first ≤ length w.tree.rows.now / row_words)
      first_within = (cut-out.begins, cut-out.within)

      abbrev rest : Forest Label
      rest = without n (run text names table 1 all)

      abbrev left : Forest Label
      left = node root rest ∅

      abbrev end : ℕ
      end = first + rows_at table first

      left-is : tree_left text names table n ≡ done left
      unfolding tree_left
      left-is = rw (say, whole, lt-ltb n (length (roots (run text names table 1 all))) cut-out.there)

      -- the root, and what stays below it
      left-put : (p : Packer) (rows : ℕ) → rows ≡ suc (count rest) → trees_fit p left ≡ true
          → put_stretch text names table (put_stretch text names table (put_row p root rows) 1 (first - 1)) end (all - end) ≡ trees_written p left
      left-put p rows r h =
          let own : put_row p root rows ≡ row_written p root (suc (count rest)) = ap (put_row p root) r ∙ (unfold put_row in rw (fits_row p root rest ∅ h)) in
          ap (λ (q : Packer). put_stretch text names table (put_stretch text names table q 1 (first - 1)) end (all - end)) own
          ∙ cut-out.put (row_written p root (suc (count rest))) (fits_kids p root (suc (count rest)) rest ∅ h)
          ∙ sym (none-written (trees_written (row_written p root (suc (count rest))) rest))
          ∙ node-written p root rest ∅

      left-rows : all - (end - first) ≡ suc (count rest)
      left-rows =
          let b = cut-out.begins in
          let i = cut-out.within in
          omega (arith, cut-out.rows)

      left-long : length (packed_text left) ≡ stretch_length text names table 0 (first - 0) + stretch_length text names table end (all - end)
      unfolding packed_text stretch_length
      left-long =
          let b = cut-out.begins in
          let e : first - 0 ≡ suc (first - 1) = omega arith in
          rw e (omega (arith, cut-out.long, length-append (row_text root) (packed_text rest ++ []), length-append (packed_text rest) []))

      pub stays : (kept : Kept) (before after : ℕ) → kept.first ≡ first → kept.end ≡ first + rows_at w.tree.rows.now first
          → kept.packed.rows ≡ rows_in w.tree.rows.now - (kept.end - first)
          → before ≡ stretch_length w.tree.text.now w.tree.names.now w.tree.rows.now 0 (first - 0)
          → after ≡ stretch_length w.tree.text.now w.tree.names.now w.tree.rows.now kept.end (rows_in w.tree.rows.now - kept.end)
          → kept.packed.bytes ≡ before + after
          → Stays w.tree.text.now w.tree.names.now w.tree.rows.now n kept
      stays kept before after f g r b a t =
          let i = cut-out.begins in
          let j = cut-out.within in
          let few = few_rows in
          let rows : kept.packed.rows ≡ suc (count rest) = omega (arith, left-rows) in
          let c : suc (count rest) ≡ count left = omega arith in
          let bytes : kept.packed.bytes ≡ length (packed_text left) = rw (t, b, a, g) (sym left-long) in
          record {
            left = left;
            is = left-is;
            size = λ j. record { rows = (rows ∙ c) j; bytes = bytes j };
            few = omega arith;
            some-rows = omega arith;
            ordered = omega arith;
            within = omega arith;
            put = λ p h. rw (f, g) (left-put p kept.packed.rows rows h);
          }

-- ---- of a tree that was found to be sound

module _ (w : Whole) (t : Tree) (of : w.tree ≡ t) (n : ℕ) where
  pub no-struct : struct_fields w.tree.text.now w.tree.names.now w.tree.rows.now ≡ refuse 25 → refuse 25 ≡ tree_left t.text.now t.names.now t.rows.now n
  no-struct e = subst (λ (x : Tree). refuse 25 ≡ tree_left x.text.now x.names.now x.rows.now n) of (not_struct w.tree.text.now w.tree.names.now w.tree.rows.now n e)

  module _ (fields : Nodes) (f : AreFields w fields) where
    pub no-field : nth_row fields.whole.now.tree.rows.now fields.start fields.end n ≡ None → refuse 29 ≡ tree_left t.text.now t.names.now t.rows.now n
    no-field e = subst (λ (x : Tree). refuse 29 ≡ tree_left x.text.now x.names.now x.rows.now n) of (no_field w fields f n e)

    module _ (gone : Node) (g : (gone.whole ≡ fields.whole) × (nth_row fields.whole.now.tree.rows.now fields.start fields.end n ≡ Some gone.at)) (size : ℕ) (rows : size ≡ rows_at gone.whole.now.tree.rows.now gone.at) where
      same-rows : rows_at gone.whole.now.tree.rows.now gone.at ≡ rows_at w.tree.rows.now gone.at
      same-rows = rw (g.0, f.of)

      pub gone_within : (1 ≤ gone.at) × (gone.at + size ≤ length w.tree.rows.now / row_words)
      gone_within = let i = first_within w fields f n gone.at g.1 in (i.0, omega (arith, same-rows, i.1))

      pub stays-left : (kept : Kept) (before after : ℕ) → kept.first ≡ gone.at → kept.end ≡ gone.at + size
          → kept.packed.rows ≡ rows_in w.tree.rows.now - (kept.end - gone.at)
          → before ≡ stretch_length w.tree.text.now w.tree.names.now w.tree.rows.now 0 (gone.at - 0)
          → after ≡ stretch_length w.tree.text.now w.tree.names.now w.tree.rows.now kept.end (rows_in w.tree.rows.now - kept.end)
          → kept.packed.bytes ≡ before + after
          → Stays t.text.now t.names.now t.rows.now n kept
      stays-left kept before after b e r p q y =
          subst (λ (x : Tree). Stays x.text.now x.names.now x.rows.now n kept) of
          (stays w fields f n gone.at g.1 kept before after b (e ∙ ap (λ (k : ℕ). gone.at + k) (rows ∙ same-rows)) r p q y)

pub ruleset staying = (not_sound, short_text, short_names, few_rows)
