-- The text of each sort of type and field, in the parts that the code writes.
use mathlib.Core.Path.{◌≡◌, refl, sym, ap, ◌∙◌}
use mathlib.Core.Bool.{Bool, true, false, not, ◌&&◌}
use mathlib.Core.Logic.{◌⊎◌, inl, inr}
use mathlib.Core.List.{List, [], ◌∷◌, ◌++◌, append_assoc, append-nil}
use Prim.Native.Nat.{ℕ, ◌+◌, ◌≤◌, ◌<◌}
use native.Mathlib.Omega.{arith}
use borrow.Author.Tests.{eq-eqb, ne_eqb}
use lib.ListN.{length, length-append}
use lib.Dec.{eqb}
use Rattle.std.proofs.lemmas.Bool.Decides.{nat_tests}
use Rattle.tokenizer.specs.Text.{bytes, same}
use Rattle.tokenizer.proofs.Basics.{of_true}
use Rattle.datatype.specs.Kind.{Shape, leaf, timestamp, time, interval, fixed, list, fixed_list, struct, union, dictionary, decimal, mapping, run_end_encoded, shape_of, is_word}
use Rattle.datatype.proofs.KindShapes.{shape_by, word_leaf}
use Rattle.datatype.specs.Tree.{depth, Label, name_of, zone_of, label_of}
use Rattle.datatype.specs.Table.{rows_at, word_at}
use Rattle.unchecked_rows.specs.Internal.Run.{row_at}
use Rattle.writer.specs.Digits.{digits}
use Rattle.row_table.specs.declared.nodes.Node.{Node}
use Rattle.row_table.specs.declared.nodes.Nodes.{Nodes}
use Rattle.row_table.specs.Nodes.{IsFirst}
use Rattle.row_table.specs.Internal.Nodes.{rows_in}
use Rattle.row_table.proofs.NodeLaws.{kind_said, levels_left}
use Rattle.display_length.specs.declared.printed.PrintedNode.{PrintedNode}
use Rattle.display_length.specs.Display.{kind_word, unit_text, interval_text, mode_text, sorted_text, scale_text, quoted, Shown, nullity_text, field_text, list_name_text, list_field_text, struct_text, union_text, zone_text, default_names, run_end_text, shape_text, type_text}
use Rattle.display_length.specs.Internal.Nodes.{label_in, levels_below}
use Rattle.datatype_display.specs.declared.write.Printer.{Printer}
use Rattle.datatype_display.specs.Internal.Steps.{Wrote, is_alone, comma, nullability, name_text, nullable_text, union_field_text, fields_in, text_in, shown_in, all_shown, shape_in}
use Rattle.writer.proofs.Written.{written_then, written_none}
use Rattle.datatype_display.proofs.Writes.{Left, left_as, left_step}
use Rattle.display_length.proofs.TreeLaws.{child-levels, printed_kind}
use Rattle.datatype_display.proofs.Children.{shown-none, shown-first, below-tree, below-start, below-levels, below-shown}

-- ---- zones

pub zone_none : (z : List ℕ) → length z ≡ 0 → zone_text z ≡ []
unfolding zone_text
zone_none [] e = refl
zone_none (c ∷ z) e = absurd (omega arith)

pub zone_some : (z : List ℕ) → 0 < length z → zone_text z ≡ bytes ", " ++ quoted z
unfolding zone_text
zone_some [] h = absurd (omega arith)
zone_some (c ∷ z) h = refl

pub ruleset zone_parts = (zone_none, zone_some, written_then, written_none, length-append)

module _ (n : PrintedNode) where
  -- word k of the node's row, its name and its zone
  abbrev word : ℕ → ℕ
  word k = word_at n.of.now.whole.tree.rows.now n.at k

  abbrev pub name : List ℕ
  name = name_of n.of.now.whole.tree.text.now n.of.now.whole.tree.names.now (word 6) (word 7) (word 8)

  abbrev zone : List ℕ
  zone = zone_of n.of.now.whole.tree.text.now (word 9) (word 10)

  -- ---- fields, with no type

  pub nullable_parts : nullable_text (shown_in n) ≡ nullability (word 2) ++ text_in n
  unfolding nullability nullable_text nullity_text label_of row_at
  nullable_parts = refl

  pub field_parts : field_text (shown_in n) ≡ name_text name (word 2) ++ text_in n
  unfolding name_text nullability field_text nullity_text label_of row_at
  field_parts = sym (append_assoc (quoted name) (bytes ": " ++ nullability (word 2)) (text_in n))

  pub list_field_parts : list_field_text (shown_in n) ≡ nullable_text (shown_in n) ++ list_name_text name
  unfolding nullable_text list_field_text label_of row_at
  list_field_parts = sym (append_assoc (nullity_text (label_in n)) (text_in n) (list_name_text name))

  pub union_field_parts : union_field_text (shown_in n) ≡ bytes ", " ++ (digits (word 3) ++ (bytes ": (" ++ (field_text (shown_in n) ++ bytes ")")))
  unfolding union_field_text label_of row_at
  union_field_parts = refl

  -- ---- types: the kind's word, and what stands behind it by the kind's shape

  pub type_parts : text_in n ≡ kind_word (word 0) ++ shape_in (shape_of (word 0)) n
  unfolding text_in shape_in type_text label_of row_at
  type_parts = refl

  pub leaf_part : shape_in leaf n ≡ []
  unfolding shape_in shape_text
  leaf_part = refl

  pub timestamp_parts : shape_in timestamp n ≡ bytes "(" ++ (unit_text n.of.now.spelling (word 4) ++ (zone_text zone ++ bytes ")"))
  unfolding shape_in shape_text label_of row_at
  timestamp_parts = refl

  pub time_parts : shape_in time n ≡ bytes "(" ++ (unit_text n.of.now.spelling (word 4) ++ bytes ")")
  unfolding shape_in shape_text label_of row_at
  time_parts = refl

  pub interval_parts : shape_in interval n ≡ bytes "(" ++ (interval_text (word 4) ++ bytes ")")
  unfolding shape_in shape_text label_of row_at
  interval_parts = refl

  pub fixed_parts : shape_in fixed n ≡ bytes "(" ++ (digits (word 4) ++ bytes ")")
  unfolding shape_in shape_text label_of row_at
  fixed_parts = refl

  pub decimal_parts : shape_in decimal n ≡ bytes "(" ++ (digits (word 4) ++ (bytes ", " ++ (scale_text (word 5) ++ bytes ")")))
  unfolding shape_in shape_text label_of row_at
  decimal_parts = refl

  pub struct_parts : shape_in struct n ≡ bytes "(" ++ (struct_text (fields_in n) ++ bytes ")")
  unfolding shape_in shape_text
  struct_parts = refl

  pub union_parts : shape_in union n ≡ bytes "(" ++ (mode_text (word 4) ++ (union_text (fields_in n) ++ bytes ")"))
  unfolding shape_in shape_text label_of row_at
  union_parts = refl

  -- ---- types with one type or two below them; without them there is nothing

  module _ (e : fields_in n ≡ []) where
    pub list_none : shape_in list n ≡ []
    unfolding shape_in shape_text
    list_none = rw e

    pub fixed_list_none : shape_in fixed_list n ≡ []
    unfolding shape_in shape_text
    fixed_list_none = rw e

    pub map_none : shape_in mapping n ≡ []
    unfolding shape_in shape_text
    map_none = rw e

  module _ (k : Shown) (ks : List Shown) (e : fields_in n ≡ k ∷ ks) where
    pub list_parts : shape_in list n ≡ bytes "(" ++ (list_field_text k ++ bytes ")")
    unfolding shape_in shape_text
    list_parts = rw e

    pub fixed_list_parts : shape_in fixed_list n ≡ bytes "(" ++ (digits (word 4) ++ (bytes " x " ++ (list_field_text k ++ bytes ")")))
    unfolding shape_in shape_text label_of row_at
    fixed_list_parts = rw e

    pub map_parts : shape_in mapping n ≡ bytes "(" ++ (field_text k ++ (bytes ", " ++ (sorted_text (word 4) ++ bytes ")")))
    unfolding shape_in shape_text label_of row_at
    map_parts = rw e

  few : (s : Shape) (l : Label) (ks : List Shown) → length ks < 2 → (s ≡ dictionary) ⊎ (s ≡ run_end_encoded) → shape_text n.of.now.spelling s l ks ≡ []
  unfolding shape_text
  few s l [] h (inl e) = rw e
  few s l (k ∷ []) h (inl e) = rw e
  few s l (k ∷ j ∷ ks) h (inl e) = absurd (omega arith)
  few s l [] h (inr e) = rw e
  few s l (k ∷ []) h (inr e) = rw e
  few s l (k ∷ j ∷ ks) h (inr e) = absurd (omega arith)

  module _ (h : length (fields_in n) < 2) where
    pub dictionary_none : shape_in dictionary n ≡ []
    unfolding shape_in
    dictionary_none = few dictionary (label_in n) (fields_in n) h (inl refl)

    pub run_end_none : shape_in run_end_encoded n ≡ []
    unfolding shape_in
    run_end_none = few run_end_encoded (label_in n) (fields_in n) h (inr refl)

  module _ (k v : Shown) (ks : List Shown) (e : fields_in n ≡ k ∷ v ∷ ks) where
    pub dictionary_parts : shape_in dictionary n ≡ bytes "(" ++ (k.text ++ (bytes ", " ++ (v.text ++ bytes ")")))
    unfolding shape_in shape_text
    dictionary_parts = rw e

-- a kind's word alone
pub word_leaf_is : (k : ℕ) → is_word k ≡ true → shape_of k ≡ leaf
word_leaf_is k e = word_leaf k (of_true _ e)

-- ---- RunEndEncoded: both fields, without their names where those are the default ones

module _ (n first second : PrintedNode) (ks : List Shown) (e : fields_in n ≡ shown_in first ∷ shown_in second ∷ ks) where
  abbrev default : Bool
  default = same (name first) (bytes "run_ends") && same (name second) (bytes "values")

  pub run_end_short : default ≡ true → shape_in run_end_encoded n ≡ bytes "(" ++ (nullable_text (shown_in first) ++ (bytes ", " ++ (nullable_text (shown_in second) ++ bytes ")")))
  unfolding shape_in shape_text run_end_text nullable_text default_names label_of row_at
  run_end_short t = rw (e, t) (simp append_assoc)

  pub run_end_long : default ≡ false → shape_in run_end_encoded n ≡ bytes "(" ++ (field_text (shown_in first) ++ (bytes ", " ++ (field_text (shown_in second) ++ bytes ")")))
  unfolding shape_in shape_text run_end_text default_names label_of row_at
  run_end_long t = rw (e, t) (simp append_assoc)

-- ---- kinds

pub leaf_middle : (k : ℕ) → is_alone k ≡ true → (k ≡ 19 → ⊥) → (k ≡ 21 → ⊥) → 19 ≤ k → k < 35 → shape_of k ≡ leaf
unfolding is_alone
leaf_middle k o n m a b = rw (shape_by k) (grind (arith, nat_tests))

-- ---- what the goals of each function cite

pub ruleset leaf_steps =
    (shape_by, nat_tests, leaf_middle, printed_kind, kind_said, type_parts, leaf_part, timestamp_parts, time_parts, interval_parts, fixed_parts, decimal_parts, written_then, written_none, length-append, append-nil)

pub ruleset field_steps = (nullable_parts, field_parts, list_field_parts, union_field_parts, written_then, length-append)

pub ruleset struct_steps = (struct_parts, written_then, length-append)

pub ruleset union_steps = (union_parts, written_then, length-append)

pub ruleset list_steps = (list_none, list_parts, written_then, written_none, length-append)

pub ruleset fixed_list_steps = (fixed_list_none, fixed_list_parts, written_then, written_none, length-append)

pub ruleset map_steps = (map_none, map_parts, written_then, written_none, length-append)

pub ruleset dictionary_steps = (dictionary_none, dictionary_parts, written_then, written_none, length-append)

pub ruleset run_end_steps = (run_end_none, run_end_short, run_end_long, written_then, written_none, length-append)

pub ruleset type_steps = (printed_kind, kind_said, type_parts, leaf_part, word_leaf_is, written_then, written_none, length-append, append-nil)

pub ruleset nested_steps = (shape_by, nat_tests, printed_kind, kind_said, type_parts, written_then, length-append)

-- ---- the fields of a Struct or Union, one behind another

-- behind the first field, each has a comma before it
abbrev pub struct_rest : Bool → List Shown → List ℕ
struct_rest first [] = []
struct_rest first (k ∷ ks) = comma (not first) ++ struct_text (k ∷ ks)

struct_next : (k : Shown) (ks : List Shown) → struct_text (k ∷ ks) ≡ field_text k ++ struct_rest false ks
unfolding struct_text comma
struct_next k [] = sym (append-nil (field_text k))
struct_next k (j ∷ ks) = refl

struct_all : (ks : List Shown) → struct_text ks ≡ struct_rest true ks
unfolding struct_text comma
struct_all [] = refl
struct_all (k ∷ ks) = refl

one_union_field : (id f more : List ℕ) → (bytes ", " ++ (id ++ (bytes ": (" ++ (f ++ (bytes ")" ++ more))))) ++ bytes ")" ≡ (bytes ", " ++ (id ++ (bytes ": (" ++ (f ++ bytes ")")))) ++ (more ++ bytes ")")
one_union_field id f more = simp append_assoc

module _ (n : PrintedNode) (level : ℕ) (before : Printer) (whole : List ℕ) where
  -- what `f` makes of the fields that are left is left to write
  pub record Fields (f : List Shown → List ℕ) (left : Nodes) (p : Printer) : Type 0 where
    pub of : left.whole.now ≡ n.of.now.whole
    pub behind : n.at + 1 ≤ left.start
    pub flat : depth (rows_in left) ≤ level
    pub rest : Left before whole (f (all_shown n.of.now.spelling left) ++ bytes ")") p

  -- before the first field
  fields_start : (f : List Shown → List ℕ) (kids : Nodes) (p : Printer) → (m : Node) → m.whole.now ≡ n.of.now.whole → m.at ≡ n.at → kids.whole ≡ m.whole → kids.start ≡ m.at + 1 → kids.end ≡ m.at + rows_at m.whole.now.tree.rows.now m.at → levels_below n ≤ level → Left before whole (f (fields_in n) ++ bytes ")") p → Fields f kids p
  fields_start f kids p m in_tree there of start end h l =
      record {
        of = below-tree n m in_tree there kids of start end;
        behind = let e = below-start n m in_tree there kids of start end in omega arith;
        flat = omega (arith, below-levels n m in_tree there kids of start end);
        rest = left_as (ap (λ ks. f ks ++ bytes ")") (sym (below-shown n m in_tree there kids of start end))) l;
      }

  pub struct_start : (kids : Nodes) (p : Printer) → (m : Node) → m.whole.now ≡ n.of.now.whole → m.at ≡ n.at → kids.whole ≡ m.whole → kids.start ≡ m.at + 1 → kids.end ≡ m.at + rows_at m.whole.now.tree.rows.now m.at → levels_below n ≤ level → Left before whole (struct_text (fields_in n) ++ bytes ")") p
      → Fields (struct_rest (eqb kids.start (n.at + 1))) kids p
  struct_start kids p m in_tree there of start end h l = rw (eq-eqb kids.start (n.at + 1) (below-start n m in_tree there kids of start end)) (fields_start (struct_rest true) kids p m in_tree there of start end h (left_as (ap (λ s. s ++ bytes ")") (struct_all (fields_in n))) l))

  pub union_start : (kids : Nodes) (p : Printer) → (m : Node) → m.whole.now ≡ n.of.now.whole → m.at ≡ n.at → kids.whole ≡ m.whole → kids.start ≡ m.at + 1 → kids.end ≡ m.at + rows_at m.whole.now.tree.rows.now m.at → levels_below n ≤ level → Left before whole (union_text (fields_in n) ++ bytes ")") p → Fields union_text kids p
  union_start = fields_start union_text

  module _ (left : Nodes) (p : Printer) where
    pub struct_end : (first : Bool) → Fields (struct_rest first) left p → left.start ≡ left.end → Left before whole (bytes ")") p
    struct_end first v e = left_as (ap (λ ks. struct_rest first ks ++ bytes ")") (shown-none n.of.now.spelling left e)) v.rest

    pub union_end : Fields union_text left p → left.start ≡ left.end → Left before whole (bytes ")") p
    unfolding union_text
    union_end v e = left_as (ap (λ ks. union_text ks ++ bytes ")") (shown-none n.of.now.spelling left e)) v.rest

    module _ (row : Node) (next : Nodes) (g : IsFirst left row next) (field : PrintedNode) (same : field.of ≡ n.of) (place : field.at ≡ row.at) where
      in_tree : field.of.now.whole ≡ n.of.now.whole
      in_tree = rw same refl

      pub field_level : (f : List Shown → List ℕ) → Fields f left p → levels_below field < level
      field_level f v = let d = v.flat in omega (arith, child-levels n.of.now.whole left v.of row next g field in_tree place)

      -- the first field has no comma before it
      abbrev first : Bool
      first = eqb row.at (n.at + 1)

      pub struct_here : Fields (struct_rest (eqb left.start (n.at + 1))) left p → Left before whole (comma (not first) ++ (field_text (shown_in field) ++ (struct_rest false (all_shown n.of.now.spelling next) ++ bytes ")"))) p
      struct_here v =
          left_as
          (
          ap (λ ks. struct_rest (eqb left.start (n.at + 1)) ks ++ bytes ")") (shown-first n.of.now.spelling left row next g field (rw v.of in_tree) place (rw same refl))
          ∙ ap (λ s. (comma (not (eqb left.start (n.at + 1))) ++ s) ++ bytes ")") (struct_next (shown_in field) (all_shown n.of.now.spelling next))
          ∙ ap (λ (i : ℕ). (comma (not (eqb i (n.at + 1))) ++ (field_text (shown_in field) ++ struct_rest false (all_shown n.of.now.spelling next))) ++ bytes ")") (sym g.at)
          ∙ simp append_assoc
          )
          v.rest

      pub struct_again : Fields (struct_rest (eqb left.start (n.at + 1))) left p → (b after : Printer) → Wrote p (comma (not first)) b → Wrote b (field_text (shown_in field)) after
          → Fields (struct_rest (eqb next.start (n.at + 1))) next after
      struct_again v b after c w =
          let s = g.start in
          let a = g.at in
          let r = row.some_rows in
          let h = v.behind in
          let d = v.flat in
          rw (ne_eqb next.start (n.at + 1) (λ z. omega arith))
          (record { of = rw g.of_left v.of; behind = omega arith; flat = omega (arith, levels_left left row next g); rest = left_step (left_step (struct_here v) c) w })

      pub union_here : Fields union_text left p → Left before whole (union_field_text (shown_in field) ++ (union_text (all_shown n.of.now.spelling next) ++ bytes ")")) p
      unfolding union_text union_field_text
      union_here v =
          left_as
          (
          ap (λ ks. union_text ks ++ bytes ")") (shown-first n.of.now.spelling left row next g field (rw v.of in_tree) place (rw same refl))
          ∙ one_union_field (digits (label_in field).union_id) (field_text (shown_in field)) (union_text (all_shown n.of.now.spelling next))
          )
          v.rest

      pub union_again : Fields union_text left p → (after : Printer) → Wrote p (union_field_text (shown_in field)) after → Fields union_text next after
      union_again v after w =
          let s = g.start in
          let a = g.at in
          let h = v.behind in
          let d = v.flat in
          record { of = rw g.of_left v.of; behind = omega arith; flat = omega (arith, levels_left left row next g); rest = left_step (union_here v) w }
