-- Printed lengths: a row's own bytes plus its children's are the length of its printed text.
use Rattle.std.specs.Prelude.{if◌then◌else◌}
use mathlib.Core.Path.{◌≡◌, refl, ap, ◌∙◌}
use mathlib.Core.Bool.{Bool, true, false}
use mathlib.Core.List.{List, [], ◌∷◌, ◌++◌, map}
use Prim.Native.Nat.{ℕ, suc, ◌+◌}
use native.Mathlib.Omega.{arith}
use lib.ListN.{length, length-append}
use lib.Dec.{T}
use Rattle.tokenizer.specs.Text.{bytes}
use Rattle.tokenizer.proofs.Basics.{and_l, and_r}
use Rattle.datatype.specs.Kind.{Shape, leaf, timestamp, time, interval, fixed, list, fixed_list, struct, union, dictionary, decimal, mapping, run_end_encoded, shape_of}
use Rattle.datatype.specs.Tree.{Forest, ∅, node, roots, Label}
use Rattle.row_table.specs.Sound.{Standing, arity_fits, rules_of, row_fits, rows_fit}
use Rattle.display_length.specs.declared.words.Spelling.{Spelling}
use Rattle.display_length.specs.Display.{Shown, untyped, field_text, list_field_text, struct_text, union_text, default_names, run_end_text, shape_text, type_text, shown, display, own_length, display_length, nullity_text}

ruleset split = (and_l, and_r)

-- how long the printed types of some rows are together
abbrev total : List Shown → ℕ
total [] = 0
total (k ∷ ks) = length k.text + total ks

-- the same rows without their types
abbrev blank : Shown → Shown
blank k = untyped k.label

field_length_lem : (k : Shown) → length (field_text k) ≡ length (field_text (blank k)) + length k.text
unfolding field_text
field_length_lem k = simp length-append (omega arith)

list_field_length : (k : Shown) → length (list_field_text k) ≡ length (list_field_text (blank k)) + length k.text
unfolding list_field_text
list_field_length k = simp length-append (omega arith)

struct_length : (ks : List Shown) → length (struct_text ks) ≡ length (struct_text (map blank ks)) + total ks
unfolding struct_text
struct_length [] = refl
struct_length (k ∷ []) = field_length_lem k ∙ omega arith
struct_length (k ∷ j ∷ ks) = simp length-append (omega (arith, field_length_lem k, struct_length (j ∷ ks)))

union_length : (ks : List Shown) → length (union_text ks) ≡ length (union_text (map blank ks)) + total ks
unfolding union_text
union_length [] = refl
union_length (k ∷ ks) = simp length-append (omega (arith, field_length_lem k, union_length ks))

run_end_length : (r v : Shown) → length (run_end_text r v) ≡ length (run_end_text (blank r) (blank v)) + length r.text + length v.text
unfolding run_end_text
run_end_length r v = go (default_names r.label v.label)
  where
    go : (short : Bool)
        → length (if short then nullity_text r.label ++ (r.text ++ (bytes ", " ++ (nullity_text v.label ++ v.text))) else (field_text r ++ (bytes ", " ++ field_text v)))
        ≡ length (if short then nullity_text r.label ++ (bytes ", " ++ (nullity_text v.label ++ [])) else (field_text (blank r) ++ (bytes ", " ++ field_text (blank v)))) + length r.text + length v.text
    go true = simp length-append (omega arith)
    go false = simp length-append (omega (arith, field_length_lem r, field_length_lem v))

-- the count of a row's children is its shape's
arity : (place : Standing) (l : Label) (kids : Forest Label) → T (row_fits place l kids) → T (arity_fits (rules_of (shape_of l.kind)).children (length (roots kids)))
unfolding row_fits
arity place l kids h = search split depth 12

module _ (spelling : Spelling) where
  -- what stands behind a kind's word, where the count of children is the shape's
  shape_length : (s : Shape) (l : Label) (ks : List Shown) → T (arity_fits (rules_of s).children (length ks))
      → length (shape_text spelling s l ks) ≡ length (shape_text spelling s l (map blank ks)) + total ks
  unfolding arity_fits rules_of shape_text
  shape_length leaf l [] h = refl
  shape_length leaf l (k ∷ ks) h = absurd h
  shape_length timestamp l [] h = omega arith
  shape_length timestamp l (k ∷ ks) h = absurd h
  shape_length time l [] h = omega arith
  shape_length time l (k ∷ ks) h = absurd h
  shape_length interval l [] h = omega arith
  shape_length interval l (k ∷ ks) h = absurd h
  shape_length fixed l [] h = omega arith
  shape_length fixed l (k ∷ ks) h = absurd h
  shape_length decimal l [] h = omega arith
  shape_length decimal l (k ∷ ks) h = absurd h
  shape_length list l [] h = absurd h
  shape_length list l (k ∷ []) h = simp length-append (omega (arith, list_field_length k))
  shape_length list l (k ∷ j ∷ ks) h = absurd h
  shape_length fixed_list l [] h = absurd h
  shape_length fixed_list l (k ∷ []) h = simp length-append (omega (arith, list_field_length k))
  shape_length fixed_list l (k ∷ j ∷ ks) h = absurd h
  shape_length struct l ks h = simp length-append (omega (arith, struct_length ks))
  shape_length union l ks h = simp length-append (omega (arith, union_length ks))
  shape_length dictionary l [] h = absurd h
  shape_length dictionary l (k ∷ []) h = absurd h
  shape_length dictionary l (k ∷ v ∷ []) h = simp length-append (omega arith)
  shape_length dictionary l (k ∷ v ∷ j ∷ ks) h = absurd h
  shape_length mapping l [] h = absurd h
  shape_length mapping l (k ∷ []) h = simp length-append (omega (arith, field_length_lem k))
  shape_length mapping l (k ∷ j ∷ ks) h = absurd h
  shape_length run_end_encoded l [] h = absurd h
  shape_length run_end_encoded l (r ∷ []) h = absurd h
  shape_length run_end_encoded l (r ∷ v ∷ []) h = simp length-append (omega (arith, run_end_length r v))
  shape_length run_end_encoded l (r ∷ v ∷ j ∷ ks) h = absurd h

  -- a row's own bytes, and its children's types
  type_length_lem : (l : Label) (ks : List Shown) → T (arity_fits (rules_of (shape_of l.kind)).children (length ks))
      → length (type_text spelling l ks) ≡ length (type_text spelling l (map blank ks)) + total ks
  unfolding type_text
  type_length_lem l ks h = simp length-append (omega (arith, shape_length (shape_of l.kind) l ks h))

  blank_shown : (f : Forest Label) → map blank (shown spelling f) ≡ map untyped (roots f)
  unfolding shown
  blank_shown ∅ = refl
  blank_shown (node l kids next) = ap (λ (ks : List Shown). untyped l ∷ ks) (blank_shown next)

  length_shown : (f : Forest Label) → length (shown spelling f) ≡ length (roots f)
  unfolding shown
  length_shown ∅ = refl
  length_shown (node l kids next) = ap suc (length_shown next)

  total_shown : (place : Standing) (f : Forest Label) → T (rows_fit place f) → total (shown spelling f) ≡ display_length spelling f
  unfolding rows_fit shown display_length own_length
  total_shown place ∅ h = refl
  total_shown place (node l kids next) h =
      let below : T (rows_fit (rules_of (shape_of l.kind)).below kids) = search split in
      let beside : T (rows_fit place next) = search split in
      let a : T (arity_fits (rules_of (shape_of l.kind)).children (length (shown spelling kids))) = rw (length_shown kids) (arity place l kids (search split)) in
      let own : length (type_text spelling l (map blank (shown spelling kids))) ≡ length (type_text spelling l (map untyped (roots kids))) = ap (λ (ks : List Shown). length (type_text spelling l ks)) (blank_shown kids) in
      omega (arith, type_length_lem l (shown spelling kids) a, own, total_shown (rules_of (shape_of l.kind)).below kids below, total_shown place next beside)

  -- the printed length is the length of the printed text
  pub display_length_lem : (place : Standing) (l : Label) (kids : Forest Label) → T (rows_fit place (node l kids ∅))
      → length (display spelling (node l kids ∅)) ≡ display_length spelling (node l kids ∅)
  unfolding display shown
  display_length_lem place l kids h = omega (arith, total_shown place (node l kids ∅) h)
