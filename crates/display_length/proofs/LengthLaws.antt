-- The parts in which the code counts a row's own bytes are together what `own_length` says.
--   own_length_lem     of one row over its children
--   type_length_lem    of a tree whose rows fit
use Rattle.std.specs.Prelude.{if◌then◌else◌}
use mathlib.Core.Path.{ap, ◌≡◌, refl}
use mathlib.Core.Bool.{Bool, true, false, not}
use mathlib.Core.List.{List, [], ◌∷◌, ◌++◌, map}
use Prim.Native.Nat.{ℕ, ◌+◌, ◌<◌}
use native.Mathlib.Omega.{arith}
use lib.ListN.{length, length-append}
use lib.Dec.{T, eqb}
use Rattle.tokenizer.specs.Text.{bytes}
use Rattle.datatype.specs.Kind.{Shape, leaf, timestamp, time, interval, fixed, list, fixed_list, struct, union, dictionary, decimal, mapping, run_end_encoded, kinds, shape_of}
use Rattle.datatype.specs.Tree.{Forest, ∅, node, roots, Label}
use Rattle.row_table.specs.Sound.{Standing, arity_fits, rules_of, rows_fit}
use Rattle.row_table.proofs.SoundTree.{RowFits, rows_fit_lem}
use Rattle.display_length.specs.declared.words.Spelling.{Spelling}
use Rattle.display_length.specs.Display.{kind_word, list_name_text, untyped, nullity_text, field_text, list_field_text, struct_text, union_text, default_names, run_end_text, shape_text, type_text, own_length, display_length}
use Rattle.display_length.specs.PrintedLength.{quotes_names}
use Rattle.display_length.proofs.WordLaws.{kind_text_is}
use Rattle.display_length.specs.Internal.Steps.{word_length, behind_length, row_length, comma_length, nullity_length, field_length, around_length, children_length, type_length}

-- ---- words

word_length_lem : (k : ℕ) → k < kinds → word_length k ≡ length (kind_word k)
unfolding word_length
word_length_lem k h = ap length (kind_text_is k h)

-- ---- what stands around a child's type

nullity_length_lem : (l : Label) → length (nullity_text l) ≡ nullity_length l.role
unfolding nullity_text nullity_length
nullity_length_lem l = go (eqb l.role 2)
  where
    go : (b : Bool) → length (if b then bytes "non-null " else []) ≡ (if b then 9 else 0)
    go true = refl
    go false = refl

field_length_lem : (l : Label) → length (field_text (untyped l)) ≡ field_length true l
unfolding field_text field_length
field_length_lem l = simp length-append (omega (arith, nullity_length_lem l))

list_field_length : (l : Label) → length (list_field_text (untyped l)) ≡ nullity_length l.role + length (list_name_text l.name)
unfolding list_field_text
list_field_length l = simp length-append (omega (arith, nullity_length_lem l))

-- around the types of all children
abbrev around : Shape → Bool → Bool → List Label → ℕ
around s q f [] = 0
around s q f (l ∷ ls) = around_length s q f l + around s q false ls

struct_more : (l : Label) (ls : List Label) → around struct true false (l ∷ ls) ≡ 2 + length (struct_text (map untyped (l ∷ ls)))
unfolding struct_text around_length
struct_more l [] = omega (arith, field_length_lem l)
struct_more l (k ∷ ls) = simp length-append (omega (arith, field_length_lem l, struct_more k ls))

struct_around : (ls : List Label) → length (struct_text (map untyped ls)) ≡ around struct true true ls
unfolding struct_text around_length
struct_around [] = refl
struct_around (l ∷ []) = omega (arith, field_length_lem l)
struct_around (l ∷ k ∷ ls) = simp length-append (omega (arith, field_length_lem l, struct_more k ls))

union_around : (f : Bool) (ls : List Label) → length (union_text (map untyped ls)) ≡ around union true f ls
unfolding union_text around_length
union_around f [] = refl
union_around f (l ∷ ls) = simp length-append (omega (arith, field_length_lem l, union_around false ls))

run_end_around : (r v : Label) → length (run_end_text (untyped r) (untyped v)) ≡ around run_end_encoded (not (default_names r v)) true (r ∷ v ∷ [])
unfolding run_end_text around_length
run_end_around r v = go (default_names r v)
  where
    go : (b : Bool)
        → length (if b then nullity_text r ++ (bytes ", " ++ (nullity_text v ++ [])) else (field_text (untyped r) ++ (bytes ", " ++ field_text (untyped v))))
        ≡ comma_length true + field_length (not b) r + (comma_length false + field_length (not b) v + 0)
    go true = unfold field_length in simp length-append (omega (arith, nullity_length_lem r, nullity_length_lem v))
    go false = simp length-append (omega (arith, field_length_lem r, field_length_lem v))

-- ---- one row

module _ (spelling : Spelling) where
  shape_around : (s : Shape) (l : Label) (ls : List Label) → T (arity_fits (rules_of s).children (length ls))
      → length (shape_text spelling s l (map untyped ls)) ≡ behind_length spelling s l + around s (quotes_names s ls) true ls
  unfolding arity_fits rules_of shape_text behind_length quotes_names around_length
  shape_around leaf l [] h = refl
  shape_around leaf l (k ∷ ls) h = absurd h
  shape_around timestamp l [] h = simp length-append (omega arith)
  shape_around timestamp l (k ∷ ls) h = absurd h
  shape_around time l [] h = simp length-append (omega arith)
  shape_around time l (k ∷ ls) h = absurd h
  shape_around interval l [] h = simp length-append (omega arith)
  shape_around interval l (k ∷ ls) h = absurd h
  shape_around fixed l [] h = simp length-append (omega arith)
  shape_around fixed l (k ∷ ls) h = absurd h
  shape_around decimal l [] h = simp length-append (omega arith)
  shape_around decimal l (k ∷ ls) h = absurd h
  shape_around list l [] h = absurd h
  shape_around list l (k ∷ []) h = simp length-append (omega (arith, list_field_length k))
  shape_around list l (k ∷ j ∷ ls) h = absurd h
  shape_around fixed_list l [] h = absurd h
  shape_around fixed_list l (k ∷ []) h = simp length-append (omega (arith, list_field_length k))
  shape_around fixed_list l (k ∷ j ∷ ls) h = absurd h
  shape_around struct l ls h = simp length-append (omega (arith, struct_around ls))
  shape_around union l ls h = simp length-append (omega (arith, union_around true ls))
  shape_around dictionary l [] h = absurd h
  shape_around dictionary l (k ∷ []) h = absurd h
  shape_around dictionary l (k ∷ v ∷ []) h = refl
  shape_around dictionary l (k ∷ v ∷ j ∷ ls) h = absurd h
  shape_around mapping l [] h = absurd h
  shape_around mapping l (k ∷ []) h = simp length-append (omega (arith, field_length_lem k))
  shape_around mapping l (k ∷ j ∷ ls) h = absurd h
  shape_around run_end_encoded l [] h = absurd h
  shape_around run_end_encoded l (r ∷ []) h = absurd h
  shape_around run_end_encoded l (r ∷ v ∷ []) h = simp length-append (omega (arith, run_end_around r v))
  shape_around run_end_encoded l (r ∷ v ∷ j ∷ ls) h = absurd h

  own_length_lem : (l : Label) (ls : List Label) → l.kind < kinds → T (arity_fits (rules_of (shape_of l.kind)).children (length ls))
      → own_length spelling l ls ≡ row_length spelling l + around (shape_of l.kind) (quotes_names (shape_of l.kind) ls) true ls
  unfolding own_length type_text row_length
  own_length_lem l ls h a =
      simp length-append (omega (arith, word_length_lem l.kind h, shape_around (shape_of l.kind) l ls a))

  -- ---- a run of trees

  children_length_lem : (place : Standing) (f : Forest Label) → T (rows_fit place f) → (s : Shape) (q first : Bool)
      → children_length spelling s q first f ≡ around s q first (roots f) + display_length spelling f
  unfolding children_length display_length
  children_length_lem place ∅ t s q first = refl
  children_length_lem place (node l kids next) t s q first = go (rows_fit_lem place l kids next t) (λ p u z r b. children_length_lem p kids u z r b) (λ u. children_length_lem place next u s q false)
    where
      go : RowFits place l kids × T (rows_fit (rules_of (shape_of l.kind)).below kids) × T (rows_fit place next)
          → ((p : Standing) → T (rows_fit p kids) → (z : Shape) (r b : Bool) → children_length spelling z r b kids ≡ around z r b (roots kids) + display_length spelling kids)
          → (T (rows_fit place next) → children_length spelling s q false next ≡ around s q false (roots next) + display_length spelling next)
          → children_length spelling s q first (node l kids next) ≡ around s q first (l ∷ roots next) + (own_length spelling l (roots kids) + display_length spelling kids + display_length spelling next)
      go (f, b, n) below beside =
          let s' : Shape = shape_of l.kind in
          let k = below (rules_of s').below b s' (quotes_names s' (roots kids)) true in
          let m = beside n in
          let o = own_length_lem l (roots kids) f.kind f.arity in
          omega arith

  -- a tree whose rows fit
  pub type_length_lem : (place : Standing) (l : Label) (kids : Forest Label) → T (rows_fit place (node l kids ∅)) → type_length spelling l kids ≡ display_length spelling (node l kids ∅)
  unfolding type_length display_length
  type_length_lem place l kids t = go (rows_fit_lem place l kids ∅ t)
    where
      go : RowFits place l kids × T (rows_fit (rules_of (shape_of l.kind)).below kids) × T (rows_fit place ∅) → type_length spelling l kids ≡ own_length spelling l (roots kids) + display_length spelling kids + 0
      go (f, b, n) =
          let s' : Shape = shape_of l.kind in
          let k = children_length_lem (rules_of s').below kids b s' (quotes_names s' (roots kids)) true in
          let o = own_length_lem l (roots kids) f.kind f.arity in
          omega arith
