-- What taking a column out promises.
--   without-trees     the fields that stay are the others, in their order
--   without-fits      what is left of a sound tree is what a sound tree says
--   column-out        where a column was taken out, the rows and the text lent begin with a sound tree: what is left
--   only-field        taking the only field leaves `Struct()`
use Rattle.std.specs.Prelude.{if◌then◌else◌}
use mathlib.Core.Path.{◌≡◌, refl, sym, ap, subst, ◌∙◌}
use mathlib.Core.Bool.{Bool, true, false, not, ◌&&◌}
use mathlib.Core.List.{List, [], ◌∷◌, ◌++◌}
use Prim.Native.Nat.{ℕ, zero, suc, ◌*◌, ◌≤◌, ◌<◌, min}
use native.Mathlib.Omega.{arith}
use lib.ListN.{length, take, drop}
use lib.Dec.{T, leb, ltb, eqb, eqb→eq, ltb→lt}
use Rattle.tokenizer.proofs.Basics.{of_true}
use Rattle.tokenizer.specs.Text.{is_empty}
use Rattle.std.proofs.lemmas.Bool.Decides.{nat_tests}
use Rattle.tokenizer.specs.Answer.{Out, refused, done, refuse, ◌>>=◌}
use Rattle.datatype.specs.Kind.{shape_of}
use Rattle.datatype.specs.Tree.{Forest, ∅, node, count, roots, depth, Label, name_list, label_of, labels}
use Rattle.datatype.specs.Table.{row_words, table_of, tree_of, rows_lent}
use Rattle.row_table.specs.Fields.{struct_fields}
use Rattle.row_table.specs.Sound.{Rules, Standing, bare, arity_fits, role_fits, id_fits, name_fits, rules_of, zone_fits, shape_fits, rows_fit, is_sound}
use Rattle.row_table.proofs.SoundTree.{RowFits, rules_at, rows_fit_lem, fits_rows, SoundTree, sound_tree, sound-labels}
use Rattle.packing.specs.Packed.{packed_text, packed, packed_size, size_fits, size_by, sum_of_lengths}
use Rattle.packing.specs.declared.Packed.{Packed}
use Rattle.packing.proofs.PackedLaws.{packed-length, packed-tree, SoundLabels, sound-says, packed-sound}
use Rattle.packing.proofs.LentLaws.{packed-rows-first, packed-bytes-first}
use Rattle.column_out.specs.ColumnOut.{without, trees, tree_left, column_out, rows_by, bytes_by, column_out_answer, column_out_rows, column_out_bytes, empty_struct}

-- ---- a run without one of its trees

pub without-trees : {A : Type 0} (n : ℕ) (f : Forest A) → trees (without n f) ≡ take n (trees f) ++ drop (suc n) (trees f)
without-trees zero ∅ = refl
without-trees (suc n) ∅ = refl
without-trees zero (node a kids next) = refl
without-trees (suc n) (node a kids next) = ap (λ (l : List _). node a kids ∅ ∷ l) (without-trees n next)

without-count : {A : Type 0} (n : ℕ) (f : Forest A) → count (without n f) ≤ count f
without-count zero ∅ = omega arith
without-count (suc n) ∅ = omega arith
without-count zero (node a kids next) = omega arith
without-count (suc n) (node a kids next) = omega (arith, without-count n next)

without-depth : {A : Type 0} (n : ℕ) (f : Forest A) → depth (without n f) ≤ depth f
without-depth zero ∅ = omega arith
without-depth (suc n) ∅ = omega arith
without-depth zero (node a kids next) = omega arith
without-depth (suc n) (node a kids next) = omega (arith, without-depth n next)

without-rows : (standing : Standing) (n : ℕ) (f : Forest Label) → T (rows_fit standing f) → T (rows_fit standing (without n f))
without-rows standing zero ∅ t = t
without-rows standing (suc n) ∅ t = t
without-rows standing zero (node l kids next) t = (rows_fit_lem standing l kids next t).2
without-rows standing (suc n) (node l kids next) t =
    let w = rows_fit_lem standing l kids next t in
    fits_rows standing l kids (without n next) w.0 w.1 (without-rows standing n next w.2)

-- ---- a sound Struct

no_bytes : (m : List ℕ) → T (is_empty m) → m ≡ []
no_bytes [] t = refl
no_bytes (b ∷ m) t = absurd t

module _ (root : Label) (fields : Forest Label) (s : SoundLabels root fields) (struct : root.kind ≡ 32) where
  rules : rules_at root ≡ rules_of (shape_of 32)
  rules = ap (λ (k : ℕ). rules_of (shape_of k)) struct

  parts : RowFits bare root fields × T (rows_fit (rules_at root).below fields) × T (rows_fit bare ∅)
  parts = rows_fit_lem bare root fields ∅ s.fits

  any-fields : (kids : Forest Label) → RowFits bare root kids
  unfolding shape_of rules_of arity_fits shape_fits
  any-fields kids =
      let r = parts.0 in
      record {
        kind = r.kind;
        arity = rw struct tt;
        role = r.role;
        union_id = r.union_id;
        number = r.number;
        scale = r.scale;
        name = r.name;
        zone = r.zone;
        shape = rw struct tt;
      }

  pub without-fits : (n : ℕ) → SoundLabels root (without n fields)
  without-fits n =
      let r = s.rows in
      let l = s.levels in
      record {
        rows = omega (arith, without-count n fields);
        levels = omega (arith, without-depth n fields);
        fits = fits_rows bare root (without n fields) ∅ (any-fields (without n fields)) (without-rows (rules_at root).below n fields parts.1) parts.2;
      }

  -- such a root says what `Struct()` says
  pub root-empty : root ≡ empty_struct
  unfolding shape_of rules_of role_fits id_fits name_fits zone_fits
  root-empty =
      let r = parts.0 in
      let role = eqb→eq root.role 0 r.role in
      let id = eqb→eq root.union_id 0 r.union_id in
      let number : root.number ≡ 0 = let h : root.number < (rules_of (shape_of 32)).params = subst (λ (a : Rules). root.number < a.params) rules r.number in omega arith in
      let scale : root.scale ≡ 0 = let h : root.scale < (rules_of (shape_of 32)).scales = subst (λ (a : Rules). root.scale < a.scales) rules r.scale in omega arith in
      let name = no_bytes root.name r.name in
      let zone = no_bytes root.zone (subst (λ (a : Rules). T (zone_fits a.zoned root.zone)) rules r.zone) in
      λ j. record { kind = struct j; role = role j; union_id = id j; number = number j; scale = scale j; name = name j; zone = zone j }

-- ---- a column that was taken out

if_done : {A : Type 0} (b : Bool) (o : Out A) (n : ℕ) (a : A) → (if b then o else refuse n) ≡ done a → (b ≡ true) × (o ≡ done a)
if_done true o n a e = (refl, e)
if_done false o n a e = absurd (let z : ◌≡◌ {A = ℕ} 0 1 = cc in omega arith)

then_done : {A : Type 0} (o : Out A) (t : A → Bool) (n : ℕ) (a : A) → (o >>= λ x. if t x then done x else refuse n) ≡ done a → (o ≡ done a) × (t a ≡ true)
then_done (refused r) t n a e = absurd (let z : ◌≡◌ {A = ℕ} 0 1 = cc in omega arith)
then_done (done x) t n a e =
    let c = if_done (t x) (done x) n a e in
    let q : x ≡ a = cc in
    (c.1, subst (λ y. t y ≡ true) q c.0)

-- where a test that has to hold comes first
then_holds : {A B : Type 0} (b : Bool) (o : Out A) (n : ℕ) (k : A → Out B) (a : B) → ((if not b then refuse n else o) >>= k) ≡ done a → (b ≡ true) × ((o >>= k) ≡ done a)
then_holds true o n k a e = (refl, e)
then_holds false o n k a e = absurd (let z : ◌≡◌ {A = ℕ} 0 1 = cc in omega arith)

answered : (o : Out (Forest Label)) (size : Packed) → size_by o ≡ done size → (f : Forest Label) × (o ≡ done f) × (packed_size f ≡ size)
answered (refused r) size e = absurd (let z : ◌≡◌ {A = ℕ} 0 1 = cc in omega arith)
answered (done f) size e = (f, refl, cc)

-- What was taken apart, and what the lent rows and the lent text hold at their starts.
pub record ColumnOut (text names table : List ℕ) (n : ℕ) (rows bytes : List ℕ) (size : Packed) : Type 0 where
  -- a sound tree, a Struct with the field
  pub fields : Forest Label
  pub was : tree_of text names table ≡ node empty_struct fields ∅
  pub there : n < length (roots fields)
  -- so many rows and bytes are a sound tree
  pub sound : T (is_sound (take size.bytes (column_out_bytes text names table n rows bytes)) name_list (take (row_words * size.rows) (column_out_rows text names table n rows bytes)))
  -- a Struct of the other fields, in their order (`without-trees`)
  pub says : tree_of (take size.bytes (column_out_bytes text names table n rows bytes)) name_list (take (row_words * size.rows) (column_out_rows text names table n rows bytes)) ≡ node empty_struct (without n fields) ∅
  -- and the packed length is the sum of the lengths that stay
  pub sum : size.bytes ≡ sum_of_lengths (without n fields)

module _ (text names table : List ℕ) (n : ℕ) (rows bytes : List ℕ) where
  module _ (fields : Forest Label) (s : SoundLabels empty_struct (without n fields))
      (c : column_out text names table n (length rows) (length bytes) ≡ done (node empty_struct (without n fields) ∅))
      (fits : size_fits (packed_size (node empty_struct (without n fields) ∅)) (length rows) (length bytes) ≡ true) where
    abbrev left : Forest Label
    left = node empty_struct (without n fields) ∅

    both-fit : (leb (count left) (rows_lent (length rows)) && leb (length (packed_text left)) (min (length bytes) 16384)) ≡ true
    unfolding size_fits
    both-fit = fits

    short : length (packed_text left) ≤ 16384
    short = let t = both-fit in grind (arith, nat_tests)

    rows-first : take (row_words * count left) (column_out_rows text names table n rows bytes) ≡ table_of (packed left)
    unfolding column_out_rows
    rows-first = ap (λ (o : Out (Forest Label)). take (row_words * count left) (rows_by o rows)) c ∙ packed-rows-first left rows

    bytes-first : take (length (packed_text left)) (column_out_bytes text names table n rows bytes) ≡ packed_text left
    unfolding column_out_bytes
    bytes-first = ap (λ (o : Out (Forest Label)). take (length (packed_text left)) (bytes_by o bytes)) c ∙ packed-bytes-first left bytes

    taken-out : tree_of text names table ≡ node empty_struct fields ∅ → n < length (roots fields) → ColumnOut text names table n rows bytes (packed_size (node empty_struct (without n fields) ∅))
    taken-out was there =
        record {
          fields = fields;
          was = was;
          there = there;
          sound = rw (rows-first, bytes-first) (packed-sound empty_struct (without n fields) s short);
          says = rw (rows-first, bytes-first) (packed-tree name_list left);
          sum = packed-length left ∙ (let z : sum_of_lengths left ≡ sum_of_lengths (without n fields) = omega arith in z);
        }

  -- what the answer says of the tree
  module _ (f : Forest Label) (c : column_out text names table n (length rows) (length bytes) ≡ done f) where
    room : (tree_left text names table n ≡ done f) × (size_fits (packed_size f) (length rows) (length bytes) ≡ true)
    unfolding column_out
    room = then_done (tree_left text names table n) (λ (x : Forest Label). size_fits (packed_size x) (length rows) (length bytes)) 28 f c

    module _ (root : Label) (fields : Forest Label) (w : SoundLabels root fields) (was : tree_of text names table ≡ node root fields ∅) where
      judged : (is_sound text names table ≡ true) × (eqb root.kind 32 ≡ true) × (ltb n (length (roots fields)) ≡ true) × (done (node root (without n fields) ∅) ≡ done f)
      unfolding tree_left struct_fields
      judged =
          let k = λ (fs : Forest Label). if ltb n (length (roots fs)) then done (node root (without n fields) ∅) else refuse 29 in
          let e : ((if not (is_sound text names table) then refuse 17 else (if not (eqb root.kind 32) then refuse 25 else done fields)) >>= k) ≡ done f = rw was at room.0 in
          let a = then_holds (is_sound text names table) (if not (eqb root.kind 32) then refuse 25 else done fields) 17 k f e in
          let b = then_holds (eqb root.kind 32) (done fields) 25 k f a.1 in
          let d = if_done (ltb n (length (roots fields))) (done (node root (without n fields) ∅)) 29 f b.1 in
          (a.0, b.0, d.0, d.1)

      of-tree : ColumnOut text names table n rows bytes (packed_size f)
      of-tree =
          let struct = eqb→eq root.kind 32 (of_true _ judged.1) in
          let r = root-empty root fields w struct in
          let left : node empty_struct (without n fields) ∅ ≡ f = ap (λ (x : Label). node x (without n fields) ∅) (sym r) ∙ (let q = judged.3 in cc) in
          subst (λ (g : Forest Label). ColumnOut text names table n rows bytes (packed_size g)) left
          (taken-out fields (subst (λ (x : Label). SoundLabels x (without n fields)) r (without-fits root fields w struct n))
          (c ∙ ap done (sym left))
          (ap (λ (g : Forest Label). size_fits (packed_size g) (length rows) (length bytes)) left ∙ room.1)
          (was ∙ ap (λ (x : Label). node x fields ∅) r)
          (ltb→lt n (length (roots fields)) (of_true _ judged.2)))

    found-sound : is_sound text names table ≡ true
    unfolding tree_left struct_fields
    found-sound = (then_holds (is_sound text names table) _ 17 _ f room.0).0

    of-sound : SoundTree text names table → ColumnOut text names table n rows bytes (packed_size f)
    unfolding labels
    of-sound s = of-tree (label_of text names s.root) (labels text names s.kids) (sound-says text names table s) (sound-labels text names table s)

  -- Where a column was taken out, the rows and the text lent begin with what is left.
  pub column-out : (size : Packed) → column_out_answer text names table n rows bytes ≡ done size → ColumnOut text names table n rows bytes size
  unfolding column_out_answer
  column-out size e =
      let a = answered (column_out text names table n (length rows) (length bytes)) size e in
      subst (λ (z : Packed). ColumnOut text names table n rows bytes z) a.2 (of-sound a.0 a.1 (sound_tree text names table (of_true _ (found-sound a.0 a.1))))

  -- Taking the only field leaves `Struct()`.
  pub only-field : (size : Packed) (field : Label) (below : Forest Label) → n ≡ 0 → column_out_answer text names table n rows bytes ≡ done size → tree_of text names table ≡ node empty_struct (node field below ∅) ∅
      → tree_of (take size.bytes (column_out_bytes text names table n rows bytes)) name_list (take (row_words * size.rows) (column_out_rows text names table n rows bytes)) ≡ node empty_struct ∅ ∅
  only-field size field below z e t =
      let c = column-out size e in
      let q : c.fields ≡ node field below ∅ = let w = sym c.was ∙ t in cc in
      c.says ∙ (λ j. node empty_struct (without (z j) (q j)) ∅)
