-- An image read into lent rows and a lent text: the answer, and what the lent rows and the lent text hold, case by case.
--   deep-not-sound   a tree of more than 64 levels, packed, is not sound
--   pack-lost, pack-deep, packs          what is read and packed, or 17 where there are too many levels
--   sound-lost, not-sound, is-sound      the same of a sound tree
use Rattle.std.specs.Prelude.{if◌then◌else◌}
use mathlib.Core.Path.{◌≡◌, refl, sym, ap, subst, ◌∙◌}
use mathlib.Core.Bool.{Bool, true, false}
use mathlib.Core.List.{List}
use mathlib.Core.Option.{some}
use Prim.Native.Nat.{ℕ, ◌*◌, ◌≤◌, ◌<◌, min}
use native.Mathlib.Omega.{arith}
use borrow.Author.Tests.{le-leb, ltb-true}
use lib.ListN.{length, take, drop, replicate, length-append}
use Rattle.datatype.proofs.Table.{length_table}
use lib.Dec.{T}
use Rattle.std.specs.Result.{is_err}
use Rattle.std.specs.declared.result.Result.{Result}
use Rattle.std.specs.declared.result.Result.TheVariants.{Ok, Err}
use Rattle.tokenizer.specs.Answer.{Refusal, Out, refused, done, refuse, ◌>>=◌, answer_of}
use Rattle.datatype.specs.Tree.{Forest, ∅, node, count, depth, Label, name_list}
use Rattle.datatype.specs.Table.{table_of, rows_lent}
use Rattle.row_table.specs.Sound.{is_sound}
use Rattle.row_table.proofs.SoundTree.{sound_tree}
use Rattle.row_table.proofs.Parented.{depth_parented}
use Rattle.datatype.proofs.Table.{view_table}
use Rattle.packing.specs.declared.Packed.{Packed}
use Rattle.packing.specs.declared.packer.Packer.{Packer}
use Rattle.packing.specs.Packed.{packed_text, packed_from, packed, packed_size, sum_of_lengths, size_fits, packed_rows, packed_bytes, size_by}
use Rattle.packing.specs.Packer.{with_words, with_bytes, written, put_trees, set_parents, trees_written}
use Rattle.packing.proofs.PackedLaws.{packed-length, depth-packed}
use Rattle.packing.proofs.LentLaws.{count-lent, packed-rows-first, packed-bytes-first}
use Rattle.packing.proofs.PackerRuns.{trees-put, first_fits, first_size, first_rows, first_text}
use Rattle.archive.specs.declared.NotRead.{NotRead}
use Rattle.archive.specs.declared.NotRead.TheVariants.{NotSound}
use Rattle.archive.specs.Archive.{Room, tree_at, unarchived, rows_by, text_by, unarchive_answer, unarchive_rows, unarchive_text, not_read_number}
use Rattle.archive.specs.Internal.Said.{read_means}
use Rattle.archive.specs.Internal.Fills.{too_deep, FillsTree, Packs, room_lent, flat_at}
use Rattle.archive.proofs.Holds.{holds_done}
use Rattle.archive.proofs.Rooms.{tree-took}

-- ---- depth

pub deep-not-sound : (f : Forest Label) (text names : List ℕ) → 64 < depth f → is_sound text names (table_of (packed f)) ≡ false
unfolding packed
deep-not-sound f text names h = go (is_sound text names (table_of (packed f))) refl
  where
    go : (b : Bool) → is_sound text names (table_of (packed f)) ≡ b → b ≡ false
    go false e = refl
    go true e = absurd (
        let s = sound_tree text names (table_of (packed f)) (subst T (sym e) tt) in
        let l = s.levels in
        let v : packed f ≡ node s.root s.kids ∅ = (let w : some (packed f) ≡ some (node s.root s.kids ∅) = sym (view_table (packed f)) ∙ s.view in cc) in
        let d : depth (packed f) ≡ depth f = depth_parented 0 0 (packed_from 0 f) ∙ depth-packed 0 f in
        omega (arith, ap depth v))

-- ---- read and packed

fits-lent : (f : Forest Label) (words bytes : ℕ) → count f ≤ rows_lent words → sum_of_lengths f ≤ min bytes 16384 → size_fits (packed_size f) words bytes ≡ true
unfolding size_fits
fits-lent f words bytes h k = rw (packed-length f, le-leb (count f) (rows_lent words) h, le-leb (sum_of_lengths f) (min bytes 16384) k)

pub few-lent : (words : ℕ) → rows_lent words ≤ 1024
unfolding rows_lent
few-lent words = omega arith

-- a lent packer that is empty, and the room that was asked
pub record Empty (p : Packer) (rows text : List ℕ) (lent : Room) : Type 0 where
  pub of-rows : p.rows.now ≡ rows
  pub of-text : p.text.now ≡ text
  pub no-rows : p.packed.rows ≡ 0
  pub no-bytes : p.packed.bytes ≡ 0
  pub room : lent ≡ room_lent rows text

module _ (image rows text : List ℕ) (lent : Room) (p p' : Packer) (s : Empty p rows text lent) where
  same-tree : tree_at image lent ≡ tree_at image (room_lent rows text)
  same-tree = ap (tree_at image) s.room

  pub pack-lost : (r : Result Bool NotRead) (x : NotRead) (answer : Result Packed NotRead) (rows' text' : List ℕ) → FillsTree (tree_at image lent) p r p' → r ≡ Err x → read_means (λ x. x) answer ≡ refuse (not_read_number x)
      → Packs (flat_at image rows text) rows text answer rows' text'
  unfolding FillsTree Packs flat_at
  pack-lost r x answer rows' text' f is a = go (tree_at image (room_lent rows text)) (subst (λ (y : Result Bool NotRead). FillsTree (tree_at image (room_lent rows text)) p y p') is (subst (λ (o : Out (Forest Label)). FillsTree o p r p') same-tree f))
    where
      go : (o : Out (Forest Label)) → FillsTree o p (Err x) p' → Packs (o >>= (λ f. if too_deep 64 f then refuse 17 else done f)) rows text answer rows' text'
      go (refused y) g = a ∙ (let z : ◌≡◌ {A = Out Bool} (refuse (not_read_number x)) (refused y) = g in cc)
      go (done f) g = absurd (let z : ◌≡◌ {A = Result Bool NotRead} (Err x) (Ok (too_deep 64 f)) = g.0 in cc)

  -- a tree was read
  pub record Got (deep : Bool) : Type 0 where
    pub tree : Forest Label
    pub is : tree_at image (room_lent rows text) ≡ done tree
    pub depth-is : too_deep 64 tree ≡ deep
    pub packed : deep ≡ false → p' ≡ put_trees p tree

  got : (r : Result Bool NotRead) (deep : Bool) → FillsTree (tree_at image lent) p r p' → r ≡ Ok deep → Got deep
  unfolding FillsTree
  got r deep f is = go (tree_at image (room_lent rows text)) refl (subst (λ (y : Result Bool NotRead). FillsTree (tree_at image (room_lent rows text)) p y p') is (subst (λ (o : Out (Forest Label)). FillsTree o p r p') same-tree f))
    where
      go : (o : Out (Forest Label)) → tree_at image (room_lent rows text) ≡ o → FillsTree o p (Ok deep) p' → Got deep
      go (refused y) e g = absurd (let z : ◌≡◌ {A = Out Bool} (done deep) (refused y) = g in cc)
      go (done f) e g =
          let d : deep ≡ too_deep 64 f = (let z : ◌≡◌ {A = Result Bool NotRead} (Ok deep) (Ok (too_deep 64 f)) = g.0 in cc) in
          record { tree = f; is = e; depth-is = sym d; packed = λ z. g.1 (sym d ∙ z) }

  pub pack-deep : (r : Result Bool NotRead) (deep : Bool) (rows' text' : List ℕ) → FillsTree (tree_at image lent) p r p' → r ≡ Ok deep → deep ≡ true → Packs (flat_at image rows text) rows text (Err NotSound) rows' text'
  unfolding Packs flat_at
  pack-deep r deep rows' text' f is d = let g = got r deep f is in let k : too_deep 64 g.tree ≡ true = g.depth-is ∙ d in rw (g.is, k) refl

  module _ (r : Result Bool NotRead) (deep : Bool) (f : FillsTree (tree_at image lent) p r p') (is : r ≡ Ok deep) (d : deep ≡ false) (q : Packer) (set : q ≡ set_parents p') where
    abbrev g : Got deep
    g = got r deep f is

    fits : size_fits (packed_size g.tree) (length p.rows.now) (length p.text.now) ≡ true
    fits =
        let t = holds_done (λ (f : Forest Label). (count f ≤ (room_lent rows text).rows) × (sum_of_lengths f ≤ (room_lent rows text).bytes)) (tree_at image (room_lent rows text)) g.tree (tree-took image (room_lent rows text)) g.is in
        (λ j. size_fits (packed_size g.tree) (length (s.of-rows j)) (length (s.of-text j))) ∙ fits-lent g.tree (length rows) (length text) t.0 t.1

    all : q ≡ set_parents (trees_written p g.tree)
    all = set ∙ ap set_parents (g.packed d ∙ trees-put p g.tree (first_fits g.tree p s.no-rows s.no-bytes fits))

    pub same-lent-rows : q.rows.ghost_name ≡ p.rows.ghost_name
    unfolding set_parents trees_written written with_bytes with_words
    same-lent-rows = ap (λ (x : Packer). x.rows.ghost_name) all

    pub same-lent-text : q.text.ghost_name ≡ p.text.ghost_name
    unfolding set_parents trees_written written with_bytes with_words
    same-lent-text = ap (λ (x : Packer). x.text.ghost_name) all

    pub packs : (rows' text' : List ℕ) → rows' ≡ q.rows.now → text' ≡ q.text.now → Packs (flat_at image rows text) rows text (Ok q.packed) rows' text'
    unfolding Packs flat_at
    packs rows' text' x y =
        let k : too_deep 64 g.tree ≡ false = g.depth-is ∙ d in
        rw (g.is, k) (
          ap (λ (q : Packer). Ok q.packed) all ∙ ap Ok (first_size g.tree p s.no-rows s.no-bytes),
          (
            x ∙ ap (λ (q : Packer). q.rows.now) all ∙ first_rows g.tree p s.no-rows s.no-bytes fits ∙ ap (packed_rows g.tree) s.of-rows,
            y ∙ ap (λ (q : Packer). q.text.now) all ∙ first_text g.tree p s.no-rows s.no-bytes fits ∙ ap (packed_bytes g.tree) s.of-text,
          ),
        )

-- ---- a sound tree

module _ (image rows text : List ℕ) where
  abbrev tree : Out (Forest Label)
  tree = tree_at image (room_lent rows text)

  abbrev flat : Out (Forest Label) → Out (Forest Label)
  flat o = o >>= (λ f. if too_deep 64 f then refuse 17 else done f)

  abbrev sound : Out (Forest Label) → Out (Forest Label)
  sound o = o >>= (λ f. if is_sound (packed_text f) name_list (table_of (packed f)) then done f else refuse 17)

  flat-lost : (o : Out (Forest Label)) (x : Refusal) → flat o ≡ refused x → sound o ≡ refused x
  flat-lost (refused y) x e = e
  flat-lost (done f) x e = go (too_deep 64 f) refl e
    where
      go : (b : Bool) → too_deep 64 f ≡ b → (if b then refuse 17 else done f) ≡ refused x → sound (done f) ≡ refused x
      go true d e = rw (deep-not-sound f (packed_text f) name_list (ltb-true 64 (depth f) d)) e
      go false d e = absurd (let z : ◌≡◌ {A = Out (Forest Label)} (done f) (refused x) = e in cc)

  flat-done : (o : Out (Forest Label)) (f : Forest Label) → flat o ≡ done f → o ≡ done f
  flat-done (refused y) f e = absurd (let z : ◌≡◌ {A = Out (Forest Label)} (refused y) (done f) = e in cc)
  flat-done (done g) f e = go (too_deep 64 g) e
    where
      go : (b : Bool) → (if b then refuse 17 else done g) ≡ done f → done g ≡ done f
      go true e = absurd (let z : ◌≡◌ {A = Out (Forest Label)} (refuse 17) (done f) = e in cc)
      go false e = e

  module _ (r : Result Packed NotRead) (rows' text' : List ℕ) (p : Packs (flat_at image rows text) rows text r rows' text') where
    pub sound-lost : (x : NotRead) (answer : Result Packed NotRead) (rows'' text'' : List ℕ) → r ≡ Err x → read_means (λ x. x) answer ≡ refuse (not_read_number x)
        → Packs (unarchived image (length rows) (length text)) rows text answer rows'' text''
    unfolding Packs flat_at unarchived
    sound-lost x answer rows'' text'' is a = go (flat tree) refl (subst (λ (y : Result Packed NotRead). Packs (flat_at image rows text) rows text y rows' text') is p)
      where
        go : (o : Out (Forest Label)) → flat tree ≡ o → Packs o rows text (Err x) rows' text' → Packs (sound tree) rows text answer rows'' text''
        go (refused y) e g = rw (flat-lost tree y e) (a ∙ (let z : ◌≡◌ {A = Out Packed} (refuse (not_read_number x)) (refused y) = g in cc))
        go (done f) e g = absurd (let z : ◌≡◌ {A = Result Packed NotRead} (Err x) (Ok (packed_size f)) = g.0 in cc)

    module _ (size : Packed) (is : r ≡ Ok size) where
      pub record Whole : Type 0 where
        pub labels : Forest Label
        pub of : tree ≡ done labels
        pub size-is : size ≡ packed_size labels
        pub rows-are : rows' ≡ packed_rows labels rows
        pub text-is : text' ≡ packed_bytes labels text

      whole : Whole
      unfolding Packs flat_at
      whole = go (flat tree) refl (subst (λ (y : Result Packed NotRead). Packs (flat_at image rows text) rows text y rows' text') is p)
        where
          go : (o : Out (Forest Label)) → flat tree ≡ o → Packs o rows text (Ok size) rows' text' → Whole
          go (refused y) e g = absurd (let z : ◌≡◌ {A = Out Packed} (done size) (refused y) = g in cc)
          go (done f) e g = record {
            labels = f;
            of = flat-done tree f e;
            size-is = (let z : ◌≡◌ {A = Result Packed NotRead} (Ok size) (Ok (packed_size f)) = g.0 in cc);
            rows-are = g.1.0;
            text-is = g.1.1;
          }

      first-words : take (12 * size.rows) rows' ≡ table_of (packed whole.labels)
      first-words = (λ j. take (12 * (whole.size-is j).rows) (whole.rows-are j)) ∙ packed-rows-first whole.labels rows

      first-bytes : take size.bytes text' ≡ packed_text whole.labels
      first-bytes = (λ j. take (whole.size-is j).bytes (whole.text-is j)) ∙ packed-bytes-first whole.labels text

      pub few-rows : size.rows ≤ 1024
      few-rows =
          let t = holds_done (λ (f : Forest Label). (count f ≤ (room_lent rows text).rows) × (sum_of_lengths f ≤ (room_lent rows text).bytes)) tree whole.labels (tree-took image (room_lent rows text)) whole.of in
          let a = t.0 in
          omega (arith, few-lent (length rows), ap (λ (p : Packed). p.rows) whole.size-is)

      pub rows-within : 12 * size.rows ≤ length rows'
      unfolding packed_rows
      rows-within = omega (arith, ap length whole.rows-are, length-append (table_of (packed whole.labels)) (drop (length (table_of (packed whole.labels))) rows), length_table (packed whole.labels), count-lent whole.labels, ap (λ (p : Packed). p.rows) whole.size-is)

      pub bytes-within : size.bytes ≤ length text'
      unfolding packed_bytes
      bytes-within = omega (arith, ap length whole.text-is, length-append (packed_text whole.labels) (drop (length (packed_text whole.labels)) text), ap (λ (p : Packed). p.bytes) whole.size-is)

      judged : (b : Bool) → is_sound (take size.bytes text') name_list (take (12 * size.rows) rows') ≡ b → is_sound (packed_text whole.labels) name_list (table_of (packed whole.labels)) ≡ b
      judged b e = (λ j. is_sound (sym first-bytes j) name_list (sym first-words j)) ∙ e

      pub not-sound : is_sound (take size.bytes text') name_list (take (12 * size.rows) rows') ≡ false → (rows'' text'' : List ℕ) → Packs (unarchived image (length rows) (length text)) rows text (Err NotSound) rows'' text''
      unfolding Packs unarchived
      not-sound e rows'' text'' = let w = whole in let j = judged false e in rw (w.of, j) refl

      pub is-sound : is_sound (take size.bytes text') name_list (take (12 * size.rows) rows') ≡ true → Packs (unarchived image (length rows) (length text)) rows text (Ok size) rows' text'
      unfolding Packs unarchived
      is-sound e = let w = whole in let j = judged true e in rw (w.of, j) (ap Ok w.size-is, (w.rows-are, w.text-is))

-- ---- the public answer: a refusal leaves all zeros

module _ (image rows text : List ℕ) (r : Result Packed NotRead) (rows' text' : List ℕ) (p : Packs (unarchived image (length rows) (length text)) rows text r rows' text') where
  pub read-answer : answer_of not_read_number r ≡ unarchive_answer image rows text
  unfolding unarchive_answer Packs
  read-answer = go (unarchived image (length rows) (length text)) p
    where
      same : (a : Result Packed NotRead) → answer_of not_read_number a ≡ read_means (λ x. x) a
      same (Ok size) = refl
      same (Err e) = refl

      go : (o : Out (Forest Label)) → Packs o rows text r rows' text' → answer_of not_read_number r ≡ size_by o
      go (refused x) g = same r ∙ g
      go (done f) g = ap (answer_of not_read_number) g.0

  refused-or : is_err r ≡ true → (x : Refusal) × (unarchived image (length rows) (length text) ≡ refused x)
  unfolding Packs
  refused-or e = go (unarchived image (length rows) (length text)) refl p
    where
      go : (o : Out (Forest Label)) → unarchived image (length rows) (length text) ≡ o → Packs o rows text r rows' text' → (x : Refusal) × (unarchived image (length rows) (length text) ≡ refused x)
      go (refused x) i g = (x, i)
      go (done f) i g = absurd (let z : T (is_err r) = subst T (sym e) tt in subst (λ (y : Result Packed NotRead). T (is_err y)) g.0 z)

  pub cleared-rows : is_err r ≡ true → (z : List ℕ) → z ≡ replicate (length rows') 0 → length rows' ≡ length rows → z ≡ unarchive_rows image rows text
  unfolding unarchive_rows
  cleared-rows e z i l = let x = refused-or e in rw x.1 (i ∙ ap (λ (n : ℕ). replicate n 0) l)

  pub cleared-text : is_err r ≡ true → (z : List ℕ) → z ≡ replicate (length text') 0 → length text' ≡ length text → z ≡ unarchive_text image rows text
  unfolding unarchive_text
  cleared-text e z i l = let x = refused-or e in rw x.1 (i ∙ ap (λ (n : ℕ). replicate n 0) l)

  pub read-rows : is_err r ≡ false → rows' ≡ unarchive_rows image rows text
  unfolding unarchive_rows Packs
  read-rows e = go (unarchived image (length rows) (length text)) r e p
    where
      go : (o : Out (Forest Label)) (r : Result Packed NotRead) → is_err r ≡ false → Packs o rows text r rows' text' → rows' ≡ rows_by o rows
      go (refused x) (Ok y) e g = absurd (let z : ◌≡◌ {A = Out Packed} (done y) (refused x) = g in cc)
      go (refused x) (Err y) e g = absurd (let z : T false = subst T e tt in z)
      go (done f) r e g = g.1.0

  pub read-text : is_err r ≡ false → text' ≡ unarchive_text image rows text
  unfolding unarchive_text Packs
  read-text e = go (unarchived image (length rows) (length text)) r e p
    where
      go : (o : Out (Forest Label)) (r : Result Packed NotRead) → is_err r ≡ false → Packs o rows text r rows' text' → text' ≡ text_by o text
      go (refused x) (Ok y) e g = absurd (let z : ◌≡◌ {A = Out Packed} (done y) (refused x) = g in cc)
      go (refused x) (Err y) e g = absurd (let z : T false = subst T e tt in z)
      go (done f) r e g = g.1.1
