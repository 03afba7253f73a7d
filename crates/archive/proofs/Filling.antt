-- Filling rows with the records of an image.
--   fills-lost, fills-end, fills-turn   what a loop over records keeps, and where it ends
--   fills-deep                          where no level is left
use Rattle.std.specs.Prelude.{if◌then◌else◌}
use mathlib.Core.Path.{◌≡◌, refl, sym, ap, subst, ◌∙◌}
use mathlib.Core.Bool.{Bool, true, false, not, ◌||◌}
use mathlib.Core.List.{List, [], ◌∷◌}
use Prim.Native.Nat.{ℕ, zero, suc, ◌-◌, ◌≤◌, ◌<◌}
use native.Mathlib.Omega.{arith}
use borrow.Author.Tests.{lt-ltb, le-ltb, ne_eqb}
use Rattle.std.specs.Bool.{◌==◌}
use Rattle.std.proofs.lemmas.Bool.Decides.{nat_tests}
use lib.ListN.{length}
use lib.Seq.{take_all}
use lib.Dec.{T}
use Rattle.std.specs.Result.{IsErrAnd}
use Rattle.std.specs.declared.result.Result.{Result}
use Rattle.std.specs.declared.result.Result.TheVariants.{Ok, Err}
use Rattle.tokenizer.specs.Answer.{Refusal, Out, refused, done, refuse, ◌>>=◌}
use Rattle.tokenizer.specs.Text.{is_empty}
use Rattle.datatype.specs.Tree.{Forest, ∅, node, depth, Label}
use Rattle.packing.specs.declared.packer.Packer.{Packer}
use Rattle.packing.specs.Packer.{put_row, set_subtree, put_trees}
use Rattle.archive.specs.declared.NotRead.{NotRead}
use Rattle.archive.specs.declared.NotRead.TheVariants.{WrongLength}
use Rattle.archive.specs.declared.fill.Filled.{Filled}
use Rattle.archive.specs.declared.record.Room.{Room as Left}
use Rattle.archive.specs.declared.record.Head.{Head as Parted}
use Rattle.archive.specs.Archive.{Room, Head, Read, record_at, records_at, tree_at, not_read_number}
use Rattle.archive.specs.Internal.Said.{room_said, head_said, read_means}
use Rattle.archive.specs.Internal.Fills.{too_deep, filled, Fills, FillsTree}
use Rattle.archive.proofs.Holds.{Holds, holds_then, holds_any, holds_done, bind_each}
use Rattle.archive.specs.Internal.Chain.{left_of, between}
use Rattle.archive.proofs.Rooms.{HeadTook, record-took, ReadTook, records-took}
use Rattle.archive.proofs.Chain.{Apart, apart, below-short, behind-short, records-enough}

-- ---- depth

deep-none : (level : ℕ) (deep : Bool) → (deep || too_deep level ∅) ≡ deep
deep-none level true = refl
deep-none level false = le-ltb level 0 (omega arith)

deep-node : (level : ℕ) (l : Label) (kids next : Forest Label) (deep : Bool) → 1 ≤ level → (deep || too_deep level (node l kids next)) ≡ ((deep || too_deep (level - 1) kids) || too_deep level next)
deep-node level l kids next true h = refl
deep-node level l kids next false h = grind (arith, nat_tests)

-- ---- one turn

abbrev whole : Label → Read → Read → Out Read
whole l kids next = done (record { trees = node l kids.trees next.trees; room = next.room })

-- behind a record and its children's, what is read of the rest
rest-fills : (deep : Bool) (level : ℕ) (l : Label) (kids : Read) (p p' : Packer) (o : Out Read) (answer : Result Filled NotRead) (after : Packer) → 1 ≤ level
    → (too_deep (level - 1) kids.trees ≡ false → p' ≡ put_trees (put_row p l 0) kids.trees)
    → Fills (deep || too_deep (level - 1) kids.trees) level o (set_subtree p' p.packed.rows) answer after
    → Fills deep level (o >>= (λ next. whole l kids next)) p answer after
unfolding Fills put_trees
rest-fills deep level l kids p p' (refused r) answer after h k f = f
rest-fills deep level l kids p p' (done next) answer after h k f =
    let d = deep-node level l kids.trees next.trees deep h in
    (f.0 ∙ ap (λ (b : Bool). Ok (filled next.room b)) (sym d), λ z. f.1 (sym d ∙ z) ∙ ap (λ (q : Packer). put_trees (set_subtree q p.packed.rows) next.trees) (k (flat deep (too_deep (level - 1) kids.trees) (too_deep level next.trees) (sym d ∙ z))))
  where
    flat : (a b c : Bool) → ((a || b) || c) ≡ false → b ≡ false
    flat true b c e = absurd (let z : T false = subst T e tt in z)
    flat false true c e = absurd (let z : T false = subst T e tt in z)
    flat false false c e = refl

-- what a call for the children gave
kids-lost : (level : ℕ) (o : Out Read) (p p' : Packer) (x : NotRead) → Fills false level o p (Err x) p' → (r : Refusal) × (o ≡ refused r) × ◌≡◌ {A = Out Filled} (refuse (not_read_number x)) (refused r)
unfolding Fills
kids-lost level (refused r) p p' x f = (r, refl, f)
kids-lost level (done t) p p' x f = absurd (let z : ◌≡◌ {A = Result Filled NotRead} (Err x) (Ok (filled t.room (too_deep level t.trees))) = f.0 in cc)

kids-fill : (level : ℕ) (o : Out Read) (p p' : Packer) (b : Filled) → Fills false level o p (Ok b) p' → (t : Read) × (o ≡ done t) × (b ≡ filled t.room (too_deep level t.trees)) × (too_deep level t.trees ≡ false → p' ≡ put_trees p t.trees)
unfolding Fills
kids-fill level (refused r) p p' b f = absurd (let z : ◌≡◌ {A = Out Filled} (done b) (refused r) = f in cc)
kids-fill level (done t) p p' b f = (t, refl, (let z : ◌≡◌ {A = Result Filled NotRead} (Ok b) (Ok (filled t.room (too_deep level t.trees))) = f.0 in cc), f.1)

none-at : (n : ℕ) (room : Room) → records_at n [] room ≡ done (record { trees = ∅; room = room })
unfolding records_at
none-at zero room = refl
none-at (suc n) room = refl

record-lost : (n : ℕ) (s : List ℕ) (room : Room) (r : Refusal) → 1 ≤ length s → length s ≤ n → record_at s room ≡ refused r → records_at n s room ≡ refused r
unfolding records_at
record-lost n [] room r h k e = absurd (omega arith)
record-lost zero (b ∷ s) room r h k e = absurd (omega arith)
record-lost (suc m) (b ∷ s) room r h k e = rw e

record-step : (n : ℕ) (s : List ℕ) (room : Room) (h : Head) → 1 ≤ length s → length s ≤ n → record_at s room ≡ done h
    → records_at n s room ≡ (records_at (length h.below) h.below h.room >>= (λ kids. records_at n h.behind kids.room >>= (λ next. whole h.label kids next)))
unfolding records_at
record-step n [] room h a k e = absurd (omega arith)
record-step zero (b ∷ s) room h a k e = absurd (omega arith)
record-step (suc m) (b ∷ s) room h a k e =
    ap (λ (o : Out Head). o >>= (λ h. records_at m h.below h.room >>= (λ kids. records_at m h.behind kids.room >>= (λ next. whole h.label kids next)))) e
    ∙ ap (λ (o : Out Read). o >>= (λ kids. records_at m h.behind kids.room >>= (λ next. whole h.label kids next))) (records-enough m (length h.below) h.below h.room (omega (arith, below-short (b ∷ s) room h parts)) (omega arith))
    ∙ bind_each (records_at (length h.below) h.below h.room) _ _ (λ kids.
    ap (λ (o : Out Read). o >>= (λ next. whole h.label kids next)) (records-enough m (suc m) h.behind kids.room (omega (arith, behind-short (b ∷ s) room h parts)) (omega (arith, behind-short (b ∷ s) room h parts))))
  where
    parts : Apart (b ∷ s) room h
    parts = holds_done (Apart (b ∷ s) room) (record_at (b ∷ s) room) h (apart (b ∷ s) room) e

-- ---- the loop

-- What the loop keeps: whoever reads the rest as it promises has read the whole as the function promises.
pub record Going (level : ℕ) (records : List ℕ) (lent : Left) (first : Packer) (rest : List ℕ) (room : Left) (deep : Bool) (p : Packer) : Type 0 where
  pub goes : (answer : Result Filled NotRead) (after : Packer) → Fills deep level (records_at (length records) rest (room_said room)) p answer after
      → Fills false level (records_at (length records) records (room_said lent)) first answer after
  pub few : room.rows < 1024
  pub short : length rest ≤ length records

pub going-start : (level : ℕ) (records : List ℕ) (lent : Left) (p : Packer) → lent.rows < 1024 → Going level records lent p records lent false p
going-start level records lent p h = record { goes = λ answer after f. f; few = h; short = omega arith }

module _ (level : ℕ) (records : List ℕ) (lent : Left) (first : Packer) (rest : List ℕ) (room : Left) (deep : Bool) (p : Packer) (g : Going level records lent first rest room deep p) where
  pub going-end : rest ≡ [] → Fills false level (records_at (length records) records (room_said lent)) first (Ok (record { room = room; deep = deep })) p
  unfolding Fills put_trees
  going-end e = g.goes (Ok (record { room = room; deep = deep })) p (rw (e, none-at (length records) (room_said room)) (ended (deep-none level deep)))
    where
      ended : (deep || too_deep level ∅) ≡ deep → Fills deep level (done (record { trees = ∅; room = room_said room })) p (Ok (record { room = room; deep = deep })) p
      ended d = (ap (λ (b : Bool). Ok (filled (room_said room) b)) (sym d), λ z. refl)

  module _ (some : 1 ≤ length rest) where
    pub going-lost : (answer : Result Filled NotRead) (after : Packer) (r : Refusal) → record_at rest (room_said room) ≡ refused r → read_means (λ x. x) answer ≡ refused r
        → Fills false level (records_at (length records) records (room_said lent)) first answer after
    unfolding Fills
    going-lost answer after r e a = g.goes answer after (rw (record-lost (length records) rest (room_said room) r some g.short e) a)

    module _ (h : Parted) (e : record_at rest (room_said room) ≡ done (head_said h)) (l : 1 ≤ level) where
      module _ (p' : Packer) (kids : Result Filled NotRead) (k : Fills false (level - 1) (records_at (length h.below.now) h.below.now (room_said h.room)) (put_row p (head_said h).label 0) kids p') where
        pub going-kids-lost : (answer : Result Filled NotRead) (after : Packer) (x : NotRead) → kids ≡ Err x → read_means (λ x. x) answer ≡ refuse (not_read_number x)
            → Fills false level (records_at (length records) records (room_said lent)) first answer after
        unfolding Fills
        going-kids-lost answer after x is a =
            let q = kids-lost (level - 1) (records_at (length h.below.now) h.below.now (room_said h.room)) (put_row p (head_said h).label 0) p' x (subst (λ (y : Result Filled NotRead). Fills false (level - 1) (records_at (length h.below.now) h.below.now (room_said h.room)) (put_row p (head_said h).label 0) y p') is k) in
            g.goes answer after
            (rw (record-step (length records) rest (room_said room) (head_said h) some g.short e, q.1) (a ∙ q.2))

        pub going-turn : (b : Filled) → kids ≡ Ok b → Going level records lent first h.behind.now b.room (deep || b.deep) (set_subtree p' p.packed.rows)
        going-turn b is =
            let q = kids-fill (level - 1) (records_at (length h.below.now) h.below.now (room_said h.room)) (put_row p (head_said h).label 0) p' b (subst (λ (y : Result Filled NotRead). Fills false (level - 1) (records_at (length h.below.now) h.below.now (room_said h.room)) (put_row p (head_said h).label 0) y p') is k) in
            let t = q.0 in
            let room-is : b.room ≡ record { rows = t.room.rows; bytes = t.room.bytes } = ap (λ (f : Filled). f.room) q.2 in
            let deep-is : b.deep ≡ too_deep (level - 1) t.trees = ap (λ (f : Filled). f.deep) q.2 in
            let parts = holds_done (Apart rest (room_said room)) (record_at rest (room_said room)) (head_said h) (apart rest (room_said room)) e in
            let took = holds_done (ReadTook (room_said h.room)) (records_at (length h.below.now) h.below.now (room_said h.room)) t (records-took (length h.below.now) h.below.now (room_said h.room)) q.1 in
            record {
              goes = λ answer after f.
                  g.goes answer after
                  (subst (λ (o : Out Read). Fills deep level o p answer after)
                  (sym (record-step (length records) rest (room_said room) (head_said h) some g.short e ∙ ap (λ (o : Out Read). o >>= (λ kids. records_at (length records) h.behind.now kids.room >>= (λ next. whole (head_said h).label kids next))) q.1))
                  (rest-fills deep level (head_said h).label t p p' (records_at (length records) h.behind.now t.room) answer after l q.3
                  (subst (λ (c : Bool). Fills (deep || c) level (records_at (length records) h.behind.now t.room) (set_subtree p' p.packed.rows) answer after) deep-is
                  (subst (λ (r : Left). Fills (deep || b.deep) level (records_at (length records) h.behind.now (room_said r)) (set_subtree p' p.packed.rows) answer after) room-is f))));
              few = let a = took.of-rows in let c = parts.fewer in let w = g.few in omega (arith, ap (λ (r : Left). r.rows) room-is);
              short = let s = g.short in omega (arith, behind-short rest (room_said room) (head_said h) parts);
            }

-- ---- where no level is left

some-levels : (n b : ℕ) (s : List ℕ) (room : Room) → Holds (λ (t : Read). 1 ≤ depth t.trees) (records_at (suc n) (b ∷ s) room)
unfolding records_at
some-levels n b s room =
    holds_then (λ (h : Head). Unit {0}) (λ (t : Read). 1 ≤ depth t.trees) (record_at (b ∷ s) room) _ (holds_any (record_at (b ∷ s) room)) λ h u.
    holds_then (λ (t : Read). Unit {0}) (λ (t : Read). 1 ≤ depth t.trees) (records_at n h.below h.room) _ (holds_any (records_at n h.below h.room)) λ kids v.
    holds_then (λ (t : Read). Unit {0}) (λ (t : Read). 1 ≤ depth t.trees) (records_at n h.behind kids.room) _ (holds_any (records_at n h.behind kids.room)) λ next w.
    omega arith

-- how many levels there are where nothing is left, and where something is
deep-some : (n : ℕ) (s : List ℕ) (room : Room) (t : Read) → length s ≤ n → records_at n s room ≡ done t → (too_deep 0 t.trees ≡ not (is_empty s)) × (not (is_empty s) ≡ false → t.trees ≡ ∅)
deep-some n [] room t h e = let z : t ≡ record { trees = ∅; room = room } = (let y : done t ≡ done (record { trees = ∅; room = room }) = sym e ∙ none-at n room in cc) in (ap (λ (t : Read). too_deep 0 t.trees) z, λ k. ap (λ (t : Read). t.trees) z)
deep-some zero (b ∷ s) room t h e = absurd (omega arith)
deep-some (suc n) (b ∷ s) room t h e = (lt-ltb 0 (depth t.trees) (holds_done (λ (t : Read). 1 ≤ depth t.trees) (records_at (suc n) (b ∷ s) room) t (some-levels n b s room) e), λ k. absurd (let z : T false = subst T k tt in z))

between-all : (s : List ℕ) → between s 0 (length s) ≡ s
between-all s = take_all (length s - 0) s (omega arith)

module _ (s : List ℕ) (lent : Left) (p : Packer) where
  abbrev all-read : Out Read
  all-read = records_at (length s) s (room_said lent)

  abbrev scanned : Out Room
  scanned = left_of (records_at (length s) (between s 0 (length s)) (room_said lent))

  scanned-is : scanned ≡ left_of all-read
  scanned-is = ap (λ (b : List ℕ). left_of (records_at (length s) b (room_said lent))) (between-all s)

  deep-filled : (room : Left) (t : Read) → all-read ≡ done t → room_said room ≡ t.room → Fills false 0 (done t) p (Ok (record { room = room; deep = not (is_empty s) })) p
  unfolding Fills put_trees
  deep-filled room t i e =
      let d = deep-some (length s) s (room_said lent) t (omega arith) i in (
        (λ j. Ok (filled (e j) (sym d.0 j))),
        λ z. sym (ap (λ (f : Forest Label). put_trees p f) (d.1 (sym d.0 ∙ z))),
      )

  pub fills-scanned : (room : Left) → done (room_said room) ≡ scanned → Fills false 0 all-read p (Ok (record { room = room; deep = not (is_empty s) })) p
  fills-scanned room e = go all-read refl (e ∙ scanned-is)
    where
      go : (o : Out Read) → all-read ≡ o → done (room_said room) ≡ left_of o → Fills false 0 o p (Ok (record { room = room; deep = not (is_empty s) })) p
      go (refused r) i e = absurd (let z : ◌≡◌ {A = Out Room} (done (room_said room)) (refused r) = e in cc)
      go (done t) i e = deep-filled room t i (let z : ◌≡◌ {A = Out Room} (done (room_said room)) (done t.room) = e in cc)

  pub fills-scan-lost : (answer : Result Filled NotRead) (x : NotRead) → ◌≡◌ {A = Out Room} (refuse (not_read_number x)) scanned → read_means (λ x. x) answer ≡ refuse (not_read_number x) → Fills false 0 all-read p answer p
  unfolding Fills
  fills-scan-lost answer x e a = go all-read (e ∙ scanned-is)
    where
      go : (o : Out Read) → ◌≡◌ {A = Out Room} (refuse (not_read_number x)) (left_of o) → Fills false 0 o p answer p
      go (refused r) e = a ∙ (let z : ◌≡◌ {A = Out Room} (refuse (not_read_number x)) (refused r) = e in cc)
      go (done t) e = absurd (let z : ◌≡◌ {A = Out Room} (refuse (not_read_number x)) (done t.room) = e in cc)

pub handed-on : {A : Type 0} (r : Result A NotRead) (e : NotRead) → IsErrAnd r (λ y. y ≡ e) → read_means (λ x. x) r ≡ refuse (not_read_number e)
handed-on (Ok x) e h = absurd h
handed-on (Err y) e h = ap (λ (z : NotRead). refuse (not_read_number z)) h

is-empty : (s : List ℕ) → (length s == 0) ≡ is_empty s
is-empty [] = refl
is-empty (b ∷ s) = ne_eqb (suc (length s)) 0 (λ e. omega arith)

module _ (level : ℕ) (z : level ≡ 0) (s : List ℕ) (lent : Left) (p : Packer) where
  pub deep-scanned : (room : Left) (none : Bool) → done (room_said room) ≡ scanned s lent p → none ≡ (length s == 0) → Fills false level (all-read s lent p) p (Ok (record { room = room; deep = not none })) p
  deep-scanned room none e i = rw (z, i, is-empty s) (fills-scanned s lent p room e)

  pub deep-lost : (answer : Result Filled NotRead) (x : NotRead) → ◌≡◌ {A = Out Room} (refuse (not_read_number x)) (scanned s lent p) → read_means (λ x. x) answer ≡ refuse (not_read_number x) → Fills false level (all-read s lent p) p answer p
  deep-lost answer x e a = rw z (fills-scan-lost s lent p answer x e a)

pub some-left : (s : List ℕ) (e : (length s == 0) ≡ false) → 1 ≤ length s
some-left [] e = absurd (let z : T false = subst T e tt in z)
some-left (b ∷ s) e = omega arith

pub none-left : (s : List ℕ) (e : (length s == 0) ≡ true) → s ≡ []
none-left [] e = refl
none-left (b ∷ s) e = absurd (let z : T false = subst T (sym e ∙ is-empty (b ∷ s)) tt in z)

module _ (level : ℕ) (records : List ℕ) (lent : Left) (first : Packer) (rest : List ℕ) (room : Left) (deep : Bool) (p : Packer) (g : Going level records lent first rest room deep p) (some : 1 ≤ length rest)
    (h : Parted) (e : record_at rest (room_said room) ≡ done (head_said h)) where
  pub going-few : h.room.rows < 1024
  going-few =
      let t = holds_done (HeadTook (room_said room)) (record_at rest (room_said room)) (head_said h) (record-took rest (room_said room)) e in
      let a = t.of-rows in let f = g.few in omega arith

  pub going-shorter : length h.behind.now < length rest
  going-shorter =
      let parts = holds_done (Apart rest (room_said room)) (record_at rest (room_said room)) (head_said h) (apart rest (room_said room)) e in
      omega (arith, behind-short rest (room_said room) (head_said h) parts)

  module _ (l : 1 ≤ level) (p1 : Packer) (e1 : p1 ≡ put_row p (head_said h).label 0) (p' : Packer) (kids : Result Filled NotRead) (k : Fills false (level - 1) (records_at (length h.below.now) h.below.now (room_said h.room)) p1 kids p') where
    filled-kids : Fills false (level - 1) (records_at (length h.below.now) h.below.now (room_said h.room)) (put_row p (head_said h).label 0) kids p'
    filled-kids = subst (λ (q : Packer). Fills false (level - 1) (records_at (length h.below.now) h.below.now (room_said h.room)) q kids p') e1 k

    pub turn-lost : (answer : Result Filled NotRead) (after : Packer) (x : NotRead) → kids ≡ Err x → read_means (λ x. x) answer ≡ refuse (not_read_number x)
        → Fills false level (records_at (length records) records (room_said lent)) first answer after
    turn-lost answer after x is a = going-kids-lost level records lent first rest room deep p g some h e l p' kids filled-kids answer after x is a

    pub turn : (b : Filled) (p2 : Packer) → kids ≡ Ok b → p2 ≡ set_subtree p' p.packed.rows → Going level records lent first h.behind.now b.room (deep || b.deep) p2
    turn b p2 is e2 = subst (λ (q : Packer). Going level records lent first h.behind.now b.room (deep || b.deep) q) (sym e2) (going-turn level records lent first rest room deep p g some h e l p' kids filled-kids b is)

-- ---- the whole image

tree-deep : (l : Label) (kids : Forest Label) → too_deep 64 (node l kids ∅) ≡ too_deep (64 - 1) kids
tree-deep l kids = grind (arith, nat_tests)

module _ (image : List ℕ) (lent : Left) (p : Packer) where
  pub tree-lost : (answer : Result Bool NotRead) (after : Packer) (r : Refusal) → record_at image (room_said lent) ≡ refused r → read_means (λ x. x) answer ≡ refused r → FillsTree (tree_at image (room_said lent)) p answer after
  unfolding FillsTree tree_at
  tree-lost answer after r e a = rw e a

  module _ (h : Parted) (e : record_at image (room_said lent) ≡ done (head_said h)) where
    pub tree-few : lent.rows ≤ 1024 → h.room.rows < 1024
    tree-few f =
        let t = holds_done (HeadTook (room_said lent)) (record_at image (room_said lent)) (head_said h) (record-took image (room_said lent)) e in
        let a = t.of-rows in omega arith

    abbrev rooted : Read → Out (Forest Label)
    rooted kids = if is_empty h.behind.now then done (node (head_said h).label kids.trees ∅) else refuse 30

    step : tree_at image (room_said lent) ≡ (records_at (length h.below.now) h.below.now (room_said h.room) >>= (λ kids. rooted kids))
    unfolding tree_at
    step =
        let parts = holds_done (Apart image (room_said lent)) (record_at image (room_said lent)) (head_said h) (apart image (room_said lent)) e in
        ap (λ (o : Out Head). o >>= (λ h. records_at (length image) h.below h.room >>= (λ kids. if is_empty h.behind then done (node h.label kids.trees ∅) else refuse 30))) e
        ∙ ap (λ (o : Out Read). o >>= (λ kids. rooted kids)) (records-enough (length image) (length h.below.now) h.below.now (room_said h.room) (omega (arith, below-short image (room_said lent) (head_said h) parts)) (omega arith))

    module _ (p1 : Packer) (e1 : p1 ≡ put_row p (head_said h).label 0) (p' : Packer) (kids : Result Filled NotRead) (k : Fills false 63 (records_at (length h.below.now) h.below.now (room_said h.room)) p1 kids p') where
      pub tree-kids-lost : (answer : Result Bool NotRead) (after : Packer) (x : NotRead) → kids ≡ Err x → read_means (λ x. x) answer ≡ refuse (not_read_number x) → FillsTree (tree_at image (room_said lent)) p answer after
      unfolding FillsTree
      tree-kids-lost answer after x is a =
          let q = kids-lost 63 (records_at (length h.below.now) h.below.now (room_said h.room)) p1 p' x (subst (λ (y : Result Filled NotRead). Fills false 63 (records_at (length h.below.now) h.below.now (room_said h.room)) p1 y p') is k) in
          rw (step, q.1) (a ∙ (let z : ◌≡◌ {A = Out Filled} (refuse (not_read_number x)) (refused q.0) = q.2 in cc))

      module _ (b : Filled) (is : kids ≡ Ok b) where
        got : (t : Read) × (records_at (length h.below.now) h.below.now (room_said h.room) ≡ done t) × (b ≡ filled t.room (too_deep 63 t.trees)) × (too_deep 63 t.trees ≡ false → p' ≡ put_trees p1 t.trees)
        got = kids-fill 63 (records_at (length h.below.now) h.below.now (room_said h.room)) p1 p' b (subst (λ (y : Result Filled NotRead). Fills false 63 (records_at (length h.below.now) h.below.now (room_said h.room)) p1 y p') is k)

        pub tree-behind : (after : Packer) → (length h.behind.now == 0) ≡ false → FillsTree (tree_at image (room_said lent)) p (Err WrongLength) after
        unfolding FillsTree
        tree-behind after n = rw (step, got.1, sym (is-empty h.behind.now) ∙ n) refl

        pub tree-filled : (p2 : Packer) → (length h.behind.now == 0) ≡ true → p2 ≡ set_subtree p' p.packed.rows → FillsTree (tree_at image (room_said lent)) p (Ok b.deep) p2
        unfolding FillsTree put_trees
        tree-filled p2 n e2 =
            let q = got in
            let d : b.deep ≡ too_deep 64 (node (head_said h).label q.0.trees ∅) = ap (λ (f : Filled). f.deep) q.2 ∙ sym (tree-deep (head_said h).label q.0.trees) in
            rw (step, q.1, sym (is-empty h.behind.now) ∙ n)
            (ap Ok d, λ z. e2 ∙ ap (λ (x : Packer). set_subtree x p.packed.rows) (q.3 (sym (tree-deep (head_said h).label q.0.trees) ∙ z) ∙ ap (λ (x : Packer). put_trees x q.0.trees) e1))
