-- An image written: the answer, and what the lent bytes hold, case by case.
use mathlib.Core.Path.{◌≡◌, sym, ap, subst, ◌∙◌}
use mathlib.Core.Bool.{true, false}
use mathlib.Core.List.{List, ◌++◌}
use Prim.Native.Nat.{ℕ, ◌+◌, ◌≤◌, ◌<◌}
use native.Mathlib.Omega.{arith}
use borrow.Author.Tests.{le-leb, lt-leb}
use lib.ListN.{length, take, drop}
use lib.Seq.{sets, sets-eq, take-append_seam}
use lib.Dec.{T}
use Rattle.tokenizer.specs.Answer.{Out, done, refuse}
use Rattle.datatype.specs.Table.{tree_of}
use Rattle.datatype.specs.declared.tree.Tree.{Tree}
use Rattle.row_table.specs.Sound.{is_sound}
use Rattle.archive.specs.Laws.{HasLength, ReadsBack, IsImage}
use Rattle.archive.proofs.ImageLaws.{image-length}
use Rattle.archive.proofs.ReadBack.{read-image, equal-images}
use Rattle.archive.specs.Archive.{image_of, archived, archive_answer, archive_bytes}

module _ (t : Tree) (out : List ℕ) where
  abbrev image : List ℕ
  image = image_of (tree_of t.text.now t.names.now t.rows.now)

  abbrev answer : Out ℕ
  answer = archive_answer t.text.now t.names.now t.rows.now out

  abbrev after : List ℕ
  after = archive_bytes t.text.now t.names.now t.rows.now out

  module _ (s : is_sound t.text.now t.names.now t.rows.now ≡ false) where
    pub unsound-answer : refuse 17 ≡ answer
    unfolding archive_answer archived
    unsound-answer = rw s

    pub unsound-bytes : out ≡ after
    unfolding archive_bytes archived
    unsound-bytes = rw s

  -- a tree that is sound, as the code has it
  module _ (s : is_sound t.text.now t.names.now t.rows.now ≡ true) (u : Tree) (e : u ≡ t) where
    abbrev same : List ℕ
    same = image_of (tree_of u.text.now u.names.now u.rows.now)

    same-image : same ≡ image
    same-image = ap (λ (x : Tree). image_of (tree_of x.text.now x.names.now x.rows.now)) e

    module _ (n : ℕ) (is : n ≡ length same) where
      size : n ≡ length image
      size = is ∙ ap length same-image

      module _ (h : length out < n) where
        pub full-answer : refuse 28 ≡ answer
        unfolding archive_answer archived
        full-answer = rw (s, lt-leb (length image) (length out) (omega (arith, size)))

        pub full-bytes : out ≡ after
        unfolding archive_bytes archived
        full-bytes = rw (s, lt-leb (length image) (length out) (omega (arith, size)))

      module _ (h : n ≤ length out) where
        pub written-answer : (m : ℕ) → m ≡ length same → done m ≡ answer
        unfolding archive_answer archived
        written-answer m i = rw (s, le-leb (length image) (length out) (omega (arith, size))) (ap done (i ∙ ap length same-image))

        pub written-bytes : (b : List ℕ) → b ≡ sets out 0 same → b ≡ after
        unfolding archive_bytes archived
        written-bytes b i =
            let z : 0 + length image ≡ length image = omega arith in
            rw (s, le-leb (length image) (length out) (omega (arith, size)))
            (i ∙ ap (sets out 0) same-image ∙ sets-eq image out 0 (omega (arith, size)) ∙ ap (λ (k : ℕ). image ++ drop k out) z)

-- ---- what holds of the image that was written

module _ (t : Tree) (s : T (is_sound t.text.now t.names.now t.rows.now)) (u : Tree) (e : u ≡ t) (out after : List ℕ) (n : ℕ) (is : n ≡ length (image_of (tree_of u.text.now u.names.now u.rows.now)))
    (room : n ≤ length out) (put : after ≡ sets out 0 (image_of (tree_of u.text.now u.names.now u.rows.now))) where
  abbrev its : List ℕ
  its = image_of (tree_of t.text.now t.names.now t.rows.now)

  same-its : image_of (tree_of u.text.now u.names.now u.rows.now) ≡ its
  same-its = ap (λ (x : Tree). image_of (tree_of x.text.now x.names.now x.rows.now)) e

  size-its : n ≡ length its
  size-its = is ∙ ap length same-its

  first : take n after ≡ its
  first =
      (λ j. take (size-its j) ((put ∙ ap (sets out 0) same-its ∙ sets-eq its out 0 (omega (arith, size-its))) j))
      ∙ take-append_seam its (drop (0 + length its) out)

  pub law-length : HasLength (tree_of t.text.now t.names.now t.rows.now) n
  law-length = size-its ∙ image-length (tree_of t.text.now t.names.now t.rows.now)

  pub law-read_back : ReadsBack (tree_of t.text.now t.names.now t.rows.now) (take n after)
  law-read_back = subst (λ (i : List ℕ). ReadsBack (tree_of t.text.now t.names.now t.rows.now) i) (sym first) (read-image t.text.now t.names.now t.rows.now s)

  pub law-one_image : IsImage t.text.now t.names.now t.rows.now (take n after)
  law-one_image text' names' table' s' q = equal-images t.text.now t.names.now t.rows.now text' names' table' s s' q ∙ sym first
