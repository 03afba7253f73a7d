-- Packed trees in lent rows and a lent text.
--   parents-last           rows that are written at the start of lent rows, and then get their parents
--   bytes-first            a text that is written at the start of a lent one
--   packed-rows-first, packed-bytes-first   what stands at their starts
use mathlib.Core.Path.{◌≡◌, sym, ap, ◌∙◌}
use mathlib.Core.List.{List, ◌++◌}
use Prim.Native.Nat.{ℕ, ◌+◌, ◌*◌, ◌≤◌, min}
use native.Mathlib.Omega.{arith}
use lib.ListN.{length, take, drop}
use lib.Seq.{sets, sets-eq, take-append_seam}
use Rattle.datatype.specs.Tree.{Forest, count, Label}
use Rattle.datatype.specs.Table.{row_words, table_of, rows_lent}
use Rattle.datatype.proofs.Table.{length_table}
use Rattle.unchecked_rows.specs.Parents.{parents_set, table_with}
use Rattle.unchecked_rows.proofs.ParentTree.{count_parented, first-parents-lent}
use Rattle.packing.specs.Packed.{packed_text, packed_from, packed, packed_rows, packed_bytes}
use Rattle.packing.proofs.PackedLaws.{count-packed}

at-start : (before s : List ℕ) → length s ≤ length before → sets before 0 s ≡ s ++ drop (length s) before
at-start before s h =
    let z : 0 + length s ≡ length s = omega arith in
    sets-eq s before 0 (omega arith) ∙ ap (λ (i : ℕ). s ++ drop i before) z

lent-few : (words n : ℕ) → n ≤ rows_lent words → (n ≤ 1024) × (row_words * n ≤ words)
unfolding rows_lent
lent-few words n h = (omega arith, omega arith)

module _ (f : Forest Label) where
  -- as many rows as the tree
  pub count-lent : count (packed f) ≡ count f
  unfolding packed
  count-lent = count_parented 0 0 (packed_from 0 f) ∙ count-packed 0 f

  length-lent : length (table_of (packed f)) ≡ length (table_of (packed_from 0 f))
  length-lent = omega (arith, length_table (packed f), length_table (packed_from 0 f), count-lent, count-packed 0 f)

  pub parents-last : (before : List ℕ) → count f ≤ rows_lent (length before)
      → parents_set (sets before 0 (table_of (packed_from 0 f))) (min (count f) (rows_lent (length (sets before 0 (table_of (packed_from 0 f)))))) ≡ packed_rows f before
  unfolding packed_rows packed
  parents-last before h =
      let rows = table_of (packed_from 0 f) in
      let few = lent-few (length before) (count f) h in
      let c = count-packed 0 f in
      let s : sets before 0 rows ≡ rows ++ drop (length rows) before = at-start before rows (omega (arith, length_table (packed_from 0 f))) in
      (λ j. parents_set (s j) (min (sym c j) (rows_lent (length (s j)))))
      ∙ first-parents-lent (packed_from 0 f) (drop (length rows) before) (omega arith)
      ∙ ap (λ (n : ℕ). table_with (packed_from 0 f) ++ drop n before) (sym length-lent)

  pub bytes-first : (before : List ℕ) → length (packed_text f) ≤ length before → sets before 0 (packed_text f) ≡ packed_bytes f before
  unfolding packed_bytes
  bytes-first before h = at-start before (packed_text f) h

  pub packed-rows-first : (before : List ℕ) → take (row_words * count f) (packed_rows f before) ≡ table_of (packed f)
  unfolding packed_rows
  packed-rows-first before =
      let rows = table_of (packed f) in
      let n : row_words * count f ≡ length rows = omega (arith, length_table (packed f), count-lent) in
      ap (λ (k : ℕ). take k (rows ++ drop (length rows) before)) n ∙ take-append_seam rows (drop (length rows) before)

  pub packed-bytes-first : (before : List ℕ) → take (length (packed_text f)) (packed_bytes f before) ≡ packed_text f
  unfolding packed_bytes
  packed-bytes-first before = take-append_seam (packed_text f) (drop (length (packed_text f)) before)
