-- How many rows to lend: a text of n bytes that is accepted has r rows with 5 r at most n + 1, so rows_to_lend n are enough.
use mathlib.Core.Path.{◌≡◌, subst}
use mathlib.Core.List.{List}
use Prim.Native.Nat.{ℕ, ◌+◌, ◌*◌, ◌/◌, ◌≤◌}
use native.Mathlib.Omega.{arith}
use lib.ListN.{length}
use lib.Dec.{leb}
use Rattle.tokenizer.specs.Answer.{Out, refused, done}
use Rattle.tokenizer.specs.Utf8.{is_utf8}
use Rattle.datatype.specs.Tree.{Forest, Row, count}
use Rattle.datatype.specs.Table.{row_words, rows_lent}
use Rattle.row_table.specs.Sound.{bare}
use Rattle.unchecked_rows.specs.Parents.{parented}
use Rattle.unchecked_rows.proofs.ParentSet.{lent_small}
use Rattle.unchecked_rows.proofs.ParentTree.{count_parented}
use Rattle.parser.specs.Parse.{Tree, rows_in, single, type_at, first_type}
use Rattle.parser.proofs.Holds.{Holds, holds_then, holds_if}
use Rattle.datatype_parse.specs.Parse.{text_over, parse, parse_answer}
use Rattle.datatype_parse.specs.RowsToLend.{row_bytes, rows_to_lend}
use Rattle.datatype_parse.proofs.Placed.{TypeEnds, type-ends}
use Rattle.datatype_parse.proofs.FiveBytes.{TypeBytes, type-bytes}
use Rattle.datatype_parse.proofs.TokenFacts.{holds_when}
use Rattle.datatype_parse.proofs.SoundRows.{Typed}
use Rattle.datatype_parse.proofs.ReadSound.{type-sound}
use Rattle.datatype_parse.proofs.MoreRows.{SameRows, all_lent}
use Rattle.datatype_parse.proofs.OwnRows.{own-rows, Accepted, accepted, own_lent}

module _ (text : List ℕ) where
  -- ---- the definitions

  -- so many rows take five bytes each, but for one, and were lent
  abbrev Short : ℕ → ℕ → Type 0
  Short lent n = (row_bytes * n ≤ length text + 1) × (n ≤ lent)

  abbrev ShortType : ℕ → Tree → Type 0
  ShortType lent t = Short lent (rows_in t)

  first_short : (lent : ℕ) → Holds (ShortType lent) (first_type text lent)
  unfolding first_type
  first_short lent =
      holds_if (ShortType lent) (leb (length text) 16384) _ _
      (holds_when (ShortType lent) (is_utf8 text) (type_at text 64 0 lent) _
      (λ u. all (type_at text 64 0 lent) (type-bytes text 64 0 lent) (type-ends text 64 lent) (type-sound text u 64 0 lent)) tt) tt
    where
      all : (o : Out Tree) → Holds (TypeBytes text 0) o → Holds (TypeEnds text) o → Holds (Typed text bare 64 lent) o → Holds (ShortType lent) o
      all (refused r) b e s = tt
      all (done t) b e s = let f = s.few in (omega arith, omega arith)

  -- what holds of the rows of the type that the text begins with holds of those of its tree
  parse-rows : (P : ℕ → Type 0) (lent : ℕ) → Holds (λ (t : Tree). P (rows_in t)) (first_type text lent) → Holds (λ (f : Forest Row). P (count f)) (parse text lent)
  unfolding parse
  parse-rows P lent h =
      holds_then (λ (t : Tree). P (rows_in t)) (λ (f : Forest Row). P (count f)) (first_type text lent) _ h λ t p.
      holds_if (λ (f : Forest Row). P (count f)) (text_over text t.next) _ _ (let e : rows_in t ≡ count (parented (single t)) = omega (arith, count_parented 0 0 (single t)) in subst P e p) tt

  tree-short : (lent : ℕ) (f : Forest Row) → parse text lent ≡ done f → Short lent (count f)
  tree-short lent f e = subst (Holds (λ (f : Forest Row). Short lent (count f))) e (parse-rows (Short lent) lent (first_short lent))

  -- Five bytes for each row of an accepted text, but for one.
  pub five-bytes : (lent : ℕ) (f : Forest Row) → parse text lent ≡ done f → 5 * count f ≤ length text + 1
  five-bytes lent f e = (tree-short lent f e).0

  few-to-lend : (n : ℕ) → 5 * n ≤ length text + 1 → n ≤ 1024 → n ≤ rows_to_lend (length text)
  unfolding rows_to_lend
  few-to-lend n h k = omega arith

  -- So rows_to_lend rows hold it, if it was accepted with 1,024 or fewer.
  pub to-lend : (lent : ℕ) (f : Forest Row) → lent ≤ 1024 → parse text lent ≡ done f → count f ≤ rows_to_lend (length text)
  to-lend lent f h e = few-to-lend (count f) (five-bytes lent f e) (let k = (tree-short lent f e).1 in omega arith)

  -- What is accepted with 1,024 rows or fewer lent is accepted, with the same tree, with rows_to_lend rows or more.
  pub rows-to-lend : (r s : ℕ) (f : Forest Row) → r ≤ 1024 → rows_to_lend (length text) ≤ s → parse text r ≡ done f → parse text s ≡ done f
  rows-to-lend r s f h k e = let l = to-lend r f h e in own-rows text r s f (omega arith) e

pub most_to_lend : (n : ℕ) → rows_to_lend n ≤ 1024
unfolding rows_to_lend
most_to_lend n = omega arith

-- ---- the public reader

-- What is accepted with any rows lent is accepted with rows_to_lend rows or more: the answer and the rows are the same.
pub enough_lent : (text before before' : List ℕ) (n : ℕ) → rows_to_lend (length text) ≤ rows_lent (length before') → parse_answer text before ≡ done n
    → SameRows text before before' n
enough_lent text before before' n h e = own_lent text before before' n (held (accepted text before n e)) e
  where
    held : Accepted text before n → n ≤ rows_lent (length before')
    held t =
        let l = to-lend text (rows_lent (length before)) t.0 (lent_small (length before)) t.1.0 in
        let c = t.1.1 in
        omega arith

-- the rows lent with the words of rows_to_lend rows, and of (n + 1) / 5 rows
pub lent_rows : (n : ℕ) → rows_lent (row_words * rows_to_lend n) ≡ rows_to_lend n
unfolding rows_lent rows_to_lend
lent_rows n = omega arith

pub lent_fifth : (n : ℕ) → rows_lent (row_words * ((n + 1) / 5)) ≡ rows_to_lend n
unfolding rows_lent rows_to_lend
lent_fifth n = omega arith

-- A text is accepted with so many rows lent exactly if it is accepted with 1,024, with the same rows.
pub lent_alike : (text before before' : List ℕ) (n : ℕ) → rows_lent (length before) ≡ rows_to_lend (length text) → length before' ≡ row_words * 1024
    → (parse_answer text before ≡ done n → SameRows text before before' n) × (parse_answer text before' ≡ done n → SameRows text before' before n)
lent_alike text before before' n h k = (all_lent text before before' n k, enough_lent text before' before n (omega arith))
