-- Demand 3 on the buffers: what the printer leaves in the output, and what the reader makes of those bytes in lent words.
use mathlib.Core.Path.{◌≡◌, sym, ap, ◌∙◌, subst}
use mathlib.Core.List.{List, ◌++◌}
use Prim.Native.Nat.{ℕ, ◌*◌, ◌≤◌}
use native.Mathlib.Omega.{arith}
use lib.ListN.{length, take, drop}
use lib.Seq.{take-append_seam}
use lib.Dec.{T}
use Rattle.tokenizer.specs.Answer.{done}
use Rattle.datatype.specs.Tree.{Forest, count, Row}
use Rattle.datatype.specs.Table.{row_words, table_of, tree_of, rows_lent}
use Rattle.row_table.specs.Sound.{is_sound}
use Rattle.unchecked_rows.specs.Equal.{equal_trees}
use Rattle.datatype.proofs.Table.{length_table}
use Rattle.datatype_parse.specs.Parse.{parse, filled, parse_answer, parse_rows}
use Rattle.datatype_display.specs.Print.{print_answer, print_bytes}
use Rattle.display_length.specs.declared.words.Spelling.{Spelling}
use Rattle.round_trip.specs.Plain.{printed, in_demand3}
use Rattle.round_trip.proofs.RoundTrip.{Conditions, conditions, RoundTrip, round_trip, prints}

-- ---- the printer

module _ (spelling : Spelling) (text names table out : List ℕ) (h : T (in_demand3 spelling text names table)) (fits : length (printed spelling text names table) ≤ length out) where
  -- it answers the printed length
  pub print-answer : print_answer spelling text names table out ≡ done (length (printed spelling text names table))
  unfolding print_answer
  print-answer = rw (prints spelling text names table (length out) h fits)

  -- it puts exactly the printed text at the start of the output, and what lies past it stays
  pub print-bytes : print_bytes spelling text names table out ≡ printed spelling text names table ++ drop (length (printed spelling text names table)) out
  unfolding print_bytes
  print-bytes = rw (prints spelling text names table (length out) h fits)

  pub print-start : take (length (printed spelling text names table)) (print_bytes spelling text names table out) ≡ printed spelling text names table
  print-start = rw (print-bytes, take-append_seam (printed spelling text names table) (drop (length (printed spelling text names table)) out))

-- ---- the reader, given just those bytes

-- rows that fit the lent words are lent
lent : (n words : ℕ) → n ≤ 1024 → row_words * n ≤ words → n ≤ rows_lent words
unfolding rows_lent
lent n words h k = omega arith

-- the rows at the start of the lent words are the tree's table
filled_start : (words : List ℕ) (f : Forest Row) (n : ℕ) → count f ≡ n → take (row_words * n) (filled words (done f)) ≡ table_of f
filled_start words f n e =
    let l : row_words * n ≡ length (table_of f) = ap (λ (k : ℕ). row_words * k) (sym e) ∙ sym (length_table f) in
    ap (λ (k : ℕ). take k (table_of f ++ drop (length (table_of f)) words)) l ∙ take-append_seam (table_of f) (drop (length (table_of f)) words)

pub record ReadAnswer (spelling : Spelling) (text names table words : List ℕ) : Type 0 where
  -- it answers the tree's row count
  pub answer : parse_answer (printed spelling text names table) words ≡ done (count (tree_of text names table))
  -- the rows filled, with those bytes as their text and the same name list, are a sound tree
  pub sound : T (is_sound (printed spelling text names table) names (take (row_words * count (tree_of text names table)) (parse_rows (printed spelling text names table) words)))
  -- equal to the one printed
  pub equal : T (equal_trees (printed spelling text names table) names text names (take (row_words * count (tree_of text names table)) (parse_rows (printed spelling text names table) words)) table)
  -- they are the table of the tree that is read
  pub back : Forest Row
  pub reads : parse (printed spelling text names table) (rows_lent (length words)) ≡ done back
  pub rows : take (row_words * count (tree_of text names table)) (parse_rows (printed spelling text names table) words) ≡ table_of back

pub read_answer : (spelling : Spelling) (text names table words : List ℕ) → T (in_demand3 spelling text names table) → row_words * count (tree_of text names table) ≤ length words
    → ReadAnswer spelling text names table words
unfolding parse_answer parse_rows
read_answer spelling text names table words h room = go (conditions spelling text names table h) (round_trip spelling text names table h)
  where
    go : Conditions spelling text names table → RoundTrip spelling text names table → ReadAnswer spelling text names table words
    go c r =
        let n : ℕ = count (tree_of text names table) in
        let reads : parse (printed spelling text names table) (rows_lent (length words)) ≡ done r.back = r.reads (rows_lent (length words)) (lent n (length words) r.few room) in
        let rows : take (row_words * n) (parse_rows (printed spelling text names table) words) ≡ table_of r.back = rw reads (filled_start words r.back n r.rows) in
        record {
          answer = rw reads (ap done r.rows);
          sound = rw rows (subst (λ (l : List ℕ). T (is_sound (printed spelling text names table) l (table_of r.back))) (sym c.tree.listed) r.sound);
          equal =
              rw rows
              (subst (λ (l : List ℕ). T (equal_trees (printed spelling text names table) l text names (table_of r.back) table)) (sym c.tree.listed) r.equal);
          back = r.back;
          reads = reads;
          rows = rows;
        }
