-- A whole line: what the reader, the depth and the printer come to, in lent buffers.
use mathlib.Core.Path.{◌≡◌, refl, sym, ap, ◌∙◌}
use mathlib.Core.List.{List, ◌++◌, append_assoc}
use Prim.Native.Nat.{ℕ, ◌*◌, ◌/◌, ◌≤◌}
use native.Mathlib.Omega.{arith}
use Rattle.std.specs.Prelude.{Some}
use lib.Dec.{T}
use lib.ListN.{length, take, drop, length-append, take-append-drop}
use lib.Seq.{length-take-le, take-append_seam, drop-append-le}
use borrow.Author.Tests.{le-leb}
use Rattle.std.proofs.lemmas.List.{length-take}
use Rattle.tokenizer.specs.Text.{bytes}
use Rattle.tokenizer.specs.Answer.{Out, refused, done}
use Rattle.datatype.specs.Tree.{Forest, count, depth, Row, name_list}
use Rattle.datatype.specs.Table.{row_words, table_of, tree_of, rows_lent}
use Rattle.datatype.proofs.Table.{length_table, view_table}
use Rattle.row_table.specs.Sound.{is_sound}
use Rattle.row_table.proofs.DepthLaws.{depth_labels}
use Rattle.row_table.proofs.SoundTree.{sound_tree, sound-count}
use Rattle.datatype_parse.proofs.ReadSound.{read_sound, lent-sound}
use Rattle.datatype_parse.proofs.Placed.{answer-place}
use Rattle.parser.specs.Answer.{refusal_in}
use Rattle.parser.specs.declared.error.ReadError.{ReadError}
use Rattle.datatype_parse.specs.Parse.{parse, row_count, filled, parse_answer, parse_rows}
use Rattle.writer.specs.Digits.{digits}
use Rattle.datatype_display.specs.Print.{default_spelling, print}
use Rattle.answer_line.specs.Line.{ok_line, read_line, line_words, line_answer, line_answered, line_rows, line_out, answer_bytes}
use Rattle.answer_line.specs.Internal.Steps.{Answers, ok_head, tree_line, table_line}

-- ---- the answer to the table of a tree that was read

line_of : (f : Forest Row) (levels : ℕ) (o : Out (List ℕ)) → levels ≡ depth f → tree_line (count f) levels o ≡ ok_line f o
unfolding tree_line ok_head
line_of f levels (refused r) e = refl
line_of f levels (done s) e =
    let d : List ℕ = digits (count f) in
    let t : List ℕ = s ++ bytes "\n" in
    ap (λ (n : ℕ). (bytes "ok " ++ (d ++ (bytes " " ++ (digits n ++ bytes " ")))) ++ t) e
    ∙ ap (λ (l : List ℕ). bytes "ok " ++ l)
    (append_assoc d (bytes " " ++ (digits (depth f) ++ bytes " ")) t ∙ ap (λ (l : List ℕ). d ++ (bytes " " ++ l)) (append_assoc (digits (depth f)) (bytes " ") t))

pub table_line_lem : (text : List ℕ) (f : Forest Row) → table_line text name_list (table_of f) ≡ ok_line f (print default_spelling text name_list (table_of f) 16384)
unfolding table_line tree_of
table_line_lem text f =
    let rows : length (table_of f) / row_words ≡ count f = let e = length_table f in omega arith in
    ap (λ (n : ℕ). tree_line n (depth (tree_of text name_list (table_of f))) (print default_spelling text name_list (table_of f) 16384)) rows
    ∙ line_of f (depth (tree_of text name_list (table_of f))) (print default_spelling text name_list (table_of f) 16384) (rw (view_table f) (depth_labels text name_list f))

-- ---- an answer in the first bytes of a buffer

pub chunk-answers :
    (s out : List ℕ) (size : ℕ) (chunk chunk' out' : List ℕ) (r : ℕ) → size ≤ length out → chunk ≡ take size out → length chunk' ≡ size → out' ≡ chunk' ++ drop size out
    → Answers s chunk r chunk' → Answers s out r out'
chunk-answers s out size chunk chunk' out' r h e l o a =
    let t = length-take-le size out h in
    let c : length chunk ≡ size = ap length e ∙ t in
    let m : length s ≤ size = let w = ap length a.stored ∙ length-append s (drop (length s) chunk) in omega arith in
    record {
      counted = a.counted;
      stored =
          o
          ∙ ap (λ (x : List ℕ). x ++ drop size out) (a.stored ∙ ap (λ (x : List ℕ). s ++ drop (length s) x) e)
          ∙ append_assoc s (drop (length s) (take size out)) (drop size out)
          ∙ ap (λ (x : List ℕ). s ++ x) (sym (drop-append-le (length s) (take size out) (drop size out) (omega arith)) ∙ ap (drop (length s)) (take-append-drop size out));
    }

-- ---- what the reader's answer says of the line

-- the rows of a text that is read; 0 where it is refused
abbrev pub rows_read : Out ℕ → ℕ
rows_read (refused r) = 0
rows_read (done n) = n

pub read_few : (line rows : List ℕ) → (parse_answer line rows ≡ row_count (parse line (rows_lent (length rows)))) × (rows_read (parse_answer line rows) ≤ 1024)
unfolding parse_answer rows_lent
read_few line rows = (refl, go (parse line (rows_lent (length rows))) refl)
  where
    go : (o : Out (Forest Row)) → parse line (rows_lent (length rows)) ≡ o → rows_read (row_count o) ≤ 1024
    go (refused r) e = omega arith
    go (done f) e =
        let t = sound_tree line name_list (table_of f) (read_sound line (rows_lent (length rows)) f e (omega arith)) in
        let a = t.rows in
        let b = sound-count line name_list (table_of f) t in
        let c = length_table f in
        omega arith

-- the place of a refusal has few digits
pub place_few : (line rows : List ℕ) (e : ReadError) → refused (refusal_in e) ≡ parse_answer line rows → e.place ≤ 16384
place_few line rows e h = (answer-place line rows e h).1

-- rows for every text are as good as 1,024
all_lent : (line rows : List ℕ) → line_words ≤ length rows → parse line (rows_lent (length rows)) ≡ parse line 1024
unfolding rows_lent
all_lent line rows h = ap (parse line) (omega arith)

pub answer_read : (line rows : List ℕ) → line_words ≤ length rows → parse_answer line rows ≡ row_count (parse line 1024)
unfolding parse_answer
answer_read line rows h = ap row_count (all_lent line rows h)

pub rows_filled : (line rows : List ℕ) → line_words ≤ length rows → parse_rows line rows ≡ filled rows (parse line 1024)
unfolding parse_rows
rows_filled line rows h = ap (filled rows) (all_lent line rows h)

-- the rows of a tree that was read
pub table_read : (f : Forest Row) (rest : List ℕ) → take (row_words * count f) (table_of f ++ rest) ≡ table_of f
table_read f rest =
    let l : row_words * count f ≡ length (table_of f) = let m = length_table f in omega arith in
    ap (λ (k : ℕ). take k (table_of f ++ rest)) l ∙ take-append_seam (table_of f) rest

-- the rows that reading has left are a sound tree
pub read-is-sound : (line rows : List ℕ) (n : ℕ) → done n ≡ parse_answer line rows → (after : List ℕ) → after ≡ parse_rows line rows → T (is_sound line name_list (take (row_words * n) after))
read-is-sound line rows n e after s = rw s ((lent-sound line rows n (sym e)).sound)

-- the answer to these rows is the answer to the line
pub answer-read : (line rows : List ℕ) → line_words ≤ length rows → (n : ℕ) → done n ≡ parse_answer line rows → (after : List ℕ) → after ≡ parse_rows line rows → (out : List ℕ) (r : ℕ) (out' : List ℕ)
    → Answers (table_line line name_list (take (row_words * n) after)) out r out' → Answers (line_answer line) out r out'
unfolding line_answer
answer-read line rows h n e after s out r out' = go (parse line 1024) (e ∙ answer_read line rows h) (s ∙ rows_filled line rows h)
  where
    go : (o : Out (Forest Row)) → done n ≡ row_count o → after ≡ filled rows o → Answers (table_line line name_list (take (row_words * n) after)) out r out' → Answers (read_line line o) out r out'
    go (refused x) c i a = absurd (let z : ◌≡◌ {A = ℕ} 0 1 = cc in omega arith)
    go (done f) c i a =
        let size : n ≡ count f = cc in
        rw (size, i, table_read f, table_line_lem line f) at a

-- what reading a line uses
pub ruleset reads = (place_few, read_few, length-take, answer_read, read-is-sound)

-- ---- the clauses of the public function

module _ (line rows out : List ℕ) (words : line_words ≤ length rows) (room : answer_bytes ≤ length out) where
  pub with-room : (r : ℕ) (rows' out' : List ℕ) → rows' ≡ parse_rows line rows → Answers (line_answer line) out r out'
      → (Some r ≡ line_answered line rows out) × ((rows' ≡ line_rows line rows out) × (out' ≡ line_out line rows out))
  unfolding line_answered line_rows line_out
  with-room r rows' out' p a =
      let d = le-leb line_words (length rows) words in
      let e = le-leb answer_bytes (length out) room in
      (rw (d, e, a.counted), (rw (d, e, p), rw (d, e, a.stored)))
