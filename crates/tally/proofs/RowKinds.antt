-- The rows of an accepted line: their kinds, from the table that reading fills.
use Rattle.std.specs.Prelude.{All}
use Rattle.std.specs.List.{range_with_len}
use mathlib.Core.Path.{◌≡◌, refl, sym, ap, ◌∙◌}
use mathlib.Core.List.{List, [], ◌∷◌, ◌++◌, map, append_assoc, append-nil}
use mathlib.Core.Option.{Option, some}
use Prim.Native.Nat.{ℕ, zero, suc, ◌+◌, ◌*◌, ◌≤◌, ◌<◌}
use native.Mathlib.Omega.{arith}
use lib.ListN.{length, get_or, drop, length-append}
use lib.Dec.{T}
use Rattle.std.proofs.lemmas.List.Elements.{All-cons, All-nil, All-append}
use Rattle.std.proofs.lemmas.List.{get_or-drop, map-append}
use lib.Seq.{drop-drop}
use Rattle.unchecked_rows.specs.Levels.{levels_of}
use Rattle.unchecked_rows.proofs.LevelLaws.{levels_tree}
use Rattle.tokenizer.specs.Answer.{done}
use Rattle.datatype.specs.Kind.{kinds}
use Rattle.datatype.specs.Tree.{Forest, ∅, node, count, depth, Row, name_list, label_of, labels}
use Rattle.datatype.specs.Table.{row_words, words_of, table_of, word_at}
use Rattle.datatype.proofs.Table.{view_table}
use Rattle.row_table.specs.Sound.{Standing, bare, rows_fit}
use Rattle.row_table.proofs.SoundTree.{SoundTree, sound_tree, rows_fit_lem, rules_at}
use Rattle.datatype_parse.specs.Parse.{parse}
use Rattle.datatype_parse.proofs.ReadSound.{read_sound}
use Rattle.tally.specs.Tally.{rows_in}
use Rattle.tally.specs.Internal.Steps.{kinds_at}

-- ---- the kinds in a table

kind_row : (r : Row) (c : ℕ) (ws : List ℕ) → get_or (words_of r c ++ ws) 0 0 ≡ r.kind
unfolding words_of
kind_row r c ws = refl

-- the kinds of so many rows, one after the other
abbrev kinds_from : ℕ → List ℕ → List ℕ
kinds_from zero ws = []
kinds_from (suc n) ws = get_or ws 0 0 ∷ kinds_from n (drop row_words ws)

is-from : (n a : ℕ) (ws : List ℕ) → map (λ i. word_at ws i 0) (range_with_len a n) ≡ kinds_from n (drop (row_words * a) ws)
is-from zero a ws = refl
is-from (suc n) a ws =
    let e : row_words * a + row_words ≡ row_words * (a + 1) = omega arith in
    let h : word_at ws a 0 ≡ get_or (drop (row_words * a) ws) 0 0 = sym (get_or-drop (row_words * a) ws 0 0) in
    let t = is-from n (a + 1) ws ∙ ap (λ (k : ℕ). kinds_from n (drop k ws)) (sym e) ∙ ap (kinds_from n) (sym (drop-drop row_words (row_words * a) ws)) in
    λ j. h j ∷ t j

first_kind : (r : Row) (c n : ℕ) (ws : List ℕ) → kinds_from (suc n) (words_of r c ++ ws) ≡ r.kind ∷ kinds_from n ws
unfolding words_of
first_kind r c n ws = refl

all-kinds : (f : Forest Row) (m : ℕ) (rest : List ℕ) → kinds_from (count f + m) (table_of f ++ rest) ≡ map (λ r. r.kind) (rows_in f) ++ kinds_from m rest
unfolding table_of
all-kinds ∅ m rest = let e : 0 + m ≡ m = omega arith in ap (λ (k : ℕ). kinds_from k rest) e
all-kinds (node r kids next) m rest =
    let e : suc (count kids) + count next + m ≡ suc (count kids + (count next + m)) = omega arith in
    let a : (words_of r (suc (count kids)) ++ (table_of kids ++ table_of next)) ++ rest ≡ words_of r (suc (count kids)) ++ (table_of kids ++ (table_of next ++ rest)) =
    append_assoc (words_of r (suc (count kids))) (table_of kids ++ table_of next) rest ∙ ap (λ (l : List ℕ). words_of r (suc (count kids)) ++ l) (append_assoc (table_of kids) (table_of next) rest) in
    let k : List ℕ = map (λ (r : Row). r.kind) (rows_in kids) in
    let n : List ℕ = map (λ (r : Row). r.kind) (rows_in next) in
    ap (λ (i : ℕ). kinds_from i ((words_of r (suc (count kids)) ++ (table_of kids ++ table_of next)) ++ rest)) e
    ∙ ap (λ (l : List ℕ). kinds_from (suc (count kids + (count next + m))) l) a
    ∙ first_kind r (suc (count kids)) (count kids + (count next + m)) (table_of kids ++ (table_of next ++ rest))
    ∙ ap (λ (l : List ℕ). r.kind ∷ l) (all-kinds kids (count next + m) (table_of next ++ rest) ∙ ap (λ (l : List ℕ). k ++ l) (all-kinds next m rest) ∙ sym (append_assoc k n (kinds_from m rest)))
    ∙ ap (λ (l : List ℕ). r.kind ∷ (l ++ kinds_from m rest)) (sym (map-append (λ (r : Row). r.kind) (rows_in kids) (rows_in next)))

-- The kinds in the table of a run are those of its rows.
pub kinds-table : (f : Forest Row) → kinds_at (table_of f) (count f) ≡ map (λ r. r.kind) (rows_in f)
unfolding kinds_at
kinds-table f =
    let e : count f + 0 ≡ count f = omega arith in
    is-from (count f) 0 (table_of f)
    ∙ ap (λ (k : ℕ). kinds_from k (table_of f)) (sym e)
    ∙ ap (kinds_from (count f + 0)) (sym (append-nil (table_of f)))
    ∙ all-kinds f 0 []
    ∙ append-nil (map (λ (r : Row). r.kind) (rows_in f))

pub length-rows : (f : Forest Row) → length (rows_in f) ≡ count f
length-rows ∅ = refl
length-rows (node r kids next) = let a = length-rows kids in let b = length-rows next in let c = length-append (rows_in kids) (rows_in next) in omega arith

-- ---- what soundness says of them

fit-kinds : (text names : List ℕ) (standing : Standing) (f : Forest Row) → T (rows_fit standing (labels text names f)) → All (λ r. r.kind < kinds) (rows_in f)
unfolding labels label_of
fit-kinds text names standing ∅ t = All-nil (λ (r : Row). r.kind < kinds)
fit-kinds text names standing (node r kids next) t =
    let l = rows_fit_lem standing (label_of text names r) (labels text names kids) (labels text names next) t in
    All-cons (λ (r : Row). r.kind < kinds) r (rows_in kids ++ rows_in next) l.0.kind
    (All-append (λ (r : Row). r.kind < kinds) (rows_in kids) (rows_in next)
    (fit-kinds text names (rules_at (label_of text names r)).below kids l.1)
    (fit-kinds text names standing next l.2))

-- What is known of the rows of an accepted line.
pub record Accepted (f : Forest Row) : Type 0 where
  pub kind : All (λ r. r.kind < kinds) (rows_in f)
  pub rows : count f ≤ 1024
  pub some : 1 ≤ count f
  pub levels : depth f ≤ 64
  pub deep : 1 ≤ depth f
  pub counted : levels_of (table_of f) ≡ depth f

pub accepted : (line : List ℕ) (f : Forest Row) → parse line 1024 ≡ done f → Accepted f
accepted line f e =
    let sound = read_sound line 1024 f e (omega arith) in
    let s : SoundTree line name_list (table_of f) = sound_tree line name_list (table_of f) sound in
    let same : f ≡ node s.root s.kids ∅ = some-same (sym (view_table f) ∙ s.view) in
    let few = s.rows in
    let low = s.levels in
    record {
      kind = rw same (fit-kinds line name_list bare (node s.root s.kids ∅) s.fits);
      rows = rw same (omega arith);
      some = rw same (omega arith);
      levels = rw same (omega arith);
      deep = rw same (omega arith);
      counted = levels_tree (table_of f) f (view_table f) (rw same (omega arith));
    }
  where
    some-same : {g h : Forest Row} → ◌≡◌ {A = Option (Forest Row)} (some g) (some h) → g ≡ h
    some-same e = cc
