-- One line more, as the code counts it.
use Rattle.std.specs.Prelude.{cond, sum_by, count_by}
use mathlib.Core.Path.{◌≡◌, refl, sym, ap, ◌∙◌}
use mathlib.Core.List.{List, [], ◌∷◌, ◌++◌, map}
use Prim.Native.Nat.{ℕ, ◌+◌, ◌-◌, ◌*◌, ◌/◌, ◌≤◌, ◌<◌, max}
use native.Mathlib.Omega.{arith}
use lib.ListN.{length, get_or, set, take, length-append}
use lib.Dec.{eqb}
use borrow.Author.Tests.{lt-ltb, le-ltb}
use Rattle.std.proofs.lemmas.List.Sums.{sum_by-cons}
use Rattle.std.proofs.lemmas.List.Elements.{All-get_or, All-map}
use Rattle.std.proofs.lemmas.List.{length-map}
use Rattle.std.proofs.lemmas.List.FromFn.{get_or-map-range_with_len}
use Rattle.tokenizer.specs.Answer.{Refusal, Out, refused, done, refuse, number_of as refusal_number}
use Rattle.datatype.specs.Kind.{kinds}
use Rattle.datatype.specs.Tree.{Forest, count, Row}
use Rattle.datatype.specs.Table.{row_words, table_of, rows_lent, word_at}
use Rattle.datatype.proofs.Table.{length_table}
use Rattle.unchecked_rows.specs.Levels.{levels_of}
use Rattle.parser.specs.Answer.{refusal_in}
use Rattle.parser.specs.declared.error.ReadError.{ReadError}
use Rattle.datatype_parse.specs.Parse.{parse, row_count, parse_answer, filled, parse_rows}
use Rattle.datatype_parse.proofs.MoreRows.{filled_rows}
use Rattle.tally.specs.Tally.{read, rows_in, rows_of_kind, each_from, Counts, tally, added, together, tally_after, add_answer, rows_after}
use Rattle.tally.specs.declared.tally.Tally.TheInside.{Inside}
use Rattle.tally.specs.Laws.{IsTally}
use Rattle.tally.specs.Internal.Steps.{kinds_at, rows_by_kind, Countable}
use Rattle.tally.proofs.Sums.{each-all}
use Rattle.tally.proofs.RowKinds.{Accepted, accepted, kinds-table, length-rows}
use Rattle.tally.proofs.Refusals.{refusal_low_lem}
use Rattle.tally.proofs.Additions.{tally-append}
use Rattle.tally.proofs.Adding.{adds-accepted, adds-refused}
use Rattle.tally.proofs.Bounds.{Bounded, bounded}

-- ---- what reading a line leaves

-- An accepted line, with its tree, and the rows that it fills.
pub record ReadIn (line before : List ℕ) (n : ℕ) : Type 0 where
  pub tree : Forest Row
  pub is : read line ≡ done tree
  pub rows : count tree ≡ n
  pub table : take (row_words * n) (parse_rows line before) ≡ table_of tree
  pub known : Accepted tree

module _ (line before : List ℕ) (size : length before ≡ 12288) where
  all-lent : rows_lent (length before) ≡ 1024
  unfolding rows_lent
  all-lent = omega arith

  as-read : parse line (rows_lent (length before)) ≡ read line
  unfolding read
  as-read = ap (parse line) all-lent

  pub reads-in : (n : ℕ) → done n ≡ parse_answer line before → ReadIn line before n
  unfolding parse_answer parse_rows read
  reads-in n e = go (read line) refl (e ∙ ap row_count as-read)
    where
      go : (o : Out (Forest Row)) → read line ≡ o → done n ≡ row_count o → ReadIn line before n
      go (refused r) f q = absurd (let z : ◌≡◌ {A = ℕ} 0 1 = cc in omega arith)
      go (done t) f q =
          let c : count t ≡ n = cc in
          record {
            tree = t;
            is = f;
            rows = c;
            table = ap (λ (o : Out (Forest Row)). take (row_words * n) (filled before o)) (as-read ∙ f) ∙ filled_rows n before t c;
            known = accepted line t f;
          }

  -- A refused line, with the number.
  pub reads-refused : (e : ReadError) → refused (refusal_in e) ≡ parse_answer line before
      → (read line ≡ refused (refusal_in e)) × (1 ≤ refusal_number e.refusal) × (refusal_number e.refusal ≤ 16)
  unfolding parse_answer refusal_in read
  reads-refused e q = go (read line) refl (q ∙ ap row_count as-read)
    where
      go : (o : Out (Forest Row)) → read line ≡ o → refused (refusal_in e) ≡ row_count o
          → (read line ≡ refused (refusal_in e)) × (1 ≤ refusal_number e.refusal) × (refusal_number e.refusal ≤ 16)
      go (refused r) f q =
          let z : refusal_in e ≡ r = cc in
          let l = refusal_low_lem line 1024 r f in
          let n : refusal_number e.refusal ≡ r.number = ap (λ (x : Refusal). x.number) z in
          (f ∙ ap (λ (x : Refusal). refused x) (sym z), omega arith, omega arith)
      go (done t) f q = absurd (let z : ◌≡◌ {A = ℕ} 0 1 = cc in omega arith)

-- ---- the rows of an accepted line

sum-mapped : {A : Type 0} (g : ℕ → ℕ) (h : A → ℕ) (xs : List A) → sum_by g (map h xs) ≡ sum_by (λ x. g (h x)) xs
sum-mapped g h [] = refl
sum-mapped g h (x ∷ xs) =
    let a = sum_by-cons g (h x) (map h xs) in
    let b = sum_by-cons (λ x. g (h x)) x xs in
    let c = sum-mapped g h xs in
    omega arith

module _ (f : Forest Row) where
  all-rows : length (table_of f) / row_words ≡ count f
  all-rows = let l = length_table f in omega arith

  rows-counted : rows_by_kind (table_of f) (length (table_of f) / row_words) ≡ each_from 0 41 (λ k. rows_of_kind k (done f))
  unfolding rows_by_kind
  rows-counted =
      each-all 41 0 _ _ (λ k.
      ap (λ (n : ℕ). count_by (λ w. eqb w k) (kinds_at (table_of f) n)) all-rows
      ∙ ap (count_by (λ w. eqb w k)) (kinds-table f)
      ∙ sum-mapped (λ w. cond (eqb w k) 1 0) (λ (r : Row). r.kind) (rows_in f))

  row-kind : Accepted f → (i : ℕ) → i < length (table_of f) / row_words → word_at (table_of f) i 0 < 41
  unfolding kinds_at
  row-kind a i h =
      let r = all-rows in
      let s = length-rows f in
      let m = length-map (rows_in f) (λ (r : Row). r.kind) in
      let w : get_or (map (λ (r : Row). r.kind) (rows_in f)) i 0 ≡ word_at (table_of f) i 0 =
      ap (λ (l : List ℕ). get_or l i 0) (sym (kinds-table f)) ∙ get_or-map-range_with_len (λ i. word_at (table_of f) i 0) 0 (count f) i i 0 (omega arith) (omega arith) in
      let k : get_or (map (λ (r : Row). r.kind) (rows_in f)) i 0 < 41 =
      All-get_or (λ (k : ℕ). k < 41) (map (λ (r : Row). r.kind) (rows_in f)) i 0 (omega arith) (All-map (λ (k : ℕ). k < 41) (λ (r : Row). r.kind) (rows_in f) a.kind) in
      omega arith

-- ---- the counts behind a line

pub counts-line : (t : Counts) (line : List ℕ) → t.lines < 1000000 → tally_after t line ≡ together t (tally (line ∷ []))
unfolding tally_after
counts-line t line h = rw (lt-ltb t.lines 1000000 h) refl

module _ (t : Counts) (line before : List ℕ) (b : Bounded t) (more : t.lines < 1000000) where
  module _ (n : ℕ) (r : ReadIn line before n) where
    abbrev pub the_rows : List ℕ
    the_rows = take (row_words * n) (parse_rows line before)

    pub countable : Countable t.kinds the_rows
    countable =
        let l = all-rows r.tree in
        let few = r.known.rows in
        rw r.table (record { kind = row-kind r.tree r.known; room = λ k. let m = b.kinds k in omega arith })

    pub after-accepted
        : record { lines = t.lines + 1; ok = t.ok + 1; refused = t.refused; kinds = added t.kinds (rows_by_kind the_rows (length the_rows / row_words)); deep = max t.deep (levels_of the_rows) } ≡ tally_after t line
    after-accepted =
        rw r.table (ap (λ (l : List ℕ). record { lines = t.lines + 1; ok = t.ok + 1; refused = t.refused; kinds = added t.kinds l; deep = max t.deep (levels_of (table_of r.tree)) }) (rows-counted r.tree)
        ∙ ap (λ (d : ℕ). record { lines = t.lines + 1; ok = t.ok + 1; refused = t.refused; kinds = added t.kinds (each_from 0 41 (λ k. rows_of_kind k (done r.tree))); deep = max t.deep d }) r.known.counted
        ∙ sym (adds-accepted t line b.sixteen r.tree r.is)
        ∙ sym (counts-line t line more))

  pub after-refused : (number : ℕ) (r : Refusal) → read line ≡ refused r → r.number ≡ number → 1 ≤ number → number ≤ 16
      → record { lines = t.lines + 1; ok = t.ok; refused = set t.refused (number - 1) (get_or t.refused (number - 1) 0 + 1); kinds = t.kinds; deep = t.deep } ≡ tally_after t line
  after-refused number r e i h k =
      ap (λ (n : ℕ). record { lines = t.lines + 1; ok = t.ok; refused = set t.refused (n - 1) (get_or t.refused (n - 1) 0 + 1); kinds = t.kinds; deep = t.deep }) (sym i)
      ∙ sym (adds-refused t line b.sixteen b.many r e (omega arith) (omega arith))
      ∙ sym (counts-line t line more)

pub tally-lines : (ls : List (List ℕ)) → (tally ls).lines ≡ length ls
unfolding tally
tally-lines ls = refl

-- one line more makes a tally of one line more
pub still-tally : (t : Counts) (line : List ℕ) → IsTally t → t.lines < 1000000 → IsTally (tally_after t line)
still-tally t line i more =
    let same : t.lines ≡ length i.of = ap (λ (u : Counts). u.lines) i.is ∙ tally-lines i.of in
    record {
      of = i.of ++ (line ∷ []);
      few = rw (length-append i.of (line ∷ [])) (omega arith);
      is = counts-line t line more ∙ ap (λ (u : Counts). together u (tally (line ∷ []))) i.is ∙ sym (tally-append i.of (line ∷ []));
    }

-- the counts of a list are those of the list with the line behind it
pub one-more : (t : Counts) (line : List ℕ) (ls : List (List ℕ)) → t ≡ tally ls → length ls < 1000000 → tally_after t line ≡ tally (ls ++ (line ∷ []))
one-more t line ls e h =
    let few : t.lines < 1000000 = rw (ap (λ (u : Counts). u.lines) e ∙ tally-lines ls) h in
    counts-line t line few ∙ ap (λ (u : Counts). together u (tally (line ∷ []))) e ∙ sym (tally-append ls (line ∷ []))

-- ---- the code's fields

-- The counts in the fields, and the same when one line more is counted last.
abbrev pub seen : Inside → Counts
seen x = record { lines = x.lines; ok = x.ok; refused = x.refused; kinds = x.kinds; deep = x.deep }

abbrev pub line_counted : Inside → Counts
line_counted x = record { lines = x.lines + 1; ok = x.ok; refused = x.refused; kinds = x.kinds; deep = x.deep }

module _ (t : Inside) (inv : IsTally (seen t)) (more : t.lines < 1000000) (line before : List ℕ) (size : length before ≡ 12288) where
  known : Bounded (seen t)
  known = bounded (seen t) inv

  module _ (n : ℕ) (e : done n ≡ parse_answer line before) (rows : List ℕ) (r : rows ≡ parse_rows line before) where
    read-in : ReadIn line before n
    read-in = reads-in line before size n e

    pub rows-few-enough : n ≤ 1024
    rows-few-enough = let i = read-in in let a = i.known.rows in let b = i.rows in omega arith

    pub rows-countable : Countable t.kinds (take (row_words * n) rows)
    rows-countable = rw r (countable (seen t) line before known more n read-in)

    pub levels-fit : levels_of (take (row_words * n) rows) ≤ 64
    levels-fit = let i = read-in in rw (r, i.table, i.known.counted) i.known.levels

    pub ok-fits : t.ok < 1000000
    ok-fits = let k = known.ok in omega arith

    pub counted-accepted : (ks : List ℕ) → ks ≡ added t.kinds (rows_by_kind (take (row_words * n) rows) (length (take (row_words * n) rows) / row_words))
        → (levels deep : ℕ) → levels ≡ levels_of (take (row_words * n) rows) → deep ≡ max t.deep levels
        → (after : Inside) → after ≡ record { lines = t.lines; ok = t.ok + 1; refused = t.refused; kinds = ks; deep = deep } → line_counted after ≡ tally_after (seen t) line
    counted-accepted ks k levels deep l d after a =
        ap line_counted a
        ∙ (λ j. record { lines = t.lines + 1; ok = t.ok + 1; refused = t.refused; kinds = k j; deep = (d ∙ ap (λ (x : ℕ). max t.deep x) l) j })
        ∙ ap (λ (w : List ℕ). record { lines = t.lines + 1; ok = t.ok + 1; refused = t.refused; kinds = added t.kinds (rows_by_kind (take (row_words * n) w) (length (take (row_words * n) w) / row_words)); deep = max t.deep (levels_of (take (row_words * n) w)) }) r
        ∙ after-accepted (seen t) line before known more n read-in

  module _ (e : ReadError) (q : refused (refusal_in e) ≡ parse_answer line before) (number : ℕ) (i : number ≡ refusal_number e.refusal) where
    pub number-in : (1 ≤ number) × (number ≤ 16)
    number-in = let r = reads-refused line before size e q in let a = r.1 in let b = r.2 in (omega arith, omega arith)

    pub refused-fits : get_or t.refused (number - 1) 0 < 1000000
    refused-fits = let k = known.refused (number - 1) in omega arith

    pub counted-refused : (after : Inside) → after ≡ record { lines = t.lines; ok = t.ok; refused = set t.refused (number - 1) (get_or t.refused (number - 1) 0 + 1); kinds = t.kinds; deep = t.deep }
        → line_counted after ≡ tally_after (seen t) line
    unfolding refusal_in
    counted-refused after a =
        let r = reads-refused line before size e q in
        ap line_counted a ∙ after-refused (seen t) line before known more number (refusal_in e) r.0 (sym i) number-in.0 number-in.1

-- ---- the answers

module _ (t : Counts) (line rows : List ℕ) where
  pub full-answer : 1000000 ≤ t.lines → refuse 24 ≡ add_answer t
  unfolding add_answer
  full-answer h = rw (le-ltb t.lines 1000000 h) refl

  pub full-counts : 1000000 ≤ t.lines → t ≡ tally_after t line
  unfolding tally_after
  full-counts h = rw (le-ltb t.lines 1000000 h) refl

  pub full-rows : 1000000 ≤ t.lines → rows ≡ rows_after t line rows
  unfolding rows_after
  full-rows h = rw (le-ltb t.lines 1000000 h) refl

  pub more-answer : t.lines < 1000000 → done tt ≡ add_answer t
  unfolding add_answer
  more-answer h = rw (lt-ltb t.lines 1000000 h) refl

  pub more-rows : t.lines < 1000000 → parse_rows line rows ≡ rows_after t line rows
  unfolding rows_after
  more-rows h = rw (lt-ltb t.lines 1000000 h) refl
