-- A whole text: the end of it, and each return of the public reader as a law.
use Rattle.std.specs.Prelude.{if◌then◌else◌}
use mathlib.Core.Path.{◌≡◌, refl, sym, ap, ◌∙◌, subst}
use mathlib.Core.Bool.{Bool, true, false, not, ◌&&◌}
use mathlib.Core.List.{List, ◌∷◌, ◌++◌}
use mathlib.Core.Option.{Option, none, some}
use Prim.Native.Nat.{ℕ, zero, suc, ◌+◌, ◌≤◌, ◌<◌, min}
use native.Mathlib.Omega.{arith}
use lib.ListN.{length, get_or, drop, replicate}
use lib.Dec.{T, eqb, leb}
use borrow.Author.Tests.{leb-true, leb-false}
use Rattle.tokenizer.specs.Answer.{Refusal, Out, refused, done, refuse_at, ◌>>=◌}
use Rattle.tokenizer.specs.declared.refusal.Refusal.TheVariants.{TrailingText}
use Rattle.tokenizer.specs.Places.{after_spaces}
use Rattle.tokenizer.specs.Words.{words}
use Rattle.tokenizer.specs.Token.{Standing, token_at, sort_of, value_of, word_of, word_kind, no_token, until_quote, string_token}
use Rattle.tokenizer.specs.declared.TokenKind.{TokenKind}
use Rattle.tokenizer.specs.declared.TokenKind.TheVariants.{DoubleQuotedString, SingleQuotedString}
use Rattle.parser.proofs.Matched.{handed_on, handed}
use Rattle.parser.proofs.Places.{place_spaces}
use Rattle.parser.specs.Answer.{refusal_in}
use Rattle.tokenizer.proofs.Basics.{is_false}
use Rattle.tokenizer.proofs.Marks as Marks
use Rattle.tokenizer.proofs.Tokens.{token_end}
use Rattle.datatype.specs.Tree.{Forest, ∅, node, count, Row}
use Rattle.datatype.specs.Table.{table_of, rows_lent}
use Rattle.datatype.proofs.Table.{length_table}
use Rattle.unchecked_rows.specs.Parents.{parented, parents_set}
use Rattle.unchecked_rows.proofs.ParentSet.{lent_small}
use Rattle.unchecked_rows.proofs.ParentTree.{count_parented, first-parents-lent}
use Rattle.parser.proofs.Holds.{Holds}
use Rattle.datatype_parse.proofs.ReadSound.{Begun, first_read}
use Rattle.parser.specs.Parse.{Tree, single, rows_in, place_at, stands, first_type, read_of, rows_of}
use Rattle.parser.specs.declared.Extent.{Extent}
use Rattle.datatype_parse.specs.Parse.{text_over, parse, row_count, parse_answer, filled, parse_rows}

-- ---- the end of the text

-- a token that is no end of the text
abbrev goes_on : Out TokenKind → Bool
goes_on k = not (eqb (sort_of k) no_token && eqb (value_of k) 5)

word_goes_on : (c : ℕ) (w : List ℕ) → T (goes_on (word_kind (c ∷ w)))
unfolding words
word_goes_on = Marks.word_holds (λ w k. goes_on k) (λ w negative v h. tt) (λ w. tt) tt

string_goes_on : (k : TokenKind) (p : ℕ) (o : Option ℕ) → T (goes_on (done k)) → T (goes_on (string_token k p o).kind)
string_goes_on k p none h = tt
string_goes_on k p (some zero) h = tt
string_goes_on k p (some (suc n)) h = h

module _ (text : List ℕ) (at p : ℕ) (e : p ≡ after_spaces text at) where
  over-end : length text ≤ p → true ≡ text_over text at
  unfolding text_over stands
  over-end h = sym (ap (λ (t : Standing). eqb (sort_of t.kind) no_token && eqb (value_of t.kind) 5) (sym (token_end text at p e h)))

  not-over : p < length text → false ≡ text_over text at
  unfolding text_over stands
  not-over h = sym (is_false (eqb (sort_of (token_at text at).kind) no_token && eqb (value_of (token_at text at).kind) 5) (go (rw e at h)))
    where
      go : after_spaces text at < length text → T (goes_on (token_at text at).kind)
      go l =
          let q = after_spaces text at in
          Marks.by_cases text at (λ t. T (goes_on t.kind))
          (record {
            over = λ o. absurd (omega arith);
            mark = λ m t i f. Marks.marks (λ (x : ℕ). T (goes_on (Marks.mark_kind x))) tt tt tt tt m t;
            double = λ i f. string_goes_on DoubleQuotedString q (until_quote 34 false (drop (q + 1) text)) tt;
            single = λ i f. string_goes_on SingleQuotedString q (until_quote 39 false (drop (q + 1) text)) tt;
            word = λ i f. rw (Marks.word_first text q i f) (word_goes_on (get_or text q 0) (word_of (drop (suc q) text)));
          })

module _ (text : List ℕ) (at p : ℕ) (e : p ≡ after_spaces text at) where
  pub over-is : leb (length text) p ≡ text_over text at
  over-is = go (leb (length text) p) refl
    where
      go : (b : Bool) → leb (length text) p ≡ b → b ≡ text_over text at
      go true z = over-end text at p e (leb-true (length text) p z)
      go false z = not-over text at p e (leb-false (length text) p z)

-- ---- what the public reader answers and leaves

begun_few : (text : List ℕ) (rows : ℕ) → rows ≤ 1024 → Holds (λ (t : Tree). count (single t) ≤ 1024) (first_type text rows)
begun_few text rows l = go (first_type text rows) (first_read text rows)
  where
    go : (o : Out Tree) → Holds (Begun text rows) o → Holds (λ (t : Tree). count (single t) ≤ 1024) o
    go (refused x) h = tt
    go (done t) h =
        let c : count (parented (single t)) ≡ count (parented (node h.root h.kids ∅)) = ap count h.is in
        let f = h.fits.few in
        omega (arith, count_parented 0 0 (single t), count_parented 0 0 (node h.root h.kids ∅))

-- a tree, from the type that the text begins with
abbrev ended : List ℕ → Out Tree → Out (Forest Row)
ended text o = o >>= (λ t. if text_over text t.next then done (parented (single t)) else refuse_at 16 (place_at text t.next))

module _ (text before : List ℕ) where
  abbrev first : Out Tree
  first = first_type text (rows_lent (length before))

  few : Holds (λ (t : Tree). count (single t) ≤ 1024) first
  few = begun_few text (rows_lent (length before)) (lent_small (length before))

  pub read-refused : (after : List ℕ) (x : Refusal) → refused x ≡ read_of first → after ≡ rows_of before first → (refused x ≡ parse_answer text before) × (after ≡ parse_rows text before)
  unfolding parse parse_answer parse_rows read_of rows_of
  read-refused after x e w = go first e w
    where
      go : (o : Out Tree) → refused x ≡ read_of o → after ≡ rows_of before o → (refused x ≡ row_count (ended text o)) × (after ≡ filled before (ended text o))
      go (refused y) e w = let z : ◌≡◌ {A = Refusal} x y = cc in (ap refused z, w)
      go (done t) e w = absurd (let z : ◌≡◌ {A = ℕ} 0 1 = cc in omega arith)

  -- a type was read, and this is its place and row count
  module _ (x : Extent) (e : done x ≡ read_of first) where
    tree_read : (t : Tree) × (first ≡ done t) × (t.next ≡ x.next) × (x.used ≡ count (single t))
    unfolding read_of
    tree_read = go first e
      where
        go : (o : Out Tree) → done x ≡ read_of o → (t : Tree) × (o ≡ done t) × (t.next ≡ x.next) × (x.used ≡ count (single t))
        go (refused y) e = absurd (let z : ◌≡◌ {A = ℕ} 0 1 = cc in omega arith)
        go (done t) e = let i : x ≡ record { next = t.next; used = rows_in t } = cc in (t, refl, ap (λ (y : Extent). y.next) (sym i), omega (arith, ap (λ (y : Extent). y.used) i))

    over_there : (b : Bool) → text_over text x.next ≡ b → text_over text tree_read.0.next ≡ b
    over_there b o = ap (text_over text) tree_read.2 ∙ o

    pub read_count : (n : ℕ) → n ≡ x.used → text_over text x.next ≡ true → done n ≡ parse_answer text before
    unfolding parse parse_answer
    read_count n z o = rw (tree_read.1, over_there true o) (ap done (z ∙ tree_read.3 ∙ sym (count_parented 0 0 (single tree_read.0))))

    pub read_rows : (after mid : List ℕ) → mid ≡ rows_of before first → after ≡ parents_set mid (min x.used (rows_lent (length mid))) → text_over text x.next ≡ true → after ≡ parse_rows text before
    unfolding parse parse_rows rows_of
    read_rows after mid m w o = rw (tree_read.1, over_there true o) (go tree_read.0 (subst (Holds (λ (t : Tree). count (single t) ≤ 1024)) tree_read.1 few) tree_read.3 (m ∙ ap (rows_of before) tree_read.1))
      where
        go : (t : Tree) → count (single t) ≤ 1024 → x.used ≡ count (single t) → mid ≡ rows_of before (done t) → after ≡ table_of (parented (single t)) ++ drop (length (table_of (parented (single t)))) before
        go t l u m =
            let rest : List ℕ = drop (length (table_of (single t))) before in
            let long : length (table_of (single t)) ≡ length (table_of (parented (single t))) = omega (arith, length_table (single t), length_table (parented (single t)), count_parented 0 0 (single t)) in
            w
            ∙ ap (λ (l : List ℕ). parents_set l (min x.used (rows_lent (length l)))) m
            ∙ ap (λ (i : ℕ). parents_set (table_of (single t) ++ rest) (min i (rows_lent (length (table_of (single t) ++ rest))))) u
            ∙ first-parents-lent (single t) rest l
            ∙ ap (λ (i : ℕ). table_of (parented (single t)) ++ drop i before) long

    pub trailing_answer : text_over text x.next ≡ false → (place : ℕ) → place ≡ after_spaces text x.next → refused (refusal_in (record { place = place; refusal = TrailingText })) ≡ parse_answer text before
    unfolding parse parse_answer refusal_in
    trailing_answer o place p = rw (p ∙ place_spaces text x.next ∙ ap (place_at text) (sym tree_read.2), tree_read.1, over_there false o)

    pub trailing_rows : (after : List ℕ) → after ≡ replicate (length before) 0 → text_over text x.next ≡ false → after ≡ parse_rows text before
    unfolding parse parse_rows
    trailing_rows after w o = rw (tree_read.1, over_there false o) w

-- what the returns cite
pub ruleset over_steps = (over-is)

pub ruleset read_steps = (handed_on, handed, read-refused, read_count, trailing_answer, trailing_rows)
