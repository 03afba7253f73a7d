-- What is known of the tokens that the reader takes: their values, and that the string between two marks is a part of
-- the text that cuts no character.
use Rattle.std.specs.Prelude.{if◌then◌else◌}
use mathlib.Core.Path.{◌≡◌, refl, sym, ◌∙◌, subst}
use mathlib.Core.Bool.{Bool, true, false, not, ◌&&◌, ◌||◌}
use mathlib.Core.List.{List, [], ◌∷◌}
use mathlib.Core.Option.{Option, none, some, map}
use Prim.Native.Nat.{ℕ, zero, suc, ◌+◌, ◌-◌, ◌≤◌, ◌<◌}
use native.Mathlib.Omega.{arith}
use lib.ListN.{length, take, drop, get_or, length-drop}
use lib.Seq.{drop-cons, take-add, get_or-drop}
use lib.Dec.{T, leb, ltb, eqb, leb→le, eqb→eq}
use borrow.Author.Tests.{le-leb, ne_eqb, eqb-true}
use Rattle.tokenizer.specs.Answer.{Out, refused, done}
use Rattle.tokenizer.specs.Utf8.{utf8_state, is_utf8}
use Rattle.tokenizer.specs.Words.{words}
use Rattle.tokenizer.specs.Places.{after_spaces}
use Rattle.tokenizer.specs.Token.{Standing, token_at, sort_of, value_of, is_negative, word_of, word_kind, escaped_after, until_quote, string_token, integer, double_quoted, single_quoted, field_word, colon, time_unit, nullability, lparen, rparen, comma, none_word, some_word}
use Rattle.tokenizer.specs.declared.TokenKind.{TokenKind}
use Rattle.tokenizer.specs.declared.TokenKind.TheVariants.{DoubleQuotedString, SingleQuotedString}
use Rattle.tokenizer.proofs.Basics.{and_l}
use Rattle.tokenizer.proofs.Runs.{Within, until_within}
use Rattle.tokenizer.proofs.Marks as Marks
use Rattle.tokenizer.proofs.Utf8Laws.{state_append, step_ascii}
use Rattle.datatype.specs.Kind.{unit_fits}
use Rattle.row_table.specs.Internal.Check.{boundary, part_fits, zone_ok}
use Rattle.row_table.proofs.Boundary.{boundary-low, part-utf8}
use Rattle.parser.specs.Parse.{Zone, scale_of, need, stands, role_at, number_in, unit_at, list_name_at, some_zone, zone_string, zone_at}
use Rattle.parser.proofs.Holds.{Holds, holds_bind, holds_then, holds_if}

-- a choice whose first side is taken only where a test passes
pub holds_when : {A : Type 0} (P : A → Type 0) (b : Bool) (x y : Out A) → (T b → Holds P x) → Holds P y → Holds P (if b then x else y)
holds_when P true x y p q = p tt
holds_when P false x y p q = q

-- a fact that follows from another
pub holds_as : {A : Type 0} (Q P : A → Type 0) (o : Out A) → Holds Q o → ((a : A) → Q a → P a) → Holds P o
holds_as Q P (refused r) q h = tt
holds_as Q P (done a) q h = h a q

-- ---- bounds

-- a token that is taken has a byte at least, and lies inside the text
abbrev pub Taken : List ℕ → ℕ → Standing → Type 0
Taken text at t = (at < t.next) × (t.next ≤ length text)

pub need_taken : (text : List ℕ) (sort at : ℕ) → T (leb 1 sort) → Holds (Taken text at) (need text sort at)
unfolding need
need_taken text sort at l =
    let t = token_at text at in
    let b = Marks.bounds text at in
    let s = leb→le 1 sort l in
    holds_when (Taken text at) (eqb (sort_of t.kind) sort) (done t) _
    (λ e. let k = eqb→eq (sort_of t.kind) sort e in (b.past (λ z. omega arith), b.inside (λ z. omega arith))) tt

-- ---- values

-- a number lies within its limits
abbrev pub Limited : ℕ → ℕ → Standing → Type 0
Limited least most t = value_of t.kind ≤ (if is_negative t.kind then least else most)

module _ (text : List ℕ) where
  -- a value is one of its sort's
  pub need-value : (sort at : ℕ) → Holds (λ (t : Standing). T (Marks.in_range sort (value_of t.kind))) (need text sort at)
  unfolding need
  need-value sort at =
      let t = token_at text at in
      holds_when (λ (t : Standing). T (Marks.in_range sort (value_of t.kind))) (eqb (sort_of t.kind) sort) (done t) _
      (λ e. Marks.value-range text at sort (eqb→eq (sort_of t.kind) sort e)) tt

  -- a role is 1 or 2
  pub role-some : (at : ℕ) → T (eqb (role_at text at) 1 || eqb (role_at text at) 2)
  unfolding role_at stands
  role-some at = go (eqb (sort_of (token_at text at).kind) nullability) refl
    where
      one-two : (v : ℕ) → 1 ≤ v → v ≤ 2 → T (eqb v 1 || eqb v 2)
      one-two zero p q = absurd (omega arith)
      one-two (suc zero) p q = tt
      one-two (suc (suc zero)) p q = tt
      one-two (suc (suc (suc v))) p q = absurd (omega arith)

      go : (b : Bool) → eqb (sort_of (token_at text at).kind) nullability ≡ b
          → T (eqb (if b then value_of (token_at text at).kind else 1) 1 || eqb (if b then value_of (token_at text at).kind else 1) 2)
      go true e =
          let s : sort_of (token_at text at).kind ≡ nullability = eqb-true (sort_of (token_at text at).kind) nullability e in
          one-two (value_of (token_at text at).kind) (Marks.nullability-least text at s) (Marks.nullability-most text at s)
      go false e = tt

  pub number-limited : (least most at : ℕ) → Holds (Limited least most) (number_in text least most at)
  unfolding number_in
  number-limited least most at =
      holds_bind (Limited least most) (need text integer at) _ λ t.
      holds_when (Limited least most) (leb (value_of t.kind) (if is_negative t.kind then least else most)) (done t) _
      (λ e. leb→le (value_of t.kind) (if is_negative t.kind then least else most) e) tt

  pub unit-value : (k at : ℕ) → Holds (λ (t : Standing). T (ltb (value_of t.kind) 4) × T (unit_fits k (value_of t.kind))) (unit_at text k at)
  unfolding unit_at
  unit-value k at =
      holds_then (λ (t : Standing). T (ltb (value_of t.kind) 4)) (λ (t : Standing). T (ltb (value_of t.kind) 4) × T (unit_fits k (value_of t.kind)))
      (need text time_unit at) _ (need-value time_unit at) λ t h.
      holds_when (λ (t : Standing). T (ltb (value_of t.kind) 4) × T (unit_fits k (value_of t.kind))) (unit_fits k (value_of t.kind)) (done t) _ (λ e. (h, e)) tt

pub limit_most : (k : Out TokenKind) (most : ℕ) → value_of k ≤ (if is_negative k then 0 else most) → value_of k ≤ most
limit_most k most = go (is_negative k) (value_of k)
  where
    go : (b : Bool) (v : ℕ) → v ≤ (if b then 0 else most) → v ≤ most
    go true v h = omega arith
    go false v h = h

pub scale_most : (k : Out TokenKind) → value_of k ≤ (if is_negative k then 128 else 127) → scale_of k < 256
scale_most k = go (is_negative k) (value_of k)
  where
    go : (b : Bool) (v : ℕ) → v ≤ (if b then 128 else 127) → (if b then 128 - v else (128 + v)) < 256
    go true v h = omega arith
    go false v h = omega arith

-- ---- quoted strings

-- the byte behind so many is a mark, if they are counted
abbrev Mark : ℕ → List ℕ → Option ℕ → Type 0
Mark quote s none = Unit {0}
Mark quote s (some n) = get_or s n 0 ≡ quote

mark_more : (quote c : ℕ) (s : List ℕ) (o : Option ℕ) → Mark quote s o → Mark quote (c ∷ s) (map suc o)
mark_more quote c s none m = tt
mark_more quote c s (some n) m = m

mark_either : (quote : ℕ) (s : List ℕ) (b : Bool) (o p : Option ℕ) → (T b → Mark quote s o) → Mark quote s p → Mark quote s (if b then o else p)
mark_either quote s true o p v w = v tt
mark_either quote s false o p v w = w

-- what ends a string is the mark
until_mark : (quote : ℕ) (escaped : Bool) (s : List ℕ) → Mark quote s (until_quote quote escaped s)
unfolding until_quote
until_mark quote escaped [] = tt
until_mark quote escaped (c ∷ s) =
    mark_either quote (c ∷ s) (eqb c quote && not escaped) (some 0) (map suc (until_quote quote (escaped_after quote escaped c) s))
    (λ t. eqb→eq c quote (and_l (eqb c quote) (not escaped) t))
    (mark_more quote c s (until_quote quote (escaped_after quote escaped c) s) (until_mark quote (escaped_after quote escaped c) s))

abbrev pub is_quoted : ℕ → Bool
is_quoted sort = eqb sort double_quoted || eqb sort single_quoted

word_unquoted : (c : ℕ) (w : List ℕ) → T (not (is_quoted (sort_of (word_kind (c ∷ w)))))
unfolding words
word_unquoted = Marks.word_holds (λ w k. not (is_quoted (sort_of k))) (λ w negative v h. tt) (λ w. tt) tt

clash : (b : Bool) → T (not b) → T b → ⊥
clash true n t = n
clash false n t = t

module _ (text : List ℕ) (good : T (is_utf8 text)) where
  -- a byte below 128 stands between characters, and so does what follows it
  after-low : (p : ℕ) → p < length text → get_or text p 0 < 128 → boundary text (p + 1) ≡ true
  unfolding boundary utf8_state
  after-low p h l =
      let e : utf8_state 0 (take p text) ≡ 0 = eqb-true (utf8_state 0 (take p text)) 0 (boundary-low text good p h l) in
      rw (take-add p 1 text, drop-cons text p 0 h, state_append 0 (take p text) (get_or text p 0 ∷ []), e, step_ascii (get_or text p 0) l)

  -- a part with bytes below 128 around it is UTF-8
  between : (p n : ℕ) → p < length text → get_or text p 0 < 128 → p + 1 + suc n < length text → get_or text (p + 1 + suc n) 0 < 128
      → T (part_fits text (p + 1) (suc n))
  unfolding part_fits
  between p n h l i m =
      let s : p + 1 + suc n ≤ length text = omega arith in
      let u : is_utf8 (take (suc n) (drop (p + 1) text)) ≡ true =
      part-utf8 text good (p + 1) (suc n) (omega arith) s ∙ rw (after-low p h l, boundary-low text good (p + 1 + suc n) i m) in
      rw (le-leb 1 (suc n) (omega arith), le-leb (p + 1 + suc n) (length text) s, u) tt

  abbrev Cut : Standing → Type 0
  Cut t = T (is_quoted (sort_of t.kind)) → T (part_fits text t.start t.size)

  string-cut : (k : TokenKind) (p quote : ℕ) (o : Option ℕ) → p < length text → get_or text p 0 ≡ quote → quote < 128
      → Within (length text - (p + 1)) o → Mark quote (drop (p + 1) text) o → Cut (string_token k p o)
  unfolding Within
  string-cut k p quote none h e l w m t = absurd t
  string-cut k p quote (some zero) h e l w m t = absurd t
  string-cut k p quote (some (suc n)) h e l w m t =
      let c : get_or text (p + 1 + suc n) 0 ≡ quote = sym (get_or-drop (p + 1) text (suc n) 0) ∙ m in
      between p n h (omega arith) (omega arith) (omega arith)

  quoted-cut : (k : TokenKind) (p quote : ℕ) → p < length text → get_or text p 0 ≡ quote → quote < 128 → Cut (string_token k p (until_quote quote false (drop (p + 1) text)))
  quoted-cut k p quote h e l =
      string-cut k p quote (until_quote quote false (drop (p + 1) text)) h e l
      (rw (length-drop (p + 1) text) at (until_within quote false (drop (p + 1) text))) (until_mark quote false (drop (p + 1) text))

  token-cut : (at : ℕ) → Cut (token_at text at)
  token-cut at =
      let p = after_spaces text at in
      Marks.by_cases text at Cut
      (record {
        over = λ h t. absurd t;
        mark = λ m t h e. Marks.marks (λ (x : ℕ). T (is_quoted (sort_of (Marks.mark_kind x))) → T (part_fits text p 1)) (λ t. absurd t) (λ t. absurd t) (λ t. absurd t) (λ t. absurd t) m t;
        double = λ h e. quoted-cut DoubleQuotedString p 34 h e (omega arith);
        single = λ h e. quoted-cut SingleQuotedString p 39 h e (omega arith);
        word = λ h e t.
            absurd (clash (is_quoted (sort_of (word_kind (word_of (drop p text)))))
            (subst (λ (w : List ℕ). T (not (is_quoted (sort_of (word_kind w))))) (sym (Marks.word_first text p h e)) (word_unquoted (get_or text p 0) (word_of (drop (suc p) text)))) t);
      })

  abbrev pub Part : Standing → Type 0
  Part t = T (part_fits text t.start t.size)

  pub need-part : (sort at : ℕ) → T (is_quoted sort) → Holds Part (need text sort at)
  unfolding need
  need-part sort at q =
      let t = token_at text at in
      holds_when Part (eqb (sort_of t.kind) sort) (done t) _
      (λ e. token-cut at (subst (λ (s : ℕ). T (is_quoted s)) (sym (eqb→eq (sort_of t.kind) sort e)) q)) tt

  pub list-name-part : (at : ℕ) → Holds Part (list_name_at text at)
  unfolding list_name_at
  list-name-part at =
      holds_bind Part (need text field_word at) _ λ f.
      holds_bind Part (need text colon f.next) _ λ c.
      need-part single_quoted c.next tt

  -- ---- zones

  abbrev pub Zoned : Zone → Type 0
  Zoned z = T (zone_ok text true z.start z.size)

  part-zone : (start size : ℕ) → T (part_fits text start size) → T (zone_ok text true start size)
  unfolding part_fits zone_ok
  part-zone start zero t = absurd t
  part-zone start (suc n) t = rw (ne_eqb (suc n) 0 (λ e. omega arith)) t

  some-zoned : (at : ℕ) → Holds Zoned (some_zone text at)
  unfolding some_zone
  some-zoned at =
      holds_bind Zoned (need text lparen at) _ λ p.
      holds_then Part Zoned (need text double_quoted p.next) _ (need-part double_quoted p.next tt) λ s h.
      holds_bind Zoned (need text rparen s.next) _ λ c. part-zone s.start s.size h

  string-zoned : (at : ℕ) → Holds Zoned (zone_string text at)
  unfolding zone_string
  string-zoned at =
      holds_if Zoned (stands text none_word at) _ _ (holds_bind Zoned (need text none_word at) _ λ n. no_zone)
      (holds_if Zoned (stands text some_word at) _ _ (holds_bind Zoned (need text some_word at) _ λ w. some-zoned w.next)
      (holds_then Part Zoned (need text double_quoted at) _ (need-part double_quoted at tt) λ s h. part-zone s.start s.size h))
    where
      no_zone : T (zone_ok text true 0 0)
      no_zone = unfold zone_ok in tt

  pub zone-zoned : (at : ℕ) → Holds Zoned (zone_at text at)
  unfolding zone_at zone_ok
  zone-zoned at =
      holds_if Zoned (stands text rparen at) _ _ (holds_bind Zoned (need text rparen at) _ λ c. tt)
      (holds_bind Zoned (need text comma at) _ λ c.
      holds_then Zoned Zoned (zone_string text c.next) _ (string-zoned c.next) λ z h.
      holds_bind Zoned (need text rparen z.next) _ λ e. h)
