-- What callers know of the token at a place, from the definitions alone: by its first byte, its bounds and its values.
use Rattle.std.specs.Prelude.{if◌then◌else◌, not}
use Rattle.std.specs.Prelude as Std
use mathlib.Core.Path.{◌≡◌, refl, sym, ap, ◌∙◌, subst}
use mathlib.Core.Bool.{Bool, true, false, ◌&&◌, ◌||◌}
use mathlib.Core.List.{List, [], ◌∷◌}
use mathlib.Core.Option.{Option, none, some}
use Prim.Native.Nat.{ℕ, zero, suc, ◌+◌, ◌-◌, ◌≤◌, ◌<◌, max}
use native.Mathlib.Omega.{arith}
use native.Mathlib.Decide.{dec_lt}
use lib.ListN.{length, drop, get_or, length-drop}
use lib.Seq.{drop-cons}
use lib.Dec.{T, leb, ltb, eqb, leb→le, eqb→eq}
use borrow.Author.Tests.{eqb-true, eqb-false, eq-eqb, ne_eqb, le-leb}
use Rattle.std.proofs.lemmas.Bool.Decides.{nat_tests}
use Rattle.tokenizer.specs.Answer.{Out, refused, done, refuse}
use Rattle.tokenizer.specs.Text.{all, same}
use Rattle.tokenizer.specs.Words.{Listed, words, find}
use Rattle.tokenizer.specs.Token.{lparen, rparen, comma, colon, integer, double_quoted, single_quoted, type_word, time_unit, interval_unit, union_mode, map_sorted, nullability, no_token, sort_of, value_of, is_negative, is_string, place_of, Standing, token, is_separator, word_of, is_digit, number_from, is_number, number_kind, word_kind, until_quote, string_token, token_from, token_at}
use Rattle.tokenizer.specs.Places.{after_spaces}
use Rattle.tokenizer.specs.declared.TokenKind.{TokenKind}
use Rattle.tokenizer.specs.declared.TokenKind.TheVariants.{LParen, RParen, Comma, Colon, Integer, DoubleQuotedString, SingleQuotedString}
use Rattle.tokenizer.proofs.Basics.{and_l, and_r, of_true}
use Rattle.tokenizer.proofs.Listed.{same_path}
use Rattle.tokenizer.specs.Internal.Digits.{limit}
use Rattle.tokenizer.proofs.Numbers.{limit_most}
use Rattle.tokenizer.proofs.Runs.{Within, until_within, Skipped, spaces-end, word_part}
use Rattle.tokenizer.proofs.Tokens.{token_end, here, token-34, token-39}

-- ---- the four marks

abbrev pub is_mark : ℕ → Bool
is_mark m = eqb m 40 || eqb m 41 || eqb m 44 || eqb m 58

abbrev pub mark_kind : ℕ → Out TokenKind
mark_kind m = if eqb m 40 then done LParen else if eqb m 41 then done RParen else if eqb m 44 then done Comma else done Colon

-- ---- cases

-- two numbers are equal or not
pub case : {A : Type 0} (a b : ℕ) → (a ≡ b → A) → ((a ≡ b → ⊥) → A) → A
case {A} a b f g = go (eqb a b) refl where
  go : (t : Bool) → eqb a b ≡ t → A
  go true e = f (eqb-true a b e)
  go false e = g (eqb-false a b e)

-- a choice by a test
pub choice : {X : Type 0} (P : X → Type 0) (b : Bool) (x y : X) → (b ≡ true → P x) → (b ≡ false → P y) → P (if b then x else y)
choice P true x y f g = f refl
choice P false x y f g = g refl

-- what holds of each of the four marks holds of every mark
pub marks : (P : ℕ → Type 0) → P 40 → P 41 → P 44 → P 58 → (m : ℕ) → T (is_mark m) → P m
marks P p₁ p₂ p₃ p₄ m t =
    case m 40 (λ e. subst P (sym e) p₁) (λ n₁.
    case m 41 (λ e. subst P (sym e) p₂) (λ n₂.
    case m 44 (λ e. subst P (sym e) p₃) (λ n₃.
    subst P (sym (eqb→eq m 58 (rw (ne_eqb m 40 n₁, ne_eqb m 41 n₂, ne_eqb m 44 n₃) at t))) p₄)))

pub not_separator : (c : ℕ) → (c ≡ 40 → ⊥) → (c ≡ 41 → ⊥) → (c ≡ 44 → ⊥) → (c ≡ 58 → ⊥) → (c ≡ 32 → ⊥) → is_separator c ≡ false
unfolding is_separator
not_separator c p q r s t = rw (ne_eqb c 40 p, ne_eqb c 41 q, ne_eqb c 44 r, ne_eqb c 58 s, ne_eqb c 32 t)

-- ---- the token at a place, by its first byte

module _ (text : List ℕ) (at : ℕ) (h : after_spaces text at < length text) where
  -- where a mark stands, its token does
  pub mark-token : (m : ℕ) → T (is_mark m) → get_or text (after_spaces text at) 0 ≡ m → token_at text at ≡ token (mark_kind m) (after_spaces text at) 1
  unfolding token_from
  mark-token m t e = rw (here text at (after_spaces text at) refl h, e) (grind (arith, nat_tests))

  no_mark : is_mark (get_or text (after_spaces text at) 0) ≡ false → is_separator (get_or text (after_spaces text at) 0) ≡ false
  unfolding is_separator
  no_mark m = let n = (spaces-end text at).no_space h in grind (arith, nat_tests)

  -- and where neither a mark nor a quote mark does, a word's
  pub token-word : is_mark (get_or text (after_spaces text at) 0) ≡ false → (get_or text (after_spaces text at) 0 ≡ 34 → ⊥) → (get_or text (after_spaces text at) 0 ≡ 39 → ⊥)
      → token_at text at ≡ token (word_kind (word_of (drop (after_spaces text at) text))) (after_spaces text at) (length (word_of (drop (after_spaces text at) text)))
  unfolding token_from
  token-word m d q =
      let c = get_or text (after_spaces text at) 0 in
      let n = (spaces-end text at).no_space h in
      rw (here text at (after_spaces text at) refl h, drop-cons text (after_spaces text at) 0 h) (grind (arith, nat_tests))

-- every token, by the first byte behind the spaces: P holds of it where P holds in each of the five cases
pub record Cases (text : List ℕ) (p : ℕ) (P : Standing → Type 0) : Type 0 where
  pub over : length text ≤ p → P (token (refuse 5) p 0)
  pub mark : (m : ℕ) → T (is_mark m) → p < length text → get_or text p 0 ≡ m → P (token (mark_kind m) p 1)
  pub double : p < length text → get_or text p 0 ≡ 34 → P (string_token DoubleQuotedString p (until_quote 34 false (drop (p + 1) text)))
  pub single : p < length text → get_or text p 0 ≡ 39 → P (string_token SingleQuotedString p (until_quote 39 false (drop (p + 1) text)))
  pub word : p < length text → is_separator (get_or text p 0) ≡ false → P (token (word_kind (word_of (drop p text))) p (length (word_of (drop p text))))

module _ (text : List ℕ) (at : ℕ) (P : Standing → Type 0) (k : Cases text (after_spaces text at) P) where
  inside : after_spaces text at < length text → P (token_at text at)
  inside h = go (is_mark (get_or text (after_spaces text at) 0)) refl
    where
      go : (b : Bool) → is_mark (get_or text (after_spaces text at) 0) ≡ b → P (token_at text at)
      go true e =
          let t = of_true (is_mark (get_or text (after_spaces text at) 0)) e in
          subst P (sym (mark-token text at h (get_or text (after_spaces text at) 0) t refl)) (k.mark (get_or text (after_spaces text at) 0) t h refl)
      go false e =
          case (get_or text (after_spaces text at) 0) 34 (λ d. subst P (token-34 text at (after_spaces text at) refl h d) (k.double h d)) (λ n.
          case (get_or text (after_spaces text at) 0) 39 (λ q. subst P (token-39 text at (after_spaces text at) refl h q) (k.single h q)) (λ m.
          subst P (sym (token-word text at h e n m)) (k.word h (no_mark text at h e))))

  pub by_cases : P (token_at text at)
  by_cases =
      elim (dec_lt (after_spaces text at) (length text)) [
        | yes h ↦ inside h
        | no h ↦ let o : length text ≤ after_spaces text at = omega arith in subst P (token_end text at (after_spaces text at) refl o) (k.over o)
      ]

-- ---- what holds of every word's token

-- a test passes for each word of a list and its token
abbrev pub all_listed : (List ℕ → Out TokenKind → Bool) → List Listed → Bool
all_listed q [] = true
all_listed q (l ∷ ls) = q l.word (done l.kind) && all_listed q ls

module _ (q : List ℕ → Out TokenKind → Bool) where
  find-holds : (w : List ℕ) (ls : List Listed) → T (all_listed q ls) → T (q w (refuse 8)) → T (q w (find w ls))
  find-holds w [] t r = r
  find-holds w (l ∷ ls) t r =
      choice (λ (x : Out TokenKind). T (q w x)) (same w l.word) (done l.kind) (find w ls)
      (λ e. subst (λ (v : List ℕ). T (q v (done l.kind))) (sym (same_path w l.word (of_true (same w l.word) e)))
      (and_l (q l.word (done l.kind)) (all_listed q ls) t))
      (λ e. find-holds w ls (and_r (q l.word (done l.kind)) (all_listed q ls) t) r)

  module _ (number : (w : List ℕ) (negative : Bool) (v : ℕ) → v ≤ limit negative → T (q w (done (Integer negative v))))
      (none : (w : List ℕ) → T (q w (refuse 8))) (listed : T (all_listed q words)) where
    most : (negative : Bool) (digits : List ℕ) → is_number negative digits ≡ true → number_from 0 digits ≤ limit negative
    most negative [] e = absurd (let z : ◌≡◌ {A = ℕ} 0 1 = ap (λ (b : Bool). if b then 1 else 0) e in omega arith)
    most negative (d ∷ ds) e =
        leb→le (number_from 0 (d ∷ ds)) (limit negative)
        (and_r (all is_digit (d ∷ ds)) (leb (number_from 0 (d ∷ ds)) (limit negative)) (of_true (is_number negative (d ∷ ds)) e))

    number-holds : (w : List ℕ) (negative : Bool) (digits : List ℕ) → T (q w (number_kind negative digits))
    number-holds w negative digits =
        choice (λ (k : Out TokenKind). T (q w k)) (is_number negative digits) (done (Integer negative (number_from 0 digits))) (refuse 8)
        (λ e. number w negative (number_from 0 digits) (most negative digits e))
        (λ e. none w)

    pub word_holds : (c : ℕ) (w : List ℕ) → T (q (c ∷ w) (word_kind (c ∷ w)))
    unfolding word_kind
    word_holds c w =
        choice (λ (k : Out TokenKind). T (q (c ∷ w) k)) (eqb c 45) (number_kind true w) (if is_digit c then number_kind false (c ∷ w) else (find (c ∷ w) words))
        (λ e. number-holds (c ∷ w) true w)
        (λ e. choice (λ (k : Out TokenKind). T (q (c ∷ w) k)) (is_digit c) (number_kind false (c ∷ w)) (find (c ∷ w) words)
        (λ f. number-holds (c ∷ w) false (c ∷ w))
        (λ f. find-holds (c ∷ w) words listed (none (c ∷ w))))

-- the word at a place begins with the byte there
pub word_first : (text : List ℕ) (p : ℕ) → p < length text → is_separator (get_or text p 0) ≡ false
    → word_of (drop p text) ≡ get_or text p 0 ∷ word_of (drop (suc p) text)
unfolding word_of
word_first text p h e = rw (drop-cons text p 0 h, e)

-- ---- the first byte of a token

-- The sorts that only one first byte begins.
abbrev pub starts : ℕ → ℕ → Bool
starts sort c =
    if eqb sort lparen then eqb c 40
    else if eqb sort rparen then eqb c 41
    else if eqb sort comma then eqb c 44
    else if eqb sort colon then eqb c 58
    else if eqb sort double_quoted then eqb c 34
    else if eqb sort single_quoted then eqb c 39
    else if eqb sort nullability then eqb c 110
    else true

-- the byte that begins a sort does, or the token is none
string_starts : (k : TokenKind) (c p : ℕ) (o : Option ℕ) → T (starts (sort_of (done k)) c) → T (starts (sort_of (string_token k p o).kind) c)
string_starts k c p o t = grind arith

word_starts : (c : ℕ) (w : List ℕ) → T (starts (sort_of (word_kind (c ∷ w))) c)
unfolding words
word_starts = word_holds (λ w k. starts (sort_of k) (get_or w 0 0)) (λ w negative v h. tt) (λ w. tt) tt

mark_starts : (m : ℕ) → T (is_mark m) → T (starts (sort_of (mark_kind m)) m)
mark_starts = marks (λ (m : ℕ). T (starts (sort_of (mark_kind m)) m)) tt tt tt tt

module _ (text : List ℕ) (at : ℕ) where
  first_byte : T (starts (sort_of (token_at text at).kind) (get_or text (after_spaces text at) 0))
  first_byte =
      let p = after_spaces text at in
      let c = get_or text (after_spaces text at) 0 in
      by_cases text at (λ t. T (starts (sort_of t.kind) (get_or text (after_spaces text at) 0)))
      (record {
        over = λ h. tt;
        mark = λ m t h e. subst (λ (x : ℕ). T (starts (sort_of (mark_kind m)) x)) (sym e) (mark_starts m t);
        double = λ h e. string_starts DoubleQuotedString c p (until_quote 34 false (drop (p + 1) text)) (of_true (eqb c 34) (eq-eqb c 34 e));
        single = λ h e. string_starts SingleQuotedString c p (until_quote 39 false (drop (p + 1) text)) (of_true (eqb c 39) (eq-eqb c 39 e));
        word = λ h e. subst (λ (w : List ℕ). T (starts (sort_of (word_kind w)) c)) (sym (word_first text p h e)) (word_starts c (word_of (drop (suc p) text)));
      })

  -- a token of a sort that only the byte m begins does not stand where another byte does
  pub other_byte : (sort m : ℕ) → ((c : ℕ) → starts sort c ≡ eqb c m) → (get_or text (after_spaces text at) 0 ≡ m → ⊥)
      → eqb (sort_of (token_at text at).kind) sort ≡ false
  other_byte sort m s n =
      ne_eqb (sort_of (token_at text at).kind) sort
      (λ e. n (eqb→eq (get_or text (after_spaces text at) 0) m
      (subst T (ap (λ (k : ℕ). starts k (get_or text (after_spaces text at) 0)) e ∙ s (get_or text (after_spaces text at) 0)) first_byte)))

  -- where the text is over, no token stands
  pub text-over : length text ≤ after_spaces text at → (sort : ℕ) → eqb no_token sort ≡ false → eqb (sort_of (token_at text at).kind) sort ≡ false
  text-over h sort n =
      ap (λ (t : Standing). eqb (sort_of t.kind) sort) (sym (token_end text at (after_spaces text at) refl h)) ∙ n

  pub no-lparen : (get_or text (after_spaces text at) 0 ≡ 40 → ⊥) → eqb (sort_of (token_at text at).kind) lparen ≡ false
  no-lparen = other_byte lparen 40 (λ c. refl)

  pub no-rparen : (get_or text (after_spaces text at) 0 ≡ 41 → ⊥) → eqb (sort_of (token_at text at).kind) rparen ≡ false
  no-rparen = other_byte rparen 41 (λ c. refl)

  pub no-comma : (get_or text (after_spaces text at) 0 ≡ 44 → ⊥) → eqb (sort_of (token_at text at).kind) comma ≡ false
  no-comma = other_byte comma 44 (λ c. refl)

  pub no-colon : (get_or text (after_spaces text at) 0 ≡ 58 → ⊥) → eqb (sort_of (token_at text at).kind) colon ≡ false
  no-colon = other_byte colon 58 (λ c. refl)

  pub no-nullability : (get_or text (after_spaces text at) 0 ≡ 110 → ⊥) → eqb (sort_of (token_at text at).kind) nullability ≡ false
  no-nullability = other_byte nullability 110 (λ c. refl)

-- ---- places

-- no word is a string
word_plain : (c : ℕ) (w : List ℕ) → T (not (is_string (word_kind (c ∷ w))))
unfolding words
word_plain = word_holds (λ w k. not (is_string k)) (λ w negative v h. tt) (λ w. tt) tt

word_place : (k : Out TokenKind) (p : ℕ) → T (not (is_string k)) → place_of k p ≡ p
word_place k p h = grind arith

-- a string's place is that of its mark, and so is that of a string that is none
string_place : (k : TokenKind) (p : ℕ) (o : Option ℕ) → T (is_string (done k)) → place_of (string_token k p o).kind (string_token k p o).start ≡ p
string_place k p o h = grind arith

-- a token's place is where the spaces before it end
pub place_here : (text : List ℕ) (at : ℕ) → place_of (token_at text at).kind (token_at text at).start ≡ after_spaces text at
place_here text at =
    let p = after_spaces text at in
    by_cases text at (λ t. place_of t.kind t.start ≡ after_spaces text at)
    (record {
      over = λ h. refl;
      mark = λ m t h e. marks (λ (x : ℕ). place_of (mark_kind x) p ≡ p) refl refl refl refl m t;
      double = λ h e. string_place DoubleQuotedString p (until_quote 34 false (drop (p + 1) text)) tt;
      single = λ h e. string_place SingleQuotedString p (until_quote 39 false (drop (p + 1) text)) tt;
      word = λ h e. word_place (word_kind (word_of (drop p text))) p
          (subst (λ (w : List ℕ). T (not (is_string (word_kind w)))) (sym (word_first text p h e)) (word_plain (get_or text p 0) (word_of (drop (suc p) text))));
    })

-- a token's own refusal tells no place
abbrev pub no_place : Std.Option ℕ → Bool
no_place Std.None = true
no_place (Std.Some p) = false

abbrev pub placeless : Out TokenKind → Bool
placeless (refused r) = no_place r.place
placeless (done k) = true

word_placeless : (c : ℕ) (w : List ℕ) → T (placeless (word_kind (c ∷ w)))
unfolding words
word_placeless = word_holds (λ w k. placeless k) (λ w negative v h. tt) (λ w. tt) tt

string_placeless : (k : TokenKind) (p : ℕ) (o : Option ℕ) → T (placeless (string_token k p o).kind)
string_placeless k p none = tt
string_placeless k p (some zero) = tt
string_placeless k p (some (suc n)) = tt

pub token_placeless : (text : List ℕ) (at : ℕ) → T (placeless (token_at text at).kind)
token_placeless text at =
    let p = after_spaces text at in
    by_cases text at (λ t. T (placeless t.kind))
    (record {
      over = λ h. tt;
      mark = λ m t h e. marks (λ (x : ℕ). T (placeless (mark_kind x))) tt tt tt tt m t;
      double = λ h e. string_placeless DoubleQuotedString p (until_quote 34 false (drop (p + 1) text));
      single = λ h e. string_placeless SingleQuotedString p (until_quote 39 false (drop (p + 1) text));
      word = λ h e. subst (λ (w : List ℕ). T (placeless (word_kind w))) (sym (word_first text p h e)) (word_placeless (get_or text p 0) (word_of (drop (suc p) text)));
    })

-- ---- bounds

-- A token's bounds. Only a refusal may be empty.
pub record Bounds (text : List ℕ) (at : ℕ) (t : Standing) : Type 0 where
  pub behind : at ≤ t.start
  pub onward : at ≤ t.next
  pub within : t.next ≤ max at (length text)
  pub held : t.start + t.size ≤ max at (length text)
  pub some : (sort_of t.kind ≡ no_token → ⊥) → 1 ≤ t.size
  pub past : (sort_of t.kind ≡ no_token → ⊥) → at < t.next
  pub inside : (sort_of t.kind ≡ no_token → ⊥) → t.next ≤ length text
  pub bytes : (sort_of t.kind ≡ no_token → ⊥) → t.start + t.size ≤ length text

module _ (text : List ℕ) (at p : ℕ) (e : Skipped text at p) where
  refused-bounds : (n : ℕ) → Bounds text at (token (refuse n) p 0)
  refused-bounds n = search arith

  token-bounds : (k : Out TokenKind) (size : ℕ) → 1 ≤ size → p + size ≤ length text → Bounds text at (token k p size)
  token-bounds k size s h = search arith

  string-bounds : (k : TokenKind) (o : Option ℕ) → Within (length text - (p + 1)) o → Bounds text at (string_token k p o)
  unfolding Within
  string-bounds k none w = refused-bounds 6
  string-bounds k (some zero) w = refused-bounds 7
  string-bounds k (some (suc n)) w = search arith

  quoted-bounds : (k : TokenKind) (quote : ℕ) → Bounds text at (string_token k p (until_quote quote false (drop (p + 1) text)))
  quoted-bounds k quote =
      string-bounds k (until_quote quote false (drop (p + 1) text)) (rw (length-drop (p + 1) text) at (until_within quote false (drop (p + 1) text)))

  word-bounds : p < length text → is_separator (get_or text p 0) ≡ false
      → Bounds text at (token (word_kind (word_of (drop p text))) p (length (word_of (drop p text))))
  word-bounds h n =
      let w = (word_part (drop p text)).within in
      token-bounds (word_kind (word_of (drop p text))) (length (word_of (drop p text)))
      (omega (arith, ap length (word_first text p h n)))
      (omega (arith, length-drop p text))

pub bounds : (text : List ℕ) (at : ℕ) → Bounds text at (token_at text at)
bounds text at =
    let p = after_spaces text at in
    let e = spaces-end text at in
    by_cases text at (Bounds text at)
    (record {
      over = λ h. refused-bounds text at p e 5;
      mark = λ m t h c. token-bounds text at p e (mark_kind m) 1 (omega arith) (omega arith);
      double = λ h c. quoted-bounds text at p e DoubleQuotedString 34;
      single = λ h c. quoted-bounds text at p e SingleQuotedString 39;
      word = λ h n. word-bounds text at p e h n;
    })

-- ---- values

-- The values that a sort of token has.
abbrev pub in_range : ℕ → ℕ → Bool
in_range sort v =
    if eqb sort type_word then ltb v 41
    else if eqb sort time_unit then ltb v 4
    else if eqb sort interval_unit then ltb v 3
    else if eqb sort union_mode then ltb v 2
    else if eqb sort map_sorted then ltb v 2
    else if eqb sort nullability then leb 1 v && leb v 2
    else if eqb sort integer then leb v 9223372036854775808
    else true

string_values : (k : TokenKind) (p : ℕ) (o : Option ℕ) → T (in_range (sort_of (done k)) (value_of (done k)))
    → T (in_range (sort_of (string_token k p o).kind) (value_of (string_token k p o).kind))
string_values k p o t = grind arith

word_values : (c : ℕ) (w : List ℕ) → T (in_range (sort_of (word_kind (c ∷ w))) (value_of (word_kind (c ∷ w))))
unfolding words
word_values =
    word_holds (λ w k. in_range (sort_of k) (value_of k))
    (λ w negative v h. let m = limit_most negative in of_true (leb v 9223372036854775808) (le-leb v 9223372036854775808 (omega arith))) (λ w. tt) tt

-- a number's magnitude is one that its sign takes
abbrev pub in_sign : Out TokenKind → Bool
in_sign k = if eqb (sort_of k) integer then leb (value_of k) (limit (is_negative k)) else true

string_sign : (k : TokenKind) (p : ℕ) (o : Option ℕ) → T (in_sign (done k)) → T (in_sign (string_token k p o).kind)
string_sign k p o t = grind arith

word_sign : (c : ℕ) (w : List ℕ) → T (in_sign (word_kind (c ∷ w)))
unfolding words
word_sign = word_holds (λ w k. in_sign k) (λ w negative v h. of_true (leb v (limit negative)) (le-leb v (limit negative) h)) (λ w. tt) tt

pub sign_holds : (text : List ℕ) (at : ℕ) → T (in_sign (token_at text at).kind)
sign_holds text at =
    let p = after_spaces text at in
    by_cases text at (λ t. T (in_sign t.kind))
    (record {
      over = λ h. tt;
      mark = λ m t h e. marks (λ (x : ℕ). T (in_sign (mark_kind x))) tt tt tt tt m t;
      double = λ h e. string_sign DoubleQuotedString p (until_quote 34 false (drop (p + 1) text)) tt;
      single = λ h e. string_sign SingleQuotedString p (until_quote 39 false (drop (p + 1) text)) tt;
      word = λ h e. subst (λ (w : List ℕ). T (in_sign (word_kind w))) (sym (word_first text p h e)) (word_sign (get_or text p 0) (word_of (drop (suc p) text)));
    })

module _ (text : List ℕ) (at : ℕ) where
  pub values : T (in_range (sort_of (token_at text at).kind) (value_of (token_at text at).kind))
  values =
      let p = after_spaces text at in
      by_cases text at (λ t. T (in_range (sort_of t.kind) (value_of t.kind)))
      (record {
        over = λ h. tt;
        mark = λ m t h e. marks (λ (x : ℕ). T (in_range (sort_of (mark_kind x)) (value_of (mark_kind x)))) tt tt tt tt m t;
        double = λ h e. string_values DoubleQuotedString p (until_quote 34 false (drop (p + 1) text)) tt;
        single = λ h e. string_values SingleQuotedString p (until_quote 39 false (drop (p + 1) text)) tt;
        word = λ h e. subst (λ (w : List ℕ). T (in_range (sort_of (word_kind w)) (value_of (word_kind w)))) (sym (word_first text p h e))
            (word_values (get_or text p 0) (word_of (drop (suc p) text)));
      })

  -- the range of a sort
  pub value-range : (sort : ℕ) → sort_of (token_at text at).kind ≡ sort → T (in_range sort (value_of (token_at text at).kind))
  value-range sort e = subst (λ (s : ℕ). T (in_range s (value_of (token_at text at).kind))) e values

  pub nullability-least : sort_of (token_at text at).kind ≡ nullability → 1 ≤ value_of (token_at text at).kind
  nullability-least e =
      let v = value_of (token_at text at).kind in
      leb→le 1 v (and_l (leb 1 v) (leb v 2) (value-range nullability e))

  pub nullability-most : sort_of (token_at text at).kind ≡ nullability → value_of (token_at text at).kind ≤ 2
  nullability-most e =
      let v = value_of (token_at text at).kind in
      leb→le v 2 (and_r (leb 1 v) (leb v 2) (value-range nullability e))
