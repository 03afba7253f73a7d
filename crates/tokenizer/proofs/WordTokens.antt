-- The token of a word by a walk through a table: what the code meets, and that the listed words' table gives `token_at`.
use mathlib.Core.Path.{◌≡◌, refl, sym, ap, ◌∙◌, subst}
use mathlib.Core.Bool.{Bool, true, false}
use mathlib.Core.List.{List, [], ◌∷◌}
use Prim.Native.Nat.{ℕ, ◌+◌, ◌-◌, ◌/◌, ◌%◌, ◌≤◌, ◌<◌}
use native.Mathlib.Omega.{arith}
use native.Mathlib.Decide.{dec_lt}
use native.Mathlib.Numerals.{add-one}
use lib.ListN.{length, take, drop, get_or, drop_of_length-le, length-drop}
use lib.Seq.{drop-cons}
use lib.Dec.{T, eqb}
use borrow.Author.Tests.{eq-eqb, ne_eqb, lt-ltb}
use Rattle.std.proofs.lemmas.Bool.Decides.{nat_tests}
use Rattle.std.specs.Char.{is_ascii_digit}
use Rattle.tokenizer.specs.Answer.{Out, refuse}
use Rattle.tokenizer.specs.Token.{Standing, token, is_separator, word_of, is_digit, word_kind, until_quote, string_token, token_at}
use Rattle.tokenizer.specs.Places.{after_spaces, word_end}
use Rattle.tokenizer.specs.Edges.{places, edges}
use Rattle.tokenizer.specs.WordTable.{edge_of, step, ending, walk, token_of_number, walk_kind, word_kind_by, begins_word, token_by}
use Rattle.tokenizer.specs.declared.TokenKind.{TokenKind}
use Rattle.tokenizer.specs.declared.TokenKind.TheVariants.{DoubleQuotedString, SingleQuotedString}
use Rattle.tokenizer.proofs.Runs.{word_part, spaces-end}
use Rattle.tokenizer.proofs.Tokens.{token_end, token-34, token-39}
use Rattle.tokenizer.proofs.Marks.{is_mark, mark_kind, mark-token, token-word, not_separator, word_first}
use Rattle.tokenizer.proofs.Walks.{walk_find}

-- ---- the walk at a place of a text

module _ (t text : List ℕ) (s i : ℕ) where
  pub walk-out : length text ≤ i → walk t s (word_of (drop i text)) ≡ ending t s
  unfolding walk word_of
  walk-out h = rw (drop_of_length-le text h)

  module _ (h : i < length text) where
    pub walk-stop : is_separator (get_or text i 0) ≡ true → walk t s (word_of (drop i text)) ≡ ending t s
    unfolding walk word_of
    walk-stop e = rw (drop-cons text i 0 h, e)

    module _ (n : is_separator (get_or text i 0) ≡ false) where
      pub walk-beyond : places ≤ s + get_or text i 0 → walk t s (word_of (drop i text)) ≡ 0
      unfolding walk word_of
      walk-beyond l = rw (drop-cons text i 0 h, n) (grind (arith, nat_tests))

      module _ (l : s + get_or text i 0 < places) where
        pub walk-go : get_or t (s + get_or text i 0) 0 % 256 ≡ get_or text i 0
            → walk t s (word_of (drop i text)) ≡ walk t (get_or t (s + get_or text i 0) 0 / 256 + get_or text i 0) (word_of (drop (i + 1) text))
        unfolding walk step word_of is_separator
        walk-go o =
            let e : edge_of t s (get_or text i 0) ≡ get_or t (s + get_or text i 0) 0 = rw (lt-ltb (s + get_or text i 0) places l) in
            let b : eqb (get_or text i 0) 32 ≡ false = grind (arith, nat_tests) in
            rw (drop-cons text i 0 h, n, e, eq-eqb (get_or t (s + get_or text i 0) 0 % 256) (get_or text i 0) o, b, add-one i)

        pub walk-lost : (get_or t (s + get_or text i 0) 0 % 256 ≡ get_or text i 0 → ⊥) → walk t s (word_of (drop i text)) ≡ 0
        unfolding walk word_of
        walk-lost o = rw (drop-cons text i 0 h, n) (grind (arith, nat_tests))

-- a word of number 0 is none
pub no_number : (n : ℕ) → n ≡ 0 → token_of_number n ≡ refuse 8
unfolding token_of_number
no_number n e = rw e

-- The token of the word at a place, of a kind that is given.
abbrev pub word_token : Out TokenKind → List ℕ → ℕ → Standing
word_token k text at = token k at (length (word_of (drop at text)))

-- ---- a number

module _ (text : List ℕ) (at : ℕ) where
  pub word_least : at ≤ word_end text at
  unfolding word_end
  word_least = omega arith

  pub word_most : at < length text → word_end text at ≤ length text
  unfolding word_end
  word_most h = let w = (word_part (drop at text)).within in omega (arith, length-drop at text)

  module _ (end : ℕ) (e : end ≡ word_end text at) where
    pub word_size : end - at ≡ length (word_of (drop at text))
    unfolding word_end
    word_size = omega arith

    pub word_cut : take (end - at) (drop at text) ≡ word_of (drop at text)
    word_cut = rw word_size (word_part (drop at text)).cut

-- ---- a word

pub word-walked : (t text : List ℕ) (at : ℕ) → at < length text → is_separator (get_or text at 0) ≡ false → (get_or text at 0 ≡ 45 → ⊥) → is_ascii_digit (get_or text at 0) ≡ false
    → word_kind_by t (word_of (drop at text)) ≡ walk_kind t (word_of (drop at text))
unfolding word_kind_by is_digit
word-walked t text at h n m d = rw (word_first text at h n, ne_eqb (get_or text at 0) 45 m, d)

-- ---- the token at a place

pub no_separator : (text : List ℕ) (from at : ℕ) → at ≡ after_spaces text from → at < length text
    → (get_or text at 0 ≡ 40 → ⊥) → (get_or text at 0 ≡ 41 → ⊥) → (get_or text at 0 ≡ 44 → ⊥) → (get_or text at 0 ≡ 58 → ⊥) → is_separator (get_or text at 0) ≡ false
no_separator text from at e h p₁ p₂ p₃ p₄ =
    not_separator (get_or text at 0) p₁ p₂ p₃ p₄
    (subst (λ (p : ℕ). get_or text p 0 ≡ 32 → ⊥) (sym e) ((spaces-end text from).no_space (subst (λ (p : ℕ). p < length text) e h)))

module _ (t text : List ℕ) (from : ℕ) where
  -- where no word begins, the table is not looked at
  no_word : begins_word (drop (after_spaces text from) text) ≡ false → token_by t text from ≡ token_at text from
  unfolding token_by
  no_word b = rw b

  pub by_end : length text ≤ after_spaces text from → token_by t text from ≡ token (refuse 5) (after_spaces text from) 0
  by_end h = no_word (rw (drop_of_length-le text h)) ∙ sym (token_end text from (after_spaces text from) refl h)

  module _ (h : after_spaces text from < length text) where
    pub by-other : begins_word (get_or text (after_spaces text from) 0 ∷ []) ≡ false → token_by t text from ≡ token_at text from
    by-other b = no_word (rw (drop-cons text (after_spaces text from) 0 h) b)

    pub by_mark : T (is_mark (get_or text (after_spaces text from) 0))
        → token_by t text from ≡ token (mark_kind (get_or text (after_spaces text from) 0)) (after_spaces text from) 1
    unfolding is_separator
    by_mark m = by-other (grind (arith, nat_tests)) ∙ mark-token text from h (get_or text (after_spaces text from) 0) m refl

    pub by_double : get_or text (after_spaces text from) 0 ≡ 34
        → token_by t text from ≡ string_token DoubleQuotedString (after_spaces text from) (until_quote 34 false (drop (after_spaces text from + 1) text))
    unfolding is_separator
    by_double e = by-other (rw e) ∙ sym (token-34 text from (after_spaces text from) refl h e)

    pub by_single : get_or text (after_spaces text from) 0 ≡ 39
        → token_by t text from ≡ string_token SingleQuotedString (after_spaces text from) (until_quote 39 false (drop (after_spaces text from + 1) text))
    unfolding is_separator
    by_single e = by-other (rw e) ∙ sym (token-39 text from (after_spaces text from) refl h e)

    pub by_word : begins_word (get_or text (after_spaces text from) 0 ∷ []) ≡ true
        → token_by t text from ≡ word_token (word_kind_by t (word_of (drop (after_spaces text from) text))) text (after_spaces text from)
    unfolding token_by
    by_word b = rw (drop-cons text (after_spaces text from) 0 h, b)

-- ---- the table of the listed words

kind_by : (w : List ℕ) → word_kind_by edges w ≡ word_kind w
unfolding word_kind_by word_kind
kind_by [] = refl
kind_by (c ∷ w) = rw (walk_find (c ∷ w))

-- Over this table it is the token at the place.
module _ (text : List ℕ) (from : ℕ) where
  inside : after_spaces text from < length text → token_by edges text from ≡ token_at text from
  unfolding is_separator
  inside h = go (begins_word (get_or text (after_spaces text from) 0 ∷ [])) refl
    where
      go : (b : Bool) → begins_word (get_or text (after_spaces text from) 0 ∷ []) ≡ b → token_by edges text from ≡ token_at text from
      go false b = by-other edges text from h b
      go true b =
          let m : is_mark (get_or text (after_spaces text from) 0) ≡ false = grind (arith, nat_tests) in
          by_word edges text from h b
          ∙ ap (λ (k : Out TokenKind). word_token k text (after_spaces text from)) (kind_by (word_of (drop (after_spaces text from) text)))
          ∙ sym (token-word text from h m (λ e. grind (arith, nat_tests)) (λ e. grind (arith, nat_tests)))

  pub token-by : token_by edges text from ≡ token_at text from
  token-by =
      elim (dec_lt (after_spaces text from) (length text)) [
        | yes h ↦ inside h
        | no h ↦ let l : length text ≤ after_spaces text from = omega arith in by_end edges text from l ∙ token_end text from (after_spaces text from) refl l
      ]
