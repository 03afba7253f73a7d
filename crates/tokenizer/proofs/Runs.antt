-- Spaces, words and quoted strings at a place of a text: what a loop meets there.
use Rattle.std.specs.Prelude.{cond}
use Rattle.std.specs.Option.{unwrap_or}
use Rattle.std.specs.List.{position_or_len}
use Rattle.std.proofs.lemmas.Bool.Decides.{nat_tests}
use Rattle.std.proofs.lemmas.Grind.{common_steps}
use Rattle.std.proofs.lemmas.List.Sums.{prefix_len-le-length}
use mathlib.Core.Path.{◌≡◌, refl, sym, ap, ◌∙◌}
use mathlib.Core.Bool.{Bool, true, false, not}
use mathlib.Core.List.{List, [], ◌∷◌}
use mathlib.Core.Option.{Option, none, some, map}
use Prim.Native.Nat.{ℕ, suc, ◌+◌, ◌-◌, ◌≤◌, ◌<◌, max}
use native.Mathlib.Omega.{arith}
use native.Mathlib.Numerals.{add-one}
use lib.ListN.{length, take, drop, get_or, drop_of_length-le, length-drop}
use lib.Seq.{take_all, drop-cons}
use lib.Dec.{ltb}
use borrow.Author.Tests.{eq-eqb, ne_eqb}
use Rattle.std.specs.declared.option.Option as S
use Rattle.std.specs.declared.option.Option.TheVariants.{Some, None}
use Rattle.tokenizer.specs.Answer.{done, refuse}
use Rattle.tokenizer.specs.Token.{Standing, token, is_separator, word_of, escaped_after, until_quote, string_token}
use Rattle.tokenizer.specs.Places.{spaces_from, after_spaces, word_end}
use Rattle.tokenizer.specs.Internal.Ends.{closes, place_or, quote_end}
use Rattle.tokenizer.specs.declared.TokenKind.{TokenKind}
use Rattle.tokenizer.proofs.Basics.{skip}

-- ---- spaces

module _ (text : List ℕ) (i : ℕ) where
  pub spaces-out : length text ≤ i → after_spaces text i ≡ i
  unfolding after_spaces spaces_from
  spaces-out h = rw (drop_of_length-le text h)

  pub spaces-stop : i < length text → (get_or text i 0 ≡ 32 → ⊥) → after_spaces text i ≡ i
  unfolding after_spaces spaces_from
  spaces-stop h e = rw (drop-cons text i 0 h, ne_eqb (get_or text i 0) 32 e)

  pub spaces-go : i < length text → get_or text i 0 ≡ 32 → after_spaces text i ≡ after_spaces text (i + 1)
  unfolding after_spaces spaces_from
  spaces-go h e = rw (drop-cons text i 0 h, eq-eqb (get_or text i 0) 32 e, add-one i)

-- where the spaces end: at or behind the place, inside the text or at its end, and at no space
pub record Skipped (text : List ℕ) (at p : ℕ) : Type 0 where
  pub behind : at ≤ p
  pub inside : p ≤ max at (length text)
  pub no_space : p < length text → get_or text p 0 ≡ 32 → ⊥

module _ (text : List ℕ) where
  skipped-from : (s : List ℕ) (at : ℕ) → drop at text ≡ s → Skipped text at (spaces_from at s)
  unfolding spaces_from
  skipped-from [] at h = let l = ap length h in search (arith, length-drop)
  skipped-from (c ∷ s) at h =
      let l : at < length text = omega (arith, length-drop at text, ap length h) in
      let d : get_or text at 0 ≡ c = ap (λ (x : List ℕ). get_or x 0 0) (sym (drop-cons text at 0 l) ∙ h) in
      let i = skipped-from s (at + 1) (skip 1 at text (c ∷ s) h) in
      grind (arith, nat_tests)

  pub spaces-end : (at : ℕ) → Skipped text at (after_spaces text at)
  unfolding after_spaces
  spaces-end at = skipped-from (drop at text) at refl

-- ---- words

module _ (text : List ℕ) (i : ℕ) where
  pub word_out : length text ≤ i → word_end text i ≡ i
  unfolding word_end word_of
  word_out h = rw (drop_of_length-le text h) (omega arith)

  pub word-stop : i < length text → is_separator (get_or text i 0) ≡ true → word_end text i ≡ i
  unfolding word_end word_of
  word-stop h e = rw (drop-cons text i 0 h, e) (omega arith)

  pub word-go : i < length text → is_separator (get_or text i 0) ≡ false → word_end text i ≡ word_end text (i + 1)
  unfolding word_end word_of
  word-go h e = rw (drop-cons text i 0 h, e, add-one i) (omega arith)

-- a word ends at the first separator
word_position : (s : List ℕ) → length (word_of s) ≡ position_or_len is_separator s
unfolding word_of
word_position [] = refl
word_position (c ∷ s) = let e = word_position s in grind arith

-- it ends where `position` finds one in the rest of a text, or with the text
pub word_found : (text : List ℕ) (from : ℕ) (rest : List ℕ) (place : S.Option ℕ) → from ≤ length text → rest ≡ take (length text - from) (drop from text)
    → place ≡ cond (ltb (position_or_len is_separator rest) (length rest)) (Some (position_or_len is_separator rest)) None
    → from + unwrap_or place (length rest) ≡ word_end text from
unfolding word_end
word_found text from rest place h e p =
    let all : rest ≡ drop from text = e ∙ take_all (length text - from) (drop from text) (omega (arith, length-drop from text)) in
    let l = prefix_len-le-length (λ c. not (is_separator c)) rest in
    let w = word_position rest in
    grind (arith, common_steps)

-- the word that a list begins with is a part of it
pub record Part (w s : List ℕ) : Type 0 where
  pub cut : take (length w) s ≡ w
  pub within : length w ≤ length s

pub word_part : (s : List ℕ) → Part (word_of s) s
unfolding word_of
word_part [] = record { cut = refl; within = omega arith }
word_part (c ∷ s) = let p = word_part s in grind arith

-- ---- quoted strings

shift : (end i : ℕ) (o : Option ℕ) → place_or end i (map suc o) ≡ place_or end (suc i) o
shift end i o = grind arith

module _ (text : List ℕ) (quote : ℕ) (escaped : Bool) (i : ℕ) where
  pub quote-out : length text ≤ i → quote_end text quote escaped i ≡ length text
  unfolding quote_end until_quote
  quote-out h = rw (drop_of_length-le text h)

  pub quote-stop : i < length text → closes quote escaped (get_or text i 0) ≡ true → quote_end text quote escaped i ≡ i
  unfolding quote_end until_quote
  quote-stop h e = rw (drop-cons text i 0 h, e) (omega arith)

  pub quote-go : i < length text → closes quote escaped (get_or text i 0) ≡ false
      → quote_end text quote escaped i ≡ quote_end text quote (escaped_after quote escaped (get_or text i 0)) (i + 1)
  unfolding quote_end until_quote
  quote-go h e =
      rw (drop-cons text i 0 h, e, add-one i)
      (shift (length text) i (until_quote quote (escaped_after quote escaped (get_or text i 0)) (drop (suc i) text)))

module _ (text : List ℕ) (quote i : ℕ) (h : i < length text) where
  -- a byte that is no mark and no backslash changes nothing
  pub ordinary-go : (get_or text i 0 ≡ quote → ⊥) → (get_or text i 0 ≡ 92 → ⊥) → quote_end text quote false i ≡ quote_end text quote false (i + 1)
  ordinary-go p q =
      let b = get_or text i 0 in
      quote-go text quote false i h (rw (ne_eqb b quote p)) ∙ ap (λ (e : Bool). quote_end text quote e (i + 1)) (rw (ne_eqb b 92 q, ne_eqb b quote p))

-- a number of bytes, if there is one, is below a length
unfoldable pub Within : ℕ → Option ℕ → Type 0
Within l none = Unit
Within l (some n) = n < l

pub until_within : (quote : ℕ) (escaped : Bool) (s : List ℕ) → Within (length s) (until_quote quote escaped s)
unfolding Within until_quote
until_within quote escaped [] = tt
until_within quote escaped (c ∷ s) = let w = until_within quote (escaped_after quote escaped c) s in grind arith

-- the string by the place of the mark that ends it, its bytes starting at a place of a text
module _ (k : TokenKind) (text : List ℕ) (quote at end : ℕ) (h : at < length text) (e : end ≡ quote_end text quote false (at + 1)) where
  pub string-open : length text ≤ end → token (refuse 6) at 0 ≡ string_token k at (until_quote quote false (drop (at + 1) text))
  unfolding quote_end Within
  string-open m =
      let w = until_within quote false (drop (at + 1) text) in
      grind (arith, length-drop)

  pub string-empty : end < length text → end ≤ at + 1 → token (refuse 7) at 0 ≡ string_token k at (until_quote quote false (drop (at + 1) text))
  unfolding quote_end
  string-empty m i = grind arith

  pub string-whole : end < length text → at + 1 < end
      → ◌≡◌ {A = Standing} (record { kind = done k; start = at + 1; size = end - (at + 1); next = end + 1 }) (string_token k at (until_quote quote false (drop (at + 1) text)))
  unfolding quote_end
  string-whole m i = grind arith
