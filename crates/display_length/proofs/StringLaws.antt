-- The lengths of double-quoted strings: what the functions of `strings.rt` count.
use Rattle.std.specs.Prelude.{if◌then◌else◌}
use mathlib.Core.Path.{◌≡◌, refl, sym, ◌∙◌}
use mathlib.Core.Bool.{Bool, true, false, not, ◌&&◌, ◌||◌}
use mathlib.Core.List.{List, [], ◌∷◌, ◌++◌}
use Prim.Native.Nat.{ℕ, zero, suc, ◌+◌, ◌*◌, ◌/◌, ◌%◌, ◌≤◌, ◌<◌}
use native.Mathlib.Omega.{arith}
use native.Mathlib.Numerals.{add-one}
use lib.ListN.{length, length-append, get_or, drop, drop_of_length-le}
use lib.Seq.{drop-cons}
use lib.Dec.{T, leb, ltb, eqb}
use Rattle.std.specs.List.{list_any}
use Rattle.std.proofs.lemmas.Bool.Decides.{nat_tests}
use Rattle.tokenizer.specs.Text.{bytes, all, same}
use Rattle.tokenizer.proofs.Basics.{and_l, and_r, is_false, of_true}
use Rattle.display_length.specs.Display.{hex_digit, unicode_text, is_lead, escape, escape_pair, escape_next, escaped_from, escaped, quoted, zone_text, list_name_text}
use Rattle.display_length.specs.Internal.Steps.{is_clean, is_no_mark, no_lead}

-- ---- one byte between the marks

module _ (c : ℕ) where
  escape_clean : T (is_clean c) → T (is_no_mark c) → escape c ≡ c ∷ []
  unfolding escape is_clean is_no_mark
  escape_clean t u = grind (arith, nat_tests)

  clean_leads : T (is_clean c) → is_lead c ≡ false
  unfolding is_clean
  clean_leads t = grind (arith, nat_tests)

  escape_few : length (escape c) ≤ 6
  unfolding escape unicode_text
  escape_few = go (eqb c 34) (eqb c 92) (eqb c 0) (eqb c 9) (eqb c 13) (eqb c 10) (ltb c 32 || eqb c 127) (ltb c 16) (is_lead c)
    where
      go : (q s z t r n u o l : Bool)
          → length (if q then bytes "\\\"" else if s then bytes "\\\\" else if z then bytes "\\0" else if t then bytes "\\t" else if r then bytes "\\r" else if n then bytes "\\n" else if u then (bytes "\\u{" ++ ((if o then hex_digit c ∷ [] else hex_digit (c / 16) ∷ hex_digit (c % 16) ∷ []) ++ bytes "}")) else if l then [] else c ∷ [])
          ≤ 6
      go true s z t r n u o l = omega arith
      go false true z t r n u o l = omega arith
      go false false true t r n u o l = omega arith
      go false false false true r n u o l = omega arith
      go false false false false true n u o l = omega arith
      go false false false false false true u o l = omega arith
      go false false false false false false true true l = omega arith
      go false false false false false false true false l = omega arith
      go false false false false false false false o true = omega arith
      go false false false false false false false o false = omega arith

  pair_few : length (escape_pair c) ≤ 6
  unfolding escape_pair unicode_text
  pair_few = go ((leb 0x80 c && leb c 0xA0) || eqb c 0xAD) (ltb c 16)
    where
      go : (n o : Bool) → length (if n then (bytes "\\u{" ++ ((if o then hex_digit c ∷ [] else hex_digit (c / 16) ∷ hex_digit (c % 16) ∷ []) ++ bytes "}")) else 0xC2 ∷ c ∷ []) ≤ 6
      go true true = omega arith
      go true false = omega arith
      go false o = omega arith

  next_few : (lead : Bool) → length (escape_next lead c) ≤ 6
  unfolding escape_next
  next_few true = pair_few
  next_few false = escape_few

-- ---- a string

from_few : (lead : Bool) (s : List ℕ) → length (escaped_from lead s) ≤ 6 * length s
unfolding escaped_from
from_few lead [] = omega arith
from_few lead (c ∷ s) =
    let a = next_few c lead in
    let b = from_few (is_lead c) s in
    let e = length-append (escape_next lead c) (escaped_from (is_lead c) s) in
    omega arith

pub escaped_few : (s : List ℕ) → length (escaped s) ≤ 6 * length s
unfolding escaped
escaped_few s = from_few false s

-- ---- the bytes that are left, behind C2 or not

module _ (s : List ℕ) (i : ℕ) (lead : Bool) where
  pub left-next : i < length s → length (escaped_from lead (drop i s)) ≡ length (escape_next lead (get_or s i 0)) + length (escaped_from (is_lead (get_or s i 0)) (drop (i + 1) s))
  unfolding escaped_from
  left-next h = rw (drop-cons s i 0 h, add-one i) (length-append (escape_next lead (get_or s i 0)) (escaped_from (is_lead (get_or s i 0)) (drop (suc i) s)))

  pub left-none : length s ≤ i → length (escaped_from lead (drop i s)) ≡ 0
  unfolding escaped_from
  left-none h = rw (drop_of_length-le s h) refl

-- ---- whether a byte is C2, of the bytes that were looked at and of those that are left

module _ (s : List ℕ) (i : ℕ) (found : Bool) (l : not (all no_lead s) ≡ (found || not (all no_lead (drop i s)))) where
  pub lead-next : i < length s → not (all no_lead s) ≡ ((found || is_lead (get_or s i 0)) || not (all no_lead (drop (i + 1) s)))
  lead-next h = l ∙ rw (drop-cons s i 0 h, add-one i) (go found (is_lead (get_or s i 0)) (all no_lead (drop (suc i) s)))
    where
      go : (f b r : Bool) → (f || not (not b && r)) ≡ ((f || b) || not r)
      go true b r = refl
      go false true r = refl
      go false false r = refl

  pub lead-end : length s ≤ i → found ≡ not (all no_lead s)
  lead-end h = sym (l ∙ rw (drop_of_length-le s h) (go found))
    where
      go : (f : Bool) → (f || false) ≡ f
      go true = refl
      go false = refl

no_lead_at : (s : List ℕ) (i : ℕ) → T (all no_lead s) → is_lead (get_or s i 0) ≡ false
no_lead_at [] i t = refl
no_lead_at (c ∷ s) zero t = is_false (is_lead c) (and_l (no_lead c) (all no_lead s) t)
no_lead_at (c ∷ s) (suc i) t = no_lead_at s i (and_r (no_lead c) (all no_lead s) t)

-- where none is, no byte stands behind C2
pub plain-next : (s : List ℕ) (i : ℕ) (p : Bool) → p ≡ not (all no_lead s) → p ≡ false → i < length s
    → length (escaped_from false (drop i s)) ≡ length (escape (get_or s i 0)) + length (escaped_from false (drop (i + 1) s))
unfolding escape_next
plain-next s i p is f h = left-next s i false h ∙ rw (no_lead_at s i (go (all no_lead s) (sym is ∙ f))) refl
  where
    go : (b : Bool) → not b ≡ false → T b
    go true e = tt
    go false e = of_true false (sym e)

-- of a clean string without double quotes every byte is written as it is
escaped_clean : (s : List ℕ) → T (all is_clean s) → T (all is_no_mark s) → length (escaped_from false s) ≡ length s
unfolding escaped_from escape_next
escaped_clean [] t u = refl
escaped_clean (c ∷ s) t u =
    let this = and_l (is_clean c) (all is_clean s) t in
    let more = escaped_clean s (and_r (is_clean c) (all is_clean s) t) (and_r (is_no_mark c) (all is_no_mark s) u) in
    rw (clean_leads c this, escape_clean c this (and_l (is_no_mark c) (all is_no_mark s) u), more) refl

quoted_length_lem : (s : List ℕ) → length (quoted s) ≡ 2 + length (escaped s)
unfolding quoted
quoted_length_lem s = let e = length-append (escaped s) (34 ∷ []) in omega arith

pub left_all : (s : List ℕ) → length (quoted s) ≡ 2 + length (escaped_from false s)
unfolding escaped
left_all s = quoted_length_lem s

pub quoted_few : (s : List ℕ) → length (quoted s) ≤ 2 + 6 * length s
quoted_few s = let e = quoted_length_lem s in let f = escaped_few s in omega arith

-- a search for a double quote
no_mark : (s : List ℕ) → not (list_any (λ c. eqb c 34) s) ≡ all is_no_mark s
unfolding is_no_mark
no_mark [] = refl
no_mark (c ∷ s) = go (eqb c 34) (no_mark s)
  where
    go : (b : Bool) → not (list_any (λ c. eqb c 34) s) ≡ all is_no_mark s → not (b || list_any (λ c. eqb c 34) s) ≡ (not b && all is_no_mark s)
    go true e = refl
    go false e = e

module _ (s : List ℕ) where
  -- double quotes are two bytes more
  pub quoted-counted : 2 + length (escaped s) ≡ length (quoted s)
  quoted-counted = sym (quoted_length_lem s)

  pub quoted-clean : T (all is_clean s) → (p : Bool) → p ≡ list_any (λ c. eqb c 34) s → p ≡ false → 2 + length s ≡ length (quoted s)
  quoted-clean c p is f =
      let n : all is_no_mark s ≡ true = sym (no_mark s) ∙ rw (← is, f) in
      let g = escaped_clean s c (of_true _ n) in
      let h = left_all s in
      omega arith

pub list_name_is : (s : List ℕ) → length (list_name_text s) ≡ (if same s (bytes "item") then 0 else 11 + length s)
unfolding list_name_text
list_name_is s = go (same s (bytes "item"))
  where
    go : (b : Bool) → length (if b then [] else (bytes ", field: '" ++ (s ++ bytes "'"))) ≡ (if b then 0 else 11 + length s)
    go true = refl
    go false = let f = length-append s (bytes "'") in omega arith

pub zone-none : (s : List ℕ) → length s ≡ 0 → 0 ≡ length (zone_text s)
unfolding zone_text
zone-none [] e = refl
zone-none (c ∷ s) e = absurd (omega arith)

pub zone-some : (s : List ℕ) → (length s ≡ 0 → ⊥) → (r : ℕ) → r ≡ length (quoted s) → 2 + r ≡ length (zone_text s)
unfolding zone_text
zone-some [] n r e = absurd (n refl)
zone-some (c ∷ s) n r e = omega arith

pub zone_few : (s : List ℕ) → length (zone_text s) ≤ 4 + 6 * length s
unfolding zone_text
zone_few [] = omega arith
zone_few (c ∷ s) = let e = quoted_few (c ∷ s) in omega arith

pub list_name_few : (s : List ℕ) → length (list_name_text s) ≤ 11 + length s
list_name_few s = rw (list_name_is s) (go (same s (bytes "item")))
  where
    go : (b : Bool) → (if b then 0 else 11 + length s) ≤ 11 + length s
    go true = omega arith
    go false = omega arith
