-- Plain names and zones by their characters.
--   plain-characters   a text that is the UTF-8 of some characters is plain by its bytes exactly if each of them is plain
use mathlib.Core.Path.{◌≡◌, refl, ap, sym, ◌∙◌}
use mathlib.Core.Bool.{Bool, true, false, not, ◌&&◌, ◌||◌, and_assoc, and-false}
use mathlib.Core.List.{List, [], ◌∷◌, ◌++◌}
use Prim.Native.Nat.{ℕ, ◌+◌, ◌/◌, ◌%◌, ◌≤◌, ◌<◌}
use native.Mathlib.Decide.{dec_lt, ℕ_discrete}
use native.Mathlib.Omega.{arith}
use lib.Dec.{T, leb, eqb, eqb_refl}
use borrow.Author.Tests.{lt-ltb, le-ltb, le-leb, lt-leb, ne_eqb, leb-true}
use Rattle.tokenizer.specs.Text.{utf8, all, same}
use Rattle.tokenizer.proofs.Basics.{is_true, is_false, of_true}
use Rattle.display_length.specs.Display.{unicode_text, escape, escaped_from, escaped}
use Rattle.display_length.specs.Characters.{utf8_text, escape_character}
use Rattle.display_length.proofs.CharacterLaws.{all_append, utf8-one, utf8-two, utf8-three, utf8-four, escaped-character}
use Rattle.round_trip.specs.Plain.{is_plain_ascii, is_plain, is_plain_byte, is_plain_text}
use Rattle.std.proofs.lemmas.Bool.Decides.{nat_tests}

same_front : (u x y : List ℕ) → same (u ++ x) (u ++ y) ≡ same x y
same_front [] x y = refl
same_front (c ∷ u) x y = rw (is_true (eqb c c) (eqb_refl c)) (same_front u x y)

-- ---- one character

module _ (c : ℕ) where
  -- ASCII
  byte_one : c < 0x80 → all is_plain_byte (utf8 c) ≡ is_plain_ascii c
  unfolding is_plain_byte
  byte_one h = ap (all is_plain_byte) (utf8-one c h) ∙ go (is_plain_ascii c) (leb 0x80 c && leb c 0xC5) (rw (lt-leb 0x80 c h))
    where
      go : (a b : Bool) → b ≡ false → ((a || b) && true) ≡ a
      go true b e = refl
      go false b e = rw e

  plain-one : c < 0x80 → is_plain c ≡ is_plain_ascii c
  unfolding is_plain
  plain-one h = go (is_plain_ascii c) (leb 0xA1 c && leb c 0x17F && not (eqb c 0xAD)) (rw (lt-leb 0xA1 c (omega arith)))
    where
      go : (a b : Bool) → b ≡ false → (a || b) ≡ a
      go true b e = refl
      go false b e = e

  itself-one : c < 0x80 → is_plain_ascii c ≡ true → escape_character c ≡ utf8 c
  unfolding escape_character escape
  itself-one h p =
      let t : T (is_plain_ascii c) = of_true (is_plain_ascii c) p in
      let low : 32 ≤ c = leb-true 32 c (is_true (leb 32 c) (grind (arith, nat_tests))) in
      let high : c ≤ 126 = leb-true c 126 (is_true (leb c 126) (grind (arith, nat_tests))) in
      rw (
        lt-ltb c 0x80 h,
        is_false (eqb c 34) (grind (arith, nat_tests)),
        is_false (eqb c 92) (grind (arith, nat_tests)),
        ne_eqb c 0 (λ e. omega arith),
        ne_eqb c 9 (λ e. omega arith),
        ne_eqb c 13 (λ e. omega arith),
        ne_eqb c 10 (λ e. omega arith),
        le-ltb c 32 low,
        ne_eqb c 127 (λ e. omega arith),
        ne_eqb c 0xC2 (λ e. omega arith),
      )

  -- what is above 127 is plain where it is in the range
  no-ascii : 0x80 ≤ c → is_plain_ascii c ≡ false
  no-ascii h = rw (lt-leb c 126 (omega arith), and-false (leb 32 c))

  plain_in : 0xA1 ≤ c → c ≤ 0x17F → (c ≡ 0xAD → ⊥) → is_plain c ≡ true
  unfolding is_plain
  plain_in l h n = rw (no-ascii (omega arith), le-leb 0xA1 c l, le-leb c 0x17F h, ne_eqb c 0xAD n)

  plain-low : 0x80 ≤ c → c < 0xA1 → is_plain c ≡ false
  unfolding is_plain
  plain-low l h = rw (no-ascii l, lt-leb 0xA1 c h)

  plain-soft : c ≡ 0xAD → is_plain c ≡ false
  unfolding is_plain
  plain-soft e = rw e

  pub plain-above : 0x180 ≤ c → is_plain c ≡ false
  unfolding is_plain
  plain-above h = rw (no-ascii (omega arith), lt-leb c 0x17F (omega arith), and-false (leb 0xA1 c))

  itself : 0xA1 ≤ c → (c ≡ 0xAD → ⊥) → escape_character c ≡ utf8 c
  unfolding escape_character
  itself h n = rw (le-ltb c 0x80 (omega arith), lt-leb c 0xA0 (omega arith), ne_eqb c 0xAD n)

-- a byte of a character above 127
byte_high : (b : ℕ) → 0x80 ≤ b → b ≤ 0xC5 → is_plain_byte b ≡ true
unfolding is_plain_byte
byte_high b l h = rw (no-ascii b l, le-leb 0x80 b l, le-leb b 0xC5 h)

byte_above : (b : ℕ) → 0xC5 < b → is_plain_byte b ≡ false
unfolding is_plain_byte
byte_above b h = rw (no-ascii b (omega arith), lt-leb b 0xC5 h, and-false (leb 0x80 b))

module _ (c : ℕ) where
  bytes-in : 0x80 ≤ c → c < 0x180 → all is_plain_byte (utf8 c) ≡ true
  bytes-in l h = ap (all is_plain_byte) (utf8-two c l (omega arith)) ∙ rw (byte_high (192 + c / 64) (omega arith) (omega arith), byte_high (128 + c % 64) (omega arith) (omega arith))

  bytes-above : 0x180 ≤ c → all is_plain_byte (utf8 c) ≡ false
  bytes-above h =
      elim (dec_lt c 0x800) [
        | yes k ↦ ap (all is_plain_byte) (utf8-two c (omega arith) k) ∙ rw (byte_above (192 + c / 64) (omega arith))
        | no k ↦
            elim (dec_lt c 0x10000) [
              | yes m ↦ ap (all is_plain_byte) (utf8-three c (omega arith) m) ∙ rw (byte_above (224 + c / 4096) (omega arith))
              | no m ↦ ap (all is_plain_byte) (utf8-four c (omega arith)) ∙ rw (byte_above (240 + c / 262144) (omega arith))
            ]
      ]

-- ---- a character and what follows

module _ (c : ℕ) (s : List ℕ) where
  parts : is_plain_text (utf8 c ++ s) ≡ ((all is_plain_byte (utf8 c) && all is_plain_byte s) && same (escape_character c ++ escaped s) (utf8 c ++ s))
  unfolding is_plain_text
  parts =
      ap (λ (t : Bool). t && same (escaped (utf8 c ++ s)) (utf8 c ++ s)) (all_append is_plain_byte (utf8 c) s)
      ∙ ap (λ (t : List ℕ). (all is_plain_byte (utf8 c) && all is_plain_byte s) && same t (utf8 c ++ s)) (escaped-character c s)

  written-itself : escape_character c ≡ utf8 c → all is_plain_byte (utf8 c) ≡ is_plain c → is_plain_text (utf8 c ++ s) ≡ (is_plain c && is_plain_text s)
  unfolding is_plain_text
  written-itself e f =
      parts
      ∙ ap (λ (t : List ℕ). (all is_plain_byte (utf8 c) && all is_plain_byte s) && same (t ++ escaped s) (utf8 c ++ s)) e
      ∙ ap (λ (b : Bool). (all is_plain_byte (utf8 c) && all is_plain_byte s) && b) (same_front (utf8 c) (escaped s) s)
      ∙ and_assoc (all is_plain_byte (utf8 c)) (all is_plain_byte s) (same (escaped s) s)
      ∙ ap (λ (b : Bool). b && (all is_plain_byte s && same (escaped s) s)) f

  module _ (f : is_plain c ≡ false) where
    not_plain : is_plain_text (utf8 c ++ s) ≡ false → is_plain_text (utf8 c ++ s) ≡ (is_plain c && is_plain_text s)
    not_plain e = e ∙ sym (ap (λ (b : Bool). b && is_plain_text s) f)

    other-bytes : all is_plain_byte (utf8 c) ≡ false → is_plain_text (utf8 c ++ s) ≡ (is_plain c && is_plain_text s)
    other-bytes e = not_plain (parts ∙ ap (λ (b : Bool). (b && all is_plain_byte s) && same (escape_character c ++ escaped s) (utf8 c ++ s)) e)

    -- a backslash is written, and no backslash stands there
    by_number_lem : 0x80 ≤ c → c < 0x800 → escape_character c ≡ unicode_text c → is_plain_text (utf8 c ++ s) ≡ (is_plain c && is_plain_text s)
    by_number_lem l h e =
        not_plain
        (parts
        ∙ ap (λ (t : List ℕ). (all is_plain_byte (utf8 c) && all is_plain_byte s) && same (t ++ escaped s) (utf8 c ++ s)) e
        ∙ ap (λ (t : List ℕ). (all is_plain_byte (utf8 c) && all is_plain_byte s) && same (unicode_text c ++ escaped s) (t ++ s)) (utf8-two c l h)
        ∙ ap (λ (b : Bool). (all is_plain_byte (utf8 c) && all is_plain_byte s) && b) unlike
        ∙ and-false (all is_plain_byte (utf8 c) && all is_plain_byte s))
      where
        unlike : same (unicode_text c ++ escaped s) (((192 + c / 64) ∷ (128 + c % 64) ∷ []) ++ s) ≡ false
        unlike = unfold unicode_text in rw (ne_eqb 92 (192 + c / 64) (λ z. omega arith))

  ascii-character : c < 0x80 → is_plain_text (utf8 c ++ s) ≡ (is_plain c && is_plain_text s)
  ascii-character h = go (is_plain_ascii c) refl
    where
      go : (b : Bool) → is_plain_ascii c ≡ b → is_plain_text (utf8 c ++ s) ≡ (is_plain c && is_plain_text s)
      go true e = written-itself (itself-one c h e) (byte_one c h ∙ sym (plain-one c h))
      go false e = other-bytes (plain-one c h ∙ e) (byte_one c h ∙ e)

  plain-character : is_plain_text (utf8 c ++ s) ≡ (is_plain c && is_plain_text s)
  plain-character =
      elim (dec_lt c 0x80) [
        | yes h ↦ ascii-character h
        | no h ↦
            elim (dec_lt c 0xA1) [
              | yes k ↦ by_number_lem (plain-low c (omega arith) k) (omega arith) (omega arith) (unfold escape_character in rw (le-ltb c 0x80 (omega arith), le-leb c 0xA0 (omega arith)))
              | no k ↦
                  elim (ℕ_discrete c 0xAD) [
                    | yes e ↦ by_number_lem (plain-soft c e) (omega arith) (omega arith) (unfold escape_character in rw e)
                    | no n ↦
                        elim (dec_lt c 0x180) [
                          | yes m ↦ written-itself (itself c (omega arith) n) (bytes-in c (omega arith) m ∙ sym (plain_in c (omega arith) (omega arith) n))
                          | no m ↦ other-bytes (plain-above c (omega arith)) (bytes-above c (omega arith))
                        ]
                  ]
            ]
      ]

pub plain_characters : (cs : List ℕ) → is_plain_text (utf8_text cs) ≡ all is_plain cs
plain_characters [] = unfold is_plain_text escaped escaped_from in refl
plain_characters (c ∷ cs) = plain-character c (utf8_text cs) ∙ ap (λ (b : Bool). is_plain c && b) (plain_characters cs)
