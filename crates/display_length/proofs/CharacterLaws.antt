-- Names and zones by their characters: what the definitions, which go by bytes, say of a text that is the UTF-8 of some
-- characters.
use mathlib.Core.Path.{◌≡◌, refl, ap, sym, ◌∙◌}
use mathlib.Core.Bool.{Bool, ◌&&◌, and_assoc}
use mathlib.Core.List.{List, [], ◌∷◌, ◌++◌}
use Prim.Native.Nat.{ℕ, ◌+◌, ◌/◌, ◌%◌, ◌≤◌, ◌<◌}
use native.Mathlib.Decide.{dec_lt}
use native.Mathlib.Omega.{arith}
use lib.Dec.{leb}
use borrow.Author.Tests.{lt-ltb, le-ltb, le-leb, lt-leb, ne_eqb}
use Rattle.tokenizer.specs.Text.{utf8, all}
use Rattle.display_length.specs.Display.{escape, escape_pair, escape_next, escaped_from, escaped}
use Rattle.display_length.specs.PrintedLength.{is_latin}
use Rattle.display_length.specs.Characters.{spelled_by, utf8_text, escape_character}

-- ---- the bytes of a character, by its size

module _ (c : ℕ) where
  pub utf8-one : c < 0x80 → utf8 c ≡ c ∷ []
  utf8-one h = rw (lt-ltb c 128 h)

  pub utf8-two : 0x80 ≤ c → c < 0x800 → utf8 c ≡ (192 + c / 64) ∷ (128 + c % 64) ∷ []
  utf8-two l h = rw (le-ltb c 128 l, lt-ltb c 2048 h)

  pub utf8-three : 0x800 ≤ c → c < 0x10000 → utf8 c ≡ (224 + c / 4096) ∷ (128 + c / 64 % 64) ∷ (128 + c % 64) ∷ []
  utf8-three l h = rw (le-ltb c 128 (omega arith), le-ltb c 2048 l, lt-ltb c 65536 h)

  pub utf8-four : 0x10000 ≤ c → utf8 c ≡ (240 + c / 262144) ∷ (128 + c / 4096 % 64) ∷ (128 + c / 64 % 64) ∷ (128 + c % 64) ∷ []
  utf8-four l = rw (le-ltb c 128 (omega arith), le-ltb c 2048 (omega arith), le-ltb c 65536 l)

-- ---- characters up to U+017F

pub all_append : (test : ℕ → Bool) (a b : List ℕ) → all test (a ++ b) ≡ (all test a && all test b)
all_append test [] b = refl
all_append test (c ∷ a) b = ap (λ (t : Bool). test c && t) (all_append test a b) ∙ sym (and_assoc (test c) (all test a) (all test b))

latin_character : (c : ℕ) → is_latin (utf8 c) ≡ leb c 0x17F
latin_character c =
    elim (dec_lt c 0x80) [
      | yes h ↦ ap is_latin (utf8-one c h) ∙ rw (le-leb c 0xC5 (omega arith), le-leb c 0x17F (omega arith))
      | no h ↦
          elim (dec_lt c 0x180) [
            | yes k ↦ ap is_latin (utf8-two c (omega arith) (omega arith)) ∙ rw (le-leb (192 + c / 64) 0xC5 (omega arith), le-leb (128 + c % 64) 0xC5 (omega arith), le-leb c 0x17F (omega arith))
            | no k ↦
                elim (dec_lt c 0x800) [
                  | yes l ↦ ap is_latin (utf8-two c (omega arith) l) ∙ rw (lt-leb (192 + c / 64) 0xC5 (omega arith), lt-leb c 0x17F (omega arith))
                  | no l ↦
                      elim (dec_lt c 0x10000) [
                        | yes m ↦ ap is_latin (utf8-three c (omega arith) m) ∙ rw (lt-leb (224 + c / 4096) 0xC5 (omega arith), lt-leb c 0x17F (omega arith))
                        | no m ↦ ap is_latin (utf8-four c (omega arith)) ∙ rw (lt-leb (240 + c / 262144) 0xC5 (omega arith), lt-leb c 0x17F (omega arith))
                      ]
                ]
          ]
    ]

pub latin_characters : (cs : List ℕ) → is_latin (utf8_text cs) ≡ all (λ c. leb c 0x17F) cs
latin_characters [] = refl
latin_characters (c ∷ cs) = all_append (λ b. leb b 0xC5) (utf8 c) (utf8_text cs) ∙ rw (latin_character c, latin_characters cs)

-- ---- between the marks

-- a byte that is no C2
escaped_byte : (b : ℕ) (s : List ℕ) → (b ≡ 0xC2 → ⊥) → escaped (b ∷ s) ≡ escape b ++ escaped s
unfolding escaped escaped_from escape_next
escaped_byte b s n = rw (ne_eqb b 0xC2 n) refl

-- and is above 127
escaped_high : (b : ℕ) (s : List ℕ) → 0x80 ≤ b → (b ≡ 0xC2 → ⊥) → escaped (b ∷ s) ≡ b ∷ escaped s
unfolding escape
escaped_high b s h n =
    escaped_byte b s n
    ∙ rw (ne_eqb b 34 (λ e. omega arith), ne_eqb b 92 (λ e. omega arith), ne_eqb b 0 (λ e. omega arith), ne_eqb b 9 (λ e. omega arith), ne_eqb b 13 (λ e. omega arith), ne_eqb b 10 (λ e. omega arith), le-ltb b 32 (omega arith), ne_eqb b 127 (λ e. omega arith), ne_eqb b 0xC2 n)

-- C2 and the byte behind it
escaped_pair : (c : ℕ) (s : List ℕ) → (c ≡ 0xC2 → ⊥) → escaped (0xC2 ∷ c ∷ s) ≡ escape_pair c ++ escaped s
unfolding escaped escaped_from escape_next escape
escaped_pair c s n = rw (ne_eqb c 0xC2 n) refl

module _ (c : ℕ) (s : List ℕ) where
  written_one : c < 0x80 → escaped (utf8 c ++ s) ≡ escape_character c ++ escaped s
  unfolding escape_character
  written_one h = ap (λ (l : List ℕ). escaped (l ++ s)) (utf8-one c h) ∙ escaped_byte c s (λ e. omega arith) ∙ rw (lt-ltb c 0x80 h)

  -- U+0080 to U+00BF
  module _ (l : 0x80 ≤ c) (h : c < 0xC0) where
    first : 192 + c / 64 ≡ 0xC2
    first = omega arith

    second : 128 + c % 64 ≡ c
    second = omega arith

    pair : escape_pair c ≡ escape_character c
    unfolding escape_character escape_pair
    pair = rw (le-leb 0x80 c l, le-ltb c 0x80 l, lt-ltb c 0x800 (omega arith), first, second)

    bytes-two : utf8 c ≡ 0xC2 ∷ c ∷ []
    bytes-two = utf8-two c l (omega arith) ∙ rw (first, second)

    written_c2 : escaped (utf8 c ++ s) ≡ escape_character c ++ escaped s
    written_c2 = ap (λ (t : List ℕ). escaped (t ++ s)) bytes-two ∙ escaped_pair c s (λ e. omega arith) ∙ ap (λ (t : List ℕ). t ++ escaped s) pair

  -- the others are written as they are
  module _ (h : 0xC0 ≤ c) where
    itself : escape_character c ≡ utf8 c
    unfolding escape_character
    itself = rw (le-ltb c 0x80 (omega arith), lt-leb c 0xA0 (omega arith), ne_eqb c 0xAD (λ e. omega arith))

    written-two : c < 0x800 → escaped (utf8 c ++ s) ≡ escape_character c ++ escaped s
    written-two k =
        rw (itself, utf8-two c (omega arith) k)
        (escaped_high (192 + c / 64) ((128 + c % 64) ∷ s) (omega arith) (λ e. omega arith)
        ∙ ap (λ (l : List ℕ). (192 + c / 64) ∷ l) (escaped_high (128 + c % 64) s (omega arith) (λ e. omega arith)))

    written-three : 0x800 ≤ c → c < 0x10000 → escaped (utf8 c ++ s) ≡ escape_character c ++ escaped s
    written-three l k =
        rw (itself, utf8-three c l k)
        (escaped_high (224 + c / 4096) ((128 + c / 64 % 64) ∷ (128 + c % 64) ∷ s) (omega arith) (λ e. omega arith)
        ∙ ap (λ (t : List ℕ). (224 + c / 4096) ∷ t)
        (escaped_high (128 + c / 64 % 64) ((128 + c % 64) ∷ s) (omega arith) (λ e. omega arith)
        ∙ ap (λ (t : List ℕ). (128 + c / 64 % 64) ∷ t) (escaped_high (128 + c % 64) s (omega arith) (λ e. omega arith))))

    written-four : 0x10000 ≤ c → escaped (utf8 c ++ s) ≡ escape_character c ++ escaped s
    written-four l =
        rw (itself, utf8-four c l)
        (escaped_high (240 + c / 262144) ((128 + c / 4096 % 64) ∷ (128 + c / 64 % 64) ∷ (128 + c % 64) ∷ s) (omega arith) (λ e. omega arith)
        ∙ ap (λ (t : List ℕ). (240 + c / 262144) ∷ t)
        (escaped_high (128 + c / 4096 % 64) ((128 + c / 64 % 64) ∷ (128 + c % 64) ∷ s) (omega arith) (λ e. omega arith)
        ∙ ap (λ (t : List ℕ). (128 + c / 4096 % 64) ∷ t)
        (escaped_high (128 + c / 64 % 64) ((128 + c % 64) ∷ s) (omega arith) (λ e. omega arith)
        ∙ ap (λ (t : List ℕ). (128 + c / 64 % 64) ∷ t) (escaped_high (128 + c % 64) s (omega arith) (λ e. omega arith)))))

  pub escaped-character : escaped (utf8 c ++ s) ≡ escape_character c ++ escaped s
  escaped-character =
      elim (dec_lt c 0x80) [
        | yes h ↦ written_one h
        | no h ↦
            elim (dec_lt c 0xC0) [
              | yes k ↦ written_c2 (omega arith) k
              | no k ↦
                  elim (dec_lt c 0x800) [
                    | yes l ↦ written-two (omega arith) l
                    | no l ↦ elim (dec_lt c 0x10000) [ yes m ↦ written-three (omega arith) (omega arith) m | no m ↦ written-four (omega arith) (omega arith) ]
                  ]
            ]
      ]

pub escaped_characters : (cs : List ℕ) → escaped (utf8_text cs) ≡ spelled_by escape_character cs
escaped_characters [] = unfold escaped escaped_from in refl
escaped_characters (c ∷ cs) = escaped-character c (utf8_text cs) ∙ ap (λ (l : List ℕ). escape_character c ++ l) (escaped_characters cs)
