-- Names and zones by their characters. The definitions go by bytes; of a text that is the UTF-8 of some characters, laws
-- (proofs/CharacterLaws.antt) say what that comes to:
--   latin_characters     bytes up to C5 are characters up to U+017F
--   escaped_characters   between the marks each character is written as `escape_character` says
use Rattle.std.specs.Prelude.{◌||◌, List, [], ◌∷◌, ◌++◌, ℕ, nat_le, nat_lt, nat_eq, if◌then◌else◌}
use Rattle.tokenizer.specs.Text.{utf8}
use Rattle.display_length.specs.Display.{unicode_text, escape}

-- Characters one after the other, each as a function says.
abbrev pub spelled_by : (ℕ → List ℕ) → List ℕ → List ℕ
spelled_by spell [] = []
spelled_by spell (c ∷ cs) = spell c ++ spelled_by spell cs

abbrev pub utf8_text : List ℕ → List ℕ
utf8_text cs = spelled_by utf8 cs

-- A character as Rust's {:?} writes it, up to U+017F.
unfoldable pub escape_character : ℕ → List ℕ
escape_character c =
    if nat_lt c 0x80 then escape c
    else if nat_le c 0xA0 || nat_eq c 0xAD then unicode_text c
    else utf8 c
