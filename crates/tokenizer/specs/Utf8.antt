-- UTF-8 as a Rust `&str` has it: no surrogates, no overlong forms, nothing above U+10FFFF.
-- An automaton over the bytes, so that what is UTF-8 in two parts is UTF-8 when they are joined.
use Rattle.std.specs.Prelude.{Bool, ◌&&◌, List, [], ◌∷◌, ℕ, nat_le, nat_lt, nat_eq, if◌then◌else◌}

-- The states: between characters; one, two or three more bytes of any value; the byte behind E0, ED, F0 or F4, whose
-- range is narrower; and no UTF-8 any more.
abbrev pub between : ℕ
between = 0

abbrev pub one_more : ℕ
one_more = 1

abbrev pub two_more : ℕ
two_more = 2

abbrev pub three_more : ℕ
three_more = 3

abbrev pub after_e0 : ℕ
after_e0 = 4

abbrev pub after_eD : ℕ
after_eD = 5

abbrev pub after_f0 : ℕ
after_f0 = 6

abbrev pub after_f4 : ℕ
after_f4 = 7

abbrev pub broken : ℕ
broken = 8

-- The state behind a character's first byte.
abbrev pub first_byte : ℕ → ℕ
first_byte b =
    if nat_lt b 0x80 then between
    else if nat_lt b 0xC2 then broken
    else if nat_lt b 0xE0 then one_more
    else if nat_eq b 0xE0 then after_e0
    else if nat_eq b 0xED then after_eD
    else if nat_lt b 0xF0 then two_more
    else if nat_eq b 0xF0 then after_f0
    else if nat_lt b 0xF4 then three_more
    else if nat_eq b 0xF4 then after_f4
    else broken

-- A further byte from lo to hi leads to the state q.
abbrev pub further : ℕ → ℕ → ℕ → ℕ → ℕ
further lo hi b q = if nat_le lo b && nat_le b hi then q else broken

-- The state behind one byte.
unfoldable pub utf8_step : ℕ → ℕ → ℕ
utf8_step q b =
    if nat_eq q between then first_byte b
    else if nat_eq q one_more then further 0x80 0xBF b between
    else if nat_eq q two_more then further 0x80 0xBF b one_more
    else if nat_eq q three_more then further 0x80 0xBF b two_more
    else if nat_eq q after_e0 then further 0xA0 0xBF b one_more
    else if nat_eq q after_eD then further 0x80 0x9F b one_more
    else if nat_eq q after_f0 then further 0x90 0xBF b two_more
    else if nat_eq q after_f4 then further 0x80 0x8F b two_more
    else broken

-- The state behind a list of bytes.
unfoldable pub utf8_state : ℕ → List ℕ → ℕ
utf8_state q [] = q
utf8_state q (b ∷ s) = utf8_state (utf8_step q b) s

-- A list of bytes is UTF-8.
unfoldable pub is_utf8 : List ℕ → Bool
is_utf8 s = nat_eq (utf8_state between s) between
