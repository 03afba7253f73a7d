-- The conditions of demand 3 (document 01, 'Printing'): the tree is sound, all its names and zones are printable ASCII
-- and characters above 127 that print as themselves, without quote marks or backslashes, and its printed text has at most
-- 16,384 bytes.
use Rattle.std.specs.Prelude.{Bool, true, not, ◌&&◌, ◌||◌, List, ℕ, length, nat_le, nat_eq}
use Rattle.tokenizer.specs.Text.{all, same, is_printable}
use Rattle.datatype.specs.Limits.{max_text}
use Rattle.datatype.specs.Tree.{Forest, ∅, node, Label}
use Rattle.datatype.specs.Table.{tree_of}
use Rattle.row_table.specs.Sound.{is_sound}
use Rattle.display_length.specs.declared.words.Spelling.{Spelling}
use Rattle.display_length.specs.Display.{escaped, display}

-- Printable ASCII without quote marks, 34 and 39, or the backslash, 92.
abbrev pub is_plain_ascii : ℕ → Bool
is_plain_ascii c = is_printable c && not (nat_eq c 34) && not (nat_eq c 39) && not (nat_eq c 92)

-- A plain character: of ASCII, or U+00A1 to U+017F but for U+00AD.
unfoldable pub is_plain : ℕ → Bool
is_plain c = is_plain_ascii c || (nat_le 0xA1 c && nat_le c 0x17F && not (nat_eq c 0xAD))

-- A plain name or zone, by its bytes: of ASCII or of characters up to U+017F, and between the marks as it is. The UTF-8 of
-- some characters is plain exactly if each of them is (`PlainCharacters.plain_characters`).
unfoldable pub is_plain_byte : ℕ → Bool
is_plain_byte c = is_plain_ascii c || (nat_le 0x80 c && nat_le c 0xC5)

unfoldable pub is_plain_text : List ℕ → Bool
is_plain_text s = all is_plain_byte s && same (escaped s) s

unfoldable pub all_plain : Forest Label → Bool
all_plain ∅ = true
all_plain (node l kids next) = is_plain_text l.name && is_plain_text l.zone && all_plain kids && all_plain next

unfoldable pub is_plain_tree : List ℕ → List ℕ → List ℕ → Bool
is_plain_tree text names table = all_plain (tree_of text names table)

-- A tree's printed text is what the spelling gives.
abbrev pub printed : Spelling → List ℕ → List ℕ → List ℕ → List ℕ
printed spelling text names table = display spelling (tree_of text names table)

-- Whether text, name list and row words are a tree that demand 3 speaks of, where it is printed in a spelling.
unfoldable pub in_demand3 : Spelling → List ℕ → List ℕ → List ℕ → Bool
in_demand3 spelling text names table = is_sound text names table && is_plain_tree text names table && nat_le (length (printed spelling text names table)) max_text
