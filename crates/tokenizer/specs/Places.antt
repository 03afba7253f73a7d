-- Places of a text: where the spaces end, behind a byte, and where a word ends.
use Rattle.std.specs.Prelude.{Option, Some, None, ◌&&◌, List, [], ◌∷◌, ℕ, ◌+◌, length, drop, get_or, nat_lt, nat_eq, if◌then◌else◌}
use Rattle.tokenizer.specs.Token.{word_of}

-- The first place that holds no space, in a text whose part from the place `at` on is the list.
unfoldable pub spaces_from : ℕ → List ℕ → ℕ
spaces_from at [] = at
spaces_from at (c ∷ s) = let more = spaces_from (at + 1) s in if nat_eq c 32 then more else at

-- The first place at or behind a place that holds no space.
unfoldable pub after_spaces : List ℕ → ℕ → ℕ
after_spaces text at = spaces_from at (drop at text)

-- The place behind a byte, where it is the first at or behind a place that is no space.
unfoldable pub next_byte : List ℕ → ℕ → ℕ → Option ℕ
next_byte text at c = let p = after_spaces text at in if nat_lt p (length text) && nat_eq (get_or text p 0) c then Some (p + 1) else None

-- The place behind the word that starts at a place.
unfoldable pub word_end : List ℕ → ℕ → ℕ
word_end text at = at + length (word_of (drop at text))
