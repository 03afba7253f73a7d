-- Texts as lists of bytes, and tests on them.
use Rattle.std.specs.Prelude.{if◌then◌else◌, Bool, true, false, ◌&&◌, List, [], ◌∷◌, ◌++◌, ℕ, ◌+◌, ◌/◌, ◌%◌, nat_le, nat_lt, nat_eq}
use Prim.Native.Char.{code}
use Prim.Native.String.{String}
use Prim.Native.String as S

-- The UTF-8 bytes of a scalar value.
abbrev pub utf8 : ℕ → List ℕ
utf8 c =
    if nat_lt c 128 then c ∷ []
    else if nat_lt c 2048 then (192 + c / 64) ∷ (128 + c % 64) ∷ []
    else if nat_lt c 65536 then (224 + c / 4096) ∷ (128 + c / 64 % 64) ∷ (128 + c % 64) ∷ []
    else (240 + c / 262144) ∷ (128 + c / 4096 % 64) ∷ (128 + c / 64 % 64) ∷ (128 + c % 64) ∷ []

-- The bytes of a text that is written out here.
abbrev pub bytes : String → List ℕ
bytes S.[] = []
bytes (S.◌∷◌ c s) = utf8 (code c) ++ bytes s

-- Two lists of numbers are the same.
abbrev pub same : List ℕ → List ℕ → Bool
same [] [] = true
same [] (y ∷ ys) = false
same (x ∷ xs) [] = false
same (x ∷ xs) (y ∷ ys) = nat_eq x y && same xs ys

-- Every number of a list passes a test.
abbrev pub all : (ℕ → Bool) → List ℕ → Bool
all p [] = true
all p (x ∷ xs) = p x && all p xs

-- A list has nothing in it.
abbrev pub is_empty : {A : Type 0} → List A → Bool
is_empty [] = true
is_empty (x ∷ xs) = false

-- Printable ASCII: bytes 32 to 126.
abbrev pub is_printable : ℕ → Bool
is_printable c = nat_le 32 c && nat_le c 126
