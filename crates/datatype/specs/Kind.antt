-- Kinds of types, and the ranges of their numbers (document 01, 'Types' and 'The row table').
use Rattle.std.specs.Prelude.{Bool, true, false, not, ◌&&◌, ◌||◌, List, [], ◌∷◌, ℕ, ◌+◌, ◌-◌, get_or, nat_le, nat_lt, nat_eq, if◌then◌else◌}

-- A kind is its place in `DataType`'s order, Null = 0 to RunEndEncoded = 40.
abbrev pub kinds : ℕ
kinds = 41

abbrev pub timestamp_kind : ℕ
timestamp_kind = 13

abbrev pub time32_kind : ℕ
time32_kind = 16

abbrev pub time64_kind : ℕ
time64_kind = 17

abbrev pub struct_kind : ℕ
struct_kind = 32

abbrev pub decimal32_kind : ℕ
decimal32_kind = 35

-- How a kind is written and what stands below it. The four plain lists share a shape, and so do the four decimals.
pub data Shape : Type 0 where
  leaf timestamp time interval fixed list fixed_list struct union dictionary decimal mapping run_end_encoded : Shape

-- The shapes of the kinds, in their order.
abbrev pub shapes : List Shape
shapes =
    leaf ∷ leaf ∷ leaf ∷ leaf ∷ leaf ∷ leaf ∷ leaf ∷ leaf ∷ leaf ∷ leaf ∷ leaf ∷ leaf ∷ leaf
    ∷ timestamp ∷ leaf ∷ leaf ∷ time ∷ time ∷ time ∷ interval
    ∷ leaf ∷ fixed ∷ leaf ∷ leaf ∷ leaf ∷ leaf ∷ leaf
    ∷ list ∷ list ∷ fixed_list ∷ list ∷ list ∷ struct ∷ union
    ∷ dictionary ∷ decimal ∷ decimal ∷ decimal ∷ decimal ∷ mapping ∷ run_end_encoded ∷ []

unfoldable pub shape_of : ℕ → Shape
shape_of k = get_or shapes k leaf

-- A leaf has nothing behind its word.
abbrev pub is_leaf : Shape → Bool
is_leaf leaf = true
is_leaf _ = false

-- A type of a kind is written by its word alone.
unfoldable pub is_word : ℕ → Bool
is_word k = is_leaf (shape_of k)

-- The units of a kind: Time32 takes s and ms, Time64 µs and ns, the others all four.
unfoldable pub unit_fits : ℕ → ℕ → Bool
unit_fits k u = if nat_eq k time32_kind then nat_lt u 2 else if nat_eq k time64_kind then nat_le 2 u else true

-- The greatest precision belongs to the decimal width: 32, 64, 128, 256 bits. A kind that is no decimal has none.
unfoldable pub max_precision : ℕ → ℕ
max_precision k = if nat_lt k decimal32_kind then 0 else get_or (9 ∷ 18 ∷ 38 ∷ 76 ∷ []) (k - decimal32_kind) 0

-- A decimal's precision, and its scale plus 128: a positive scale is at most the precision.
unfoldable pub decimal_fits : ℕ → ℕ → ℕ → Bool
decimal_fits k precision scale = nat_le 1 precision && nat_le precision (max_precision k) && nat_le scale (128 + precision)

-- Map's entries, by their role, their kind and the roles of their fields: the refusal's number, 0 where there is none.
-- Nullable entries come first, then entries that are no Struct of two, then a nullable key.
abbrev pub key_refusal : List ℕ → ℕ
key_refusal [] = 14
key_refusal (key ∷ []) = 14
key_refusal (key ∷ value ∷ []) = if nat_eq key 2 then 0 else 13
key_refusal (key ∷ value ∷ third ∷ more) = 14

unfoldable pub entries_refusal : ℕ → ℕ → List ℕ → ℕ
entries_refusal role k roles = if nat_eq role 2 then (if nat_eq k struct_kind then key_refusal roles else 14) else 13

-- Union ids, with 256 added to a negative one: 0 to 127, each once.
abbrev pub has : ℕ → List ℕ → Bool
has x [] = false
has x (y ∷ ys) = nat_eq x y || has x ys

unfoldable pub ids_fit : List ℕ → Bool
ids_fit [] = true
ids_fit (x ∷ xs) = nat_lt x 128 && not (has x xs) && ids_fit xs
