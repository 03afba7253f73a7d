-- The printed text of a tree, and its length (document 01, 'Printing').
use Rattle.std.specs.Prelude.{Bool, true, false, ◌&&◌, ◌||◌, List, [], ◌∷◌, ◌++◌, map, ℕ, zero, suc, ◌+◌, ◌-◌, ◌/◌, ◌%◌, length, get_or, nat_le, nat_lt, nat_eq, if◌then◌else◌}
use Rattle.tokenizer.specs.Text.{bytes, same}
use Rattle.tokenizer.specs.Words.{words, ◌is◌}
use Rattle.tokenizer.specs.declared.TokenKind.TheVariants.{X}
use Rattle.writer.specs.Digits.{digits}
use Rattle.datatype.specs.Kind.{kinds, Shape, leaf, timestamp, time, interval, fixed, list, fixed_list, struct, union, dictionary, decimal, mapping, run_end_encoded, shape_of}
use Rattle.datatype.specs.Tree.{Forest, ∅, node, roots, Label}
use Rattle.display_length.specs.declared.words.Spelling.{Spelling}
use Rattle.display_length.specs.declared.words.Spelling.TheVariants.{Us, Micro}

-- ---- words and numbers

-- The word of a kind: the listed words begin with the kinds' words, in their order.
unfoldable pub kind_word : ℕ → List ℕ
kind_word k = (get_or words k ("" is X)).word

-- The same of any number: what is no kind has no word.
unfoldable pub kind_text : ℕ → List ℕ
kind_text k = if nat_lt k kinds then kind_word k else []

-- Microseconds, in the spelling chosen; that of the Rust is `Micro`.
unfoldable pub microsecond_text : Spelling → List ℕ
microsecond_text Us = bytes "us"
microsecond_text Micro = bytes "µs"

unfoldable pub unit_text : Spelling → ℕ → List ℕ
unit_text spelling zero = bytes "s"
unit_text spelling (suc zero) = bytes "ms"
unit_text spelling (suc (suc zero)) = microsecond_text spelling
unit_text spelling (suc (suc (suc n))) = bytes "ns"

unfoldable pub interval_text : ℕ → List ℕ
interval_text zero = bytes "YearMonth"
interval_text (suc zero) = bytes "DayTime"
interval_text (suc (suc n)) = bytes "MonthDayNano"

unfoldable pub mode_text : ℕ → List ℕ
mode_text zero = bytes "Sparse"
mode_text (suc n) = bytes "Dense"

unfoldable pub sorted_text : ℕ → List ℕ
sorted_text zero = bytes "unsorted"
sorted_text (suc n) = bytes "sorted"

-- A scale, of which word 5 is 128 more.
unfoldable pub scale_text : ℕ → List ℕ
scale_text scale = if nat_lt scale 128 then (45 ∷ digits (128 - scale)) else digits (scale - 128)

-- ---- double-quoted strings, as Rust's {:?}

abbrev pub hex_digit : ℕ → ℕ
hex_digit n = if nat_lt n 10 then 48 + n else (87 + n)

-- The lowercase hex digits of a byte, with no zero before them.
abbrev pub hex : ℕ → List ℕ
hex c = if nat_lt c 16 then hex_digit c ∷ [] else hex_digit (c / 16) ∷ hex_digit (c % 16) ∷ []

-- A character up to U+00FF by its number.
unfoldable pub unicode_text : ℕ → List ℕ
unicode_text c = bytes "\\u{" ++ (hex c ++ bytes "}")

-- The byte C2 begins the characters U+0080 to U+00BF, and no others; the byte behind it is the character's number.
abbrev pub is_lead : ℕ → Bool
is_lead c = nat_eq c 0xC2

-- What is written at a byte between the marks: at C2 nothing, since what it becomes is written at the byte behind it.
unfoldable pub escape : ℕ → List ℕ
escape c =
    if nat_eq c 34 then bytes "\\\""
    else if nat_eq c 92 then bytes "\\\\"
    else if nat_eq c 0 then bytes "\\0"
    else if nat_eq c 9 then bytes "\\t"
    else if nat_eq c 13 then bytes "\\r"
    else if nat_eq c 10 then bytes "\\n"
    else if nat_lt c 32 || nat_eq c 127 then unicode_text c
    else if is_lead c then []
    else c ∷ []

-- What is written at a byte behind C2: U+0080 to U+00A0 and U+00AD are written by their number.
unfoldable pub escape_pair : ℕ → List ℕ
escape_pair c = if (nat_le 0x80 c && nat_le c 0xA0) || nat_eq c 0xAD then unicode_text c else 0xC2 ∷ c ∷ []

-- The same of a byte behind C2 or not, and of all bytes of a string.
unfoldable pub escape_next : Bool → ℕ → List ℕ
escape_next true c = escape_pair c
escape_next false c = escape c

unfoldable pub escaped_from : Bool → List ℕ → List ℕ
escaped_from lead [] = []
escaped_from lead (c ∷ s) = escape_next lead c ++ escaped_from (is_lead c) s

unfoldable pub escaped : List ℕ → List ℕ
escaped s = escaped_from false s

unfoldable pub quoted : List ℕ → List ℕ
quoted s = 34 ∷ (escaped s ++ (34 ∷ []))

-- ---- fields

-- A row's label and its printed type.
pub record Shown : Type 0 where
  pub label : Label
  pub text : List ℕ

unfoldable pub nullity_text : Label → List ℕ
nullity_text l = if nat_eq l.role 2 then bytes "non-null " else []

-- "name": [non-null ]type
unfoldable pub field_text : Shown → List ℕ
field_text k = quoted k.label.name ++ (bytes ": " ++ (nullity_text k.label ++ k.text))

-- A list's name prints raw, and is left out if it is `item`.
unfoldable pub list_name_text : List ℕ → List ℕ
list_name_text name = if same name (bytes "item") then [] else (bytes ", field: '" ++ (name ++ bytes "'"))

unfoldable pub list_field_text : Shown → List ℕ
list_field_text k = nullity_text k.label ++ (k.text ++ list_name_text k.label.name)

unfoldable pub struct_text : List Shown → List ℕ
struct_text [] = []
struct_text (k ∷ []) = field_text k
struct_text (k ∷ j ∷ ks) = field_text k ++ (bytes ", " ++ struct_text (j ∷ ks))

unfoldable pub union_text : List Shown → List ℕ
union_text [] = []
union_text (k ∷ ks) = bytes ", " ++ (digits k.label.union_id ++ (bytes ": (" ++ (field_text k ++ (bytes ")" ++ union_text ks))))

unfoldable pub zone_text : List ℕ → List ℕ
zone_text [] = []
zone_text (c ∷ z) = bytes ", " ++ quoted (c ∷ z)

-- The short form of RunEndEncoded needs both default names.
unfoldable pub default_names : Label → Label → Bool
default_names r v = same r.name (bytes "run_ends") && same v.name (bytes "values")

unfoldable pub run_end_text : Shown → Shown → List ℕ
run_end_text r v =
    if default_names r.label v.label
    then nullity_text r.label ++ (r.text ++ (bytes ", " ++ (nullity_text v.label ++ v.text)))
    else (field_text r ++ (bytes ", " ++ field_text v))

-- ---- types, in a spelling of microseconds

-- The printed type of the first tree of a run.
abbrev pub first_text : List Shown → List ℕ
first_text [] = []
first_text (k ∷ ks) = k.text

-- A row with no type printed: what stays of its field's text are the parent's own bytes.
abbrev pub untyped : Label → Shown
untyped l = record { label = l; text = [] }

module _ (spelling : Spelling) where
  -- What stands behind the kind's word, by its shape.
  unfoldable pub shape_text : Shape → Label → List Shown → List ℕ
  shape_text leaf l ks = []
  shape_text timestamp l ks = bytes "(" ++ (unit_text spelling l.number ++ (zone_text l.zone ++ bytes ")"))
  shape_text time l ks = bytes "(" ++ (unit_text spelling l.number ++ bytes ")")
  shape_text interval l ks = bytes "(" ++ (interval_text l.number ++ bytes ")")
  shape_text fixed l ks = bytes "(" ++ (digits l.number ++ bytes ")")
  shape_text list l [] = []
  shape_text list l (k ∷ ks) = bytes "(" ++ (list_field_text k ++ bytes ")")
  shape_text fixed_list l [] = []
  shape_text fixed_list l (k ∷ ks) = bytes "(" ++ (digits l.number ++ (bytes " x " ++ (list_field_text k ++ bytes ")")))
  shape_text struct l ks = bytes "(" ++ (struct_text ks ++ bytes ")")
  shape_text union l ks = bytes "(" ++ (mode_text l.number ++ (union_text ks ++ bytes ")"))
  shape_text dictionary l [] = []
  shape_text dictionary l (k ∷ []) = []
  shape_text dictionary l (k ∷ v ∷ ks) = bytes "(" ++ (k.text ++ (bytes ", " ++ (v.text ++ bytes ")")))
  shape_text decimal l ks = bytes "(" ++ (digits l.number ++ (bytes ", " ++ (scale_text l.scale ++ bytes ")")))
  shape_text mapping l [] = []
  shape_text mapping l (k ∷ ks) = bytes "(" ++ (field_text k ++ (bytes ", " ++ (sorted_text l.number ++ bytes ")")))
  shape_text run_end_encoded l [] = []
  shape_text run_end_encoded l (r ∷ []) = []
  shape_text run_end_encoded l (r ∷ v ∷ ks) = bytes "(" ++ (run_end_text r v ++ bytes ")")

  unfoldable pub type_text : Label → List Shown → List ℕ
  type_text l ks = kind_word l.kind ++ shape_text (shape_of l.kind) l ks

  -- The trees of a run, each with its printed type.
  unfoldable pub shown : Forest Label → List Shown
  shown ∅ = []
  shown (node l kids next) = record { label = l; text = type_text l (shown kids) } ∷ shown next

  -- The printed text of a tree.
  unfoldable pub display : Forest Label → List ℕ
  display f = first_text (shown f)

  -- ---- lengths

  -- A row's own bytes: its text without its children's types.
  unfoldable pub own_length : Label → List Label → ℕ
  own_length l kids = length (type_text l (map untyped kids))

  -- The printed length of a row is its own bytes plus its children's.
  unfoldable pub display_length : Forest Label → ℕ
  display_length ∅ = 0
  display_length (node l kids next) = own_length l (roots kids) + display_length kids + display_length next
