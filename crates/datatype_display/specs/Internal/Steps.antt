-- What the printer's private functions promise; nothing here has to be believed, since no public function's contract
-- cites it.
use Rattle.std.specs.Prelude.{◌≡◌, Bool, true, false, not, ◌&&◌, ◌||◌, List, [], ◌∷◌, ◌++◌, ℕ, ◌+◌, ◌≤◌, ◌<◌, length, take, drop, nat_le, nat_lt, nat_eq, if◌then◌else◌}
use Rattle.std.proofs.lemmas.List.Edits.{sets}
use Rattle.tokenizer.specs.Text.{bytes}
use Rattle.datatype.specs.Kind.{Shape}
use Rattle.writer.specs.Digits.{digits}
use Rattle.writer.specs.declared.Writer.{Writer}
use Rattle.writer.specs.Written.{last_place, written}
use Rattle.display_length.specs.Display.{escaped_from, quoted, Shown, nullity_text, field_text, shape_text, type_text, shown}
use Rattle.row_table.specs.declared.nodes.Nodes.{Nodes}
use Rattle.row_table.specs.Nodes.{labels_in}
use Rattle.display_length.specs.declared.printed.PrintedNode.{PrintedNode}
use Rattle.display_length.specs.declared.words.Spelling.{Spelling}
use Rattle.display_length.specs.Internal.Steps.{no_lead}
use Rattle.display_length.specs.Internal.Nodes.{label_in, children_in, levels_below}
use Rattle.datatype_display.specs.declared.write.Printer.{Printer}

-- ---- the output

-- A writer at the printer's place.
abbrev pub writer_of : Printer → Writer
writer_of p = record { at = p.at; out = p.out }

-- The bytes s are stored at a place, nothing else has changed, and `next` is the place behind them. The size follows, and
-- is said for the next call's room.
pub record Stored (before : List ℕ) (at : ℕ) (s : List ℕ) (next : ℕ) (after : List ℕ) : Type 0 where
  pub is : after ≡ sets before at s
  pub place : next ≡ at + length s
  pub size : length after ≡ length before

-- There is room for the bytes s, and places for the whole output.
pub record Fits (p : Printer) (s : List ℕ) : Type 0 where
  pub room : p.at + length s ≤ length p.out.now
  pub few : length p.out.now ≤ last_place

-- The bytes s are written. The place and the size follow, and are said for the next call's room.
pub record Wrote (before : Printer) (s : List ℕ) (after : Printer) : Type 0 where
  pub is : writer_of after ≡ written (writer_of before) s
  pub place : after.at ≡ before.at + length s
  pub size : length after.out.now ≡ length before.out.now

-- ---- strings

-- A byte that is not escaped between double quotes, where it is not behind C2.
unfoldable pub is_shown : ℕ → Bool
is_shown c = nat_le 32 c && not (nat_eq c 34) && not (nat_eq c 92) && not (nat_eq c 127)

-- Such a byte is written as it is, but for C2, at which nothing is written.
abbrev pub is_itself : ℕ → Bool
is_itself c = is_shown c && no_lead c

-- The first n bytes of s stand at a place as they are, and nothing else has changed.
pub record Ran (before : List ℕ) (at : ℕ) (s : List ℕ) (n : ℕ) (after : List ℕ) : Type 0 where
  pub few : n ≤ length s
  pub stored : after ≡ sets before at (take n s)
  pub same : take n s ++ escaped_from false (drop n s) ≡ escaped_from false s

-- ---- kinds

-- No types stand below one of a kind.
unfoldable pub is_alone : ℕ → Bool
is_alone k = nat_lt k 27 || (nat_le 35 k && nat_le k 38)

-- ---- parts of fields

unfoldable pub nullability : ℕ → List ℕ
nullability role = if nat_eq role 2 then bytes "non-null " else []

-- A comma where a field follows.
unfoldable pub comma : Bool → List ℕ
comma true = bytes ", "
comma false = []

-- "name": [non-null ]
unfoldable pub name_text : List ℕ → ℕ → List ℕ
name_text name role = quoted name ++ (bytes ": " ++ nullability role)

unfoldable pub nullable_text : Shown → List ℕ
nullable_text k = nullity_text k.label ++ k.text

unfoldable pub union_field_text : Shown → List ℕ
union_field_text k = bytes ", " ++ (digits k.label.union_id ++ (bytes ": (" ++ (field_text k ++ bytes ")")))

-- ---- nodes

-- What the types below a node print.
abbrev pub fields_in : PrintedNode → List Shown
fields_in n = shown n.of.now.spelling (children_in n)

-- A node's printed type.
unfoldable pub text_in : PrintedNode → List ℕ
text_in n = type_text n.of.now.spelling (label_in n) (fields_in n)

abbrev pub shown_in : PrintedNode → Shown
shown_in n = record { label = label_in n; text = text_in n }

-- What nodes side by side print in a spelling.
abbrev pub all_shown : Spelling → Nodes → List Shown
all_shown spelling ns = shown spelling (labels_in ns)

-- What stands behind the kind's word, where the kind has a shape.
unfoldable pub shape_in : Shape → PrintedNode → List ℕ
shape_in s n = shape_text n.of.now.spelling s (label_in n) (fields_in n)

-- The first type below a node's.
pub record HasFirst (n : PrintedNode) (child : PrintedNode) : Type 0 where
  pub levels : levels_below child < levels_below n
  pub others : List Shown
  pub is : fields_in n ≡ shown_in child ∷ others

-- The first two.
pub record HasTwo (n : PrintedNode) (first second : PrintedNode) : Type 0 where
  pub levels-first : levels_below first < levels_below n
  pub levels-second : levels_below second < levels_below n
  pub others : List Shown
  pub is : fields_in n ≡ shown_in first ∷ shown_in second ∷ others
