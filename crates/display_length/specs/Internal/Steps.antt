-- What private functions of this crate promise; nothing here has to be believed, since no public function's contract
-- cites it.
use Rattle.std.specs.Prelude.{◌≡◌, Bool, true, false, not, ◌&&◌, ◌||◌, List, ℕ, ◌+◌, ◌≤◌, length, T, nat_le, nat_lt, nat_eq, if◌then◌else◌}
use Rattle.tokenizer.specs.Text.{all}
use Rattle.datatype.specs.Limits.{max_text}
use Rattle.datatype.specs.Kind.{Shape, leaf, timestamp, time, interval, fixed, list, fixed_list, struct, union, dictionary, decimal, mapping, run_end_encoded, shape_of}
use Rattle.datatype.specs.Tree.{Forest, ∅, node, roots, Label}
use Rattle.writer.specs.Digits.{digits}
use Rattle.display_length.specs.Display.{kind_text, unit_text, interval_text, mode_text, sorted_text, scale_text, is_lead, quoted, list_name_text, zone_text}
use Rattle.display_length.specs.declared.words.Spelling.{Spelling}
use Rattle.display_length.specs.PrintedLength.{quotes_names, is_latin, names_latin}

-- ---- refusal 18

-- What a row prints in double quotes, its zone and its children's names, is Latin.
unfoldable pub row_latin : Label → List Label → Bool
row_latin l kids = is_latin l.zone && (not (quotes_names (shape_of l.kind) kids) || names_latin kids)

-- ---- strings

-- Latin bytes of which only the double quote is escaped.
unfoldable pub is_clean : ℕ → Bool
is_clean c = nat_le 32 c && not (nat_eq c 92) && not (nat_eq c 127) && not (is_lead c) && nat_le c 0xC5

unfoldable pub is_no_mark : ℕ → Bool
is_no_mark c = not (nat_eq c 34)

abbrev pub no_lead : ℕ → Bool
no_lead c = not (is_lead c)

-- A byte's weight, at most C5 where it is clean.
abbrev pub clean_weight : ℕ → ℕ
clean_weight c = if nat_lt c 32 || nat_eq c 92 || nat_eq c 127 || is_lead c then 255 else c

-- Bytes no longer than a text, and clean ones where the code takes them to be.
pub record Clean (clean : Bool) (s : List ℕ) : Type 0 where
  pub short : length s ≤ max_text
  pub so : clean ≡ true → T (all is_clean s)

-- ---- a row's own bytes, in the parts in which the code counts them

-- How long a kind's word is.
unfoldable pub word_length : ℕ → ℕ
word_length k = length (kind_text k)

-- What stands behind a kind's word, but for what stands around its children's types: the marks, and what words 4 and 5
-- and the zone say.
unfoldable pub behind_length : Spelling → Shape → Label → ℕ
behind_length spelling leaf l = 0
behind_length spelling timestamp l = 2 + length (unit_text spelling l.number) + length (zone_text l.zone)
behind_length spelling time l = 2 + length (unit_text spelling l.number)
behind_length spelling interval l = 2 + length (interval_text l.number)
behind_length spelling fixed l = 2 + length (digits l.number)
behind_length spelling fixed_list l = 5 + length (digits l.number)
behind_length spelling union l = 2 + length (mode_text l.number)
behind_length spelling decimal l = 4 + length (digits l.number) + length (scale_text l.scale)
behind_length spelling mapping l = 4 + length (sorted_text l.number)
behind_length spelling _ l = 2

unfoldable pub row_length : Spelling → Label → ℕ
row_length spelling l = word_length l.kind + behind_length spelling (shape_of l.kind) l

-- A comma and a space before each child but the first.
abbrev pub comma_length : Bool → ℕ
comma_length true = 0
comma_length false = 2

unfoldable pub nullity_length : ℕ → ℕ
nullity_length role = if nat_eq role 2 then 9 else 0

-- A field without its type: its name, where names print in double quotes, and its nullability.
unfoldable pub field_length : Bool → Label → ℕ
field_length true l = length (quoted l.name) + 2 + nullity_length l.role
field_length false l = nullity_length l.role

-- What stands around a child's type, by the parent's shape.
unfoldable pub around_length : Shape → Bool → Bool → Label → ℕ
around_length list quotes first l = nullity_length l.role + length (list_name_text l.name)
around_length fixed_list quotes first l = nullity_length l.role + length (list_name_text l.name)
around_length struct quotes first l = comma_length first + field_length quotes l
around_length union quotes first l = 6 + length (digits l.union_id) + field_length quotes l
around_length dictionary quotes first l = comma_length first
around_length mapping quotes first l = field_length quotes l
around_length run_end_encoded quotes first l = comma_length first + field_length quotes l
around_length _ quotes first l = 0

-- The types of a run of children, with what stands around them.
unfoldable pub children_length : Spelling → Shape → Bool → Bool → Forest Label → ℕ
children_length spelling s quotes first ∅ = 0
children_length spelling s quotes first (node l kids next) =
    around_length s quotes first l + (row_length spelling l + children_length spelling (shape_of l.kind) (quotes_names (shape_of l.kind) (roots kids)) true kids)
    + children_length spelling s quotes false next

-- A row's type.
unfoldable pub type_length : Spelling → Label → Forest Label → ℕ
type_length spelling l kids = row_length spelling l + children_length spelling (shape_of l.kind) (quotes_names (shape_of l.kind) (roots kids)) true kids
