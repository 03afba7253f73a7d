-- The slot file's own check (document 02): whether a tree has the columns that are needed. A file fits when its root is a
-- Struct and each need is met by the root's one field of that name.
use Rattle.std.specs.Prelude.{Option, Some, None, Bool, true, false, not, ◌&&◌, ◌||◌, List, [], ◌∷◌, ℕ, suc, ◌+◌, length, filter, nat_le, nat_lt, nat_eq, if◌then◌else◌}
use Rattle.std.specs.Bool.{beq}
use Rattle.tokenizer.specs.Text.{same, is_empty}
use Rattle.tokenizer.specs.Answer.{Out, done, refuse, ◌>>=◌}
use Rattle.datatype.specs.Tree.{roots, Label, part}
use Rattle.row_table.specs.Sound.{struct_fields}
use Rattle.needs.specs.declared.Need.{Need}

-- The most needs.
abbrev pub max_needs : ℕ
max_needs = 32

-- ---- a need

-- A need is the code's own struct: where its name starts in the text of needs, and the name's length; the kind; both number
-- words, 4 and 5; whether null is allowed; whether a zone must stand. Its name is a part of the text of needs.
abbrev pub need_name : List ℕ → Need → List ℕ
need_name text n = part text n.start n.size

-- The name is not empty and lies inside its text, which need not be UTF-8.
abbrev pub is_named : List ℕ → Need → Bool
is_named text n = nat_le 1 n.size && nat_le (n.start + n.size) (length text)

unfoldable pub are_named : List ℕ → List Need → Bool
are_named text [] = true
are_named text (n ∷ ns) = is_named text n && are_named text ns

-- ---- the root's fields, which are the columns

-- Those of a name, by its bytes, from whichever home a field has it.
abbrev pub fields_named : List ℕ → List Label → List Label
fields_named name fields = filter (λ l. same l.name name) fields

-- The one of a list of one: none where a name is not found, and none where it is found twice.
abbrev pub only : List Label → Option Label
only [] = None
only (l ∷ []) = Some l
only (l ∷ m ∷ ls) = None

-- ---- whether a need is met

-- Non-null (role 2) unless null is allowed.
unfoldable pub role_allowed : Bool → ℕ → Bool
role_allowed null_allowed role = null_allowed || nat_eq role 2

-- A zone is present exactly when asked for.
unfoldable pub zone_allowed : Bool → List ℕ → Bool
zone_allowed zoned zone = beq (not (is_empty zone)) zoned

module _ (kind number scale : ℕ) (null_allowed zoned : Bool) where
  -- A field is as needed: kind and numbers equal, and role and zone as the need has them.
  unfoldable pub is_needed : Label → Bool
  is_needed l = nat_eq l.kind kind && nat_eq l.number number && nat_eq l.scale scale && role_allowed null_allowed l.role && zone_allowed zoned l.zone

  abbrev pub is_needed_one : Option Label → Bool
  is_needed_one None = false
  is_needed_one (Some l) = is_needed l

  -- The one field of a name, of the root's fields, is as needed.
  unfoldable pub need_met : List ℕ → List Label → Bool
  need_met name fields = is_needed_one (only (fields_named name fields))

-- The first need that is not met, of needs from need i on: none where all are met.
unfoldable pub first_unmet : List ℕ → List Label → ℕ → List Need → Option ℕ
first_unmet text fields i [] = None
first_unmet text fields i (n ∷ ns) =
    let met = need_met n.kind n.number n.scale n.null_allowed n.zoned (need_name text n) fields in
    if met then first_unmet text fields (suc i) ns else Some i

-- ---- the answers, with the refusals in document 02's order

module _ (text names table : List ℕ) where
  -- The columns, which needs are asked of: what the root's fields say; 17 where the tree is not sound, 25 where its root is
  -- not a Struct.
  unfoldable pub columns_of : Out (List Label)
  columns_of = do
    fields ← struct_fields text names table
    done (roots fields)

  -- Whether one need is met, given as plain numbers and its name; 27 where that is empty.
  unfoldable pub need_of : (kind number scale : ℕ) (null_allowed zoned : Bool) → List ℕ → Out Bool
  need_of kind number scale null_allowed zoned name = do
    fields ← columns_of
    if is_empty name then refuse 27 else done (need_met kind number scale null_allowed zoned name fields)

  -- The first failing need, over a text of needs, from 0, and None, which is yes, where there is none: also with no needs. 26
  -- for more than 32 needs, and 27 where any need's name is empty or outside its text, before any answer.
  unfoldable pub needs_of : List ℕ → List Need → Out (Option ℕ)
  needs_of needs_text needs = do
    fields ← columns_of
    if nat_lt max_needs (length needs) then refuse 26
        else if not (are_named needs_text needs) then refuse 27
        else done (first_unmet needs_text fields 0 needs)
