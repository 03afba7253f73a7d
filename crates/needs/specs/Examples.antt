-- A slot file's columns and what is needed of them, by computation: answers, and each refusal.
use Rattle.std.specs.Prelude.{Option, Some, None, Bool, true, false, ◌≡◌, refl, List, [], ◌∷◌, ◌++◌, ℕ, replicate}
use Rattle.tokenizer.specs.Text.{bytes}
use Rattle.tokenizer.specs.Answer.{Out, done, refuse}
use Rattle.tokenizer.specs.Internal.Computed as tokenizer
use Rattle.row_table.specs.Internal.Computed as row_table
use Rattle.datatype.specs.Tree.{name_list}
use Rattle.needs.specs.declared.Need.{Need}
use Rattle.needs.specs.Needs.{are_named, role_allowed, zone_allowed, is_needed, need_met, first_unmet, columns_of, need_of, needs_of}

-- Names and a zone, over which the rows of these types stand:
--   Struct("slot": non-null Timestamp(s, "CET"), "kwh": Decimal64(12, 3))
--   the same with "kwh" twice
--   Timestamp(s)
abbrev text : List ℕ
text = bytes "slotkwhCET"

abbrev slot : List ℕ
slot = 13 ∷ 1 ∷ 2 ∷ 0 ∷ 0 ∷ 0 ∷ 1 ∷ 0 ∷ 4 ∷ 7 ∷ 3 ∷ 0 ∷ []

abbrev kwh : List ℕ
kwh = 36 ∷ 1 ∷ 1 ∷ 0 ∷ 12 ∷ 131 ∷ 1 ∷ 4 ∷ 3 ∷ 0 ∷ 0 ∷ 0 ∷ []

abbrev root : ℕ → ℕ → List ℕ
root kind rows = kind ∷ rows ∷ replicate 10 0

abbrev pub columns : List ℕ
columns = root 32 3 ++ slot ++ kwh

abbrev pub kwh_twice : List ℕ
kwh_twice = root 32 4 ++ slot ++ kwh ++ kwh

abbrev pub timestamp : List ℕ
timestamp = root 13 1

-- What is needed, over a text of names in another order, of which the last byte is no UTF-8.
abbrev names : List ℕ
names = bytes "kwhslot" ++ 255 ∷ []

abbrev slot_need : Bool → Need
slot_need zoned = record { start = 3; size = 4; kind = 13; number = 0; scale = 0; null_allowed = false; zoned = zoned }

abbrev kwh_need : Bool → ℕ → Need
kwh_need null_allowed scale = record { start = 0; size = 3; kind = 36; number = 12; scale = scale; null_allowed = null_allowed; zoned = false }

-- A need whose name has so many bytes from the last one on.
abbrev strange_need : ℕ → Need
strange_need size = record { start = 7; size = size; kind = 4; number = 0; scale = 0; null_allowed = true; zoned = false }

abbrev answer : List ℕ → List Need → Out (Option ℕ)
answer table needs = needs_of text name_list table names needs

abbrev met : Need
met = slot_need true

abbrev unmet : Need
unmet = slot_need false

-- Yes; no needs; a zone that is not asked for; null that is not allowed; another scale; a name found twice; one not found.
pub answered_needs : (answer columns (met ∷ kwh_need true 131 ∷ []) ∷ answer columns [] ∷ answer columns (unmet ∷ met ∷ []) ∷ answer columns (met ∷ kwh_need false 131 ∷ []) ∷ answer columns (met ∷ kwh_need true 130 ∷ unmet ∷ []) ∷ answer kwh_twice (met ∷ kwh_need true 131 ∷ []) ∷ answer columns (strange_need 1 ∷ []) ∷ [])
    ≡ (done None ∷ done None ∷ done (Some 0) ∷ done (Some 1) ∷ done (Some 1) ∷ done (Some 1) ∷ done (Some 0) ∷ [])
unfolding tokenizer.computed row_table.computed are_named role_allowed zone_allowed is_needed need_met first_unmet columns_of needs_of
answered_needs = refl

-- No tree; another root; too many needs, with a name that is empty; a name that is empty, and one that runs past the text,
-- each behind a need that is not met; and 32 needs, which are not too many.
pub refused_needs : (answer [] (strange_need 0 ∷ []) ∷ answer timestamp (replicate 33 met) ∷ answer columns (strange_need 0 ∷ replicate 32 met) ∷ answer columns (unmet ∷ strange_need 0 ∷ []) ∷ answer columns (unmet ∷ strange_need 2 ∷ []) ∷ answer columns (replicate 32 met) ∷ [])
    ≡ (refuse 17 ∷ refuse 25 ∷ refuse 26 ∷ refuse 27 ∷ refuse 27 ∷ done None ∷ [])
unfolding tokenizer.computed row_table.computed are_named role_allowed zone_allowed is_needed need_met first_unmet columns_of needs_of
refused_needs = refl

-- One need alone: met, not met, no name.
pub needs_alone : (need_of text name_list columns 36 12 131 true false (bytes "kwh") ∷ need_of text name_list columns 36 12 131 true true (bytes "kwh") ∷ need_of text name_list columns 36 12 131 true false [] ∷ []) ≡ (done true ∷ done false ∷ refuse 27 ∷ [])
unfolding tokenizer.computed row_table.computed role_allowed zone_allowed is_needed need_met columns_of need_of
needs_alone = refl
