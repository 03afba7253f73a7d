-- Images written, read and refused, by computation.
use Rattle.std.specs.Prelude.{◌≡◌, refl, List, [], ◌∷◌, ◌++◌, ℕ, take, replicate, set}
use Rattle.tokenizer.specs.Text.{bytes}
use Rattle.tokenizer.specs.Answer.{Out, done, refuse}
use Rattle.tokenizer.specs.Utf8.{utf8_step, utf8_state, is_utf8}
use Rattle.datatype.specs.Tree.{∅, node, Label, name_list}
use Rattle.row_table.specs.Internal.Computed.{computed}
use Rattle.packing.specs.Packed.{packed_text, packed_row, packed_from, packed, packed_rows, packed_bytes}
use Rattle.packing.specs.declared.Packed.{Packed}
use Rattle.archive.specs.Archive.{record_of, image_of, archived, archive_answer, archive_bytes, string_at, strings_at, whole_record, record_at, records_at, tree_at, unarchived, unarchive_answer, unarchive_rows, unarchive_text}

abbrev zeros : ℕ → List ℕ
zeros n = replicate n 0

-- The answer where an image is read into so many words and bytes.
abbrev answer : List ℕ → ℕ → ℕ → Out Packed
answer image words room = unarchive_answer image (zeros words) (zeros room)

-- ---- writing

-- `Int8`, as rows, and its image.
abbrev int8_rows : List ℕ
int8_rows = 2 ∷ 1 ∷ zeros 10

abbrev int8_image : List ℕ
int8_image = 17 ∷ 0 ∷ 0 ∷ 0 ∷ 2 ∷ 0 ∷ zeros 11

pub int8_written : archive_bytes [] name_list int8_rows (zeros 17) ≡ int8_image
unfolding computed utf8_step utf8_state is_utf8 record_of image_of archived archive_bytes
int8_written = refl

-- `Struct("a": non-null Timestamp(s, "CET"))`, as rows over its packed text, and its image.
abbrev zoned_rows : List ℕ
zoned_rows =
    (32 ∷ 2 ∷ zeros 10)
    ++ (13 ∷ 1 ∷ 2 ∷ 0 ∷ 0 ∷ 0 ∷ 1 ∷ 0 ∷ 1 ∷ 1 ∷ 3 ∷ 0 ∷ [])

abbrev zoned_image : List ℕ
zoned_image =
    (38 ∷ 0 ∷ 0 ∷ 0 ∷ 32 ∷ 0 ∷ zeros 11)
    ++ (21 ∷ 0 ∷ 0 ∷ 0 ∷ 13 ∷ 0 ∷ 2 ∷ zeros 6 ++ (1 ∷ 0 ∷ 97 ∷ 3 ∷ 0 ∷ 67 ∷ 69 ∷ 84 ∷ []))

pub zoned_written : archive_bytes (bytes "aCET") name_list zoned_rows (zeros 38) ≡ zoned_image
unfolding computed utf8_step utf8_state is_utf8 record_of image_of archived archive_bytes
zoned_written = refl

-- The rows of `List(Int8)` where the text names its field, and where it does not: one image.
abbrev list_rows : ℕ → List ℕ
list_rows home = (27 ∷ 2 ∷ zeros 10) ++ (2 ∷ 1 ∷ 1 ∷ 0 ∷ 0 ∷ 0 ∷ home ∷ 0 ∷ 4 ∷ 0 ∷ 0 ∷ 0 ∷ [])

abbrev list_image : List ℕ
list_image =
    (38 ∷ 0 ∷ 0 ∷ 0 ∷ 27 ∷ 0 ∷ zeros 11)
    ++ (21 ∷ 0 ∷ 0 ∷ 0 ∷ 2 ∷ 0 ∷ 1 ∷ zeros 6 ++ (4 ∷ 0 ∷ []) ++ bytes "item" ++ zeros 2)

pub lists_written :
    (archive_bytes (bytes "item") name_list (list_rows 1) (zeros 38)
    ∷ archive_bytes [] name_list (list_rows 2) (zeros 38)
    ∷ [])
    ≡ (list_image ∷ list_image ∷ [])
unfolding computed utf8_step utf8_state is_utf8 record_of image_of archived archive_bytes
lists_written = refl

-- Not sound comes before no room; and a refusal changes nothing.
pub not_written :
    (archive_answer [] name_list (set int8_rows 2 1) []
    ∷ archive_answer [] name_list int8_rows (zeros 16)
    ∷ archive_answer [] name_list int8_rows (zeros 18)
    ∷ [])
    ≡ (refuse 17 ∷ refuse 28 ∷ done 17 ∷ [])
unfolding computed utf8_step utf8_state is_utf8 record_of image_of archived archive_answer
not_written = refl

pub unchanged : archive_bytes [] name_list int8_rows (replicate 16 7) ≡ replicate 16 7
unfolding computed utf8_step utf8_state is_utf8 record_of image_of archived archive_bytes
unchanged = refl

-- ---- reading

pub zoned_read : answer zoned_image 24 4 ≡ done (record { rows = 2; bytes = 4 })
unfolding computed utf8_step utf8_state is_utf8 packed_text packed_row packed_from packed string_at strings_at whole_record record_at records_at tree_at unarchived unarchive_answer
zoned_read = refl

pub zoned_rows_read : unarchive_rows zoned_image (replicate 25 7) (zeros 4) ≡ zoned_rows ++ (7 ∷ [])
unfolding computed utf8_step utf8_state is_utf8 packed_text packed_row packed_from packed packed_rows string_at strings_at whole_record record_at records_at tree_at unarchived unarchive_rows
zoned_rows_read = refl

pub zoned_text_read : unarchive_text zoned_image (zeros 24) (replicate 5 7)
    ≡ bytes "aCET" ++ (7 ∷ [])
unfolding computed utf8_step utf8_state is_utf8 packed_text packed_row packed_from packed packed_bytes string_at strings_at whole_record record_at records_at tree_at unarchived unarchive_text
zoned_text_read = refl

-- A row, a byte and both short of it.
pub no_room :
    (answer zoned_image 12 4 ∷ answer zoned_image 24 3 ∷ answer zoned_image 0 0
    ∷ answer int8_image 0 0
    ∷ [])
    ≡ replicate 4 (refuse 28)
unfolding computed utf8_step utf8_state is_utf8 packed_text packed_row packed_from packed string_at strings_at whole_record record_at records_at tree_at unarchived unarchive_answer
no_room = refl

-- Lengths: none; not whole; less than what follows itself; under 17; past the image; with a byte
-- behind; two images.
pub wrong_lengths :
    (answer [] 24 9 ∷ answer (take 3 int8_image) 24 9 ∷ answer (take 16 int8_image) 24 9
    ∷ answer (set int8_image 0 13) 24 9 ∷ answer (set int8_image 0 16) 24 9
    ∷ answer (set int8_image 0 18) 24 9
    ∷ answer (int8_image ++ (0 ∷ [])) 24 9 ∷ answer (int8_image ++ int8_image) 24 9
    ∷ [])
    ≡ replicate 8 (refuse 30)
unfolding computed utf8_step utf8_state is_utf8 packed_text packed_row packed_from packed string_at strings_at whole_record record_at records_at tree_at unarchived unarchive_answer
wrong_lengths = refl

-- Kinds 41, 258 and 65,535, where nothing is lent: the kind comes before the room for its row.
pub unknown_kinds :
    (answer (set int8_image 4 41) 0 0 ∷ answer (set int8_image 5 1) 0 0
    ∷ answer (set (set int8_image 4 255) 5 255) 0 0
    ∷ [])
    ≡ replicate 3 (refuse 31)
unfolding computed utf8_step utf8_state is_utf8 packed_text packed_row packed_from packed string_at strings_at whole_record record_at records_at tree_at unarchived unarchive_answer
unknown_kinds = refl

-- A name that runs past its record, whatever is lent; one that leaves no room for the zone's
-- length, whose own room is asked first; and a record that ends in three bytes.
abbrev short_name : List ℕ
short_name = 18 ∷ 0 ∷ 0 ∷ 0 ∷ 2 ∷ 0 ∷ zeros 7 ++ (2 ∷ 0 ∷ 97 ∷ 98 ∷ 0 ∷ [])

pub name_lengths :
    (answer (set int8_image 13 3) 12 0
    ∷ answer (set int8_image 13 2) 12 2 ∷ answer (set int8_image 13 2) 12 1
    ∷ answer short_name 12 1 ∷ answer short_name 12 2 ∷ answer short_name 0 2
    ∷ answer (set (set int8_image 0 20) 4 32 ++ (1 ∷ 2 ∷ 3 ∷ [])) 24 9
    ∷ [])
    ≡ (refuse 30 ∷ refuse 30 ∷ refuse 28 ∷ refuse 28 ∷ refuse 30 ∷ refuse 28 ∷ refuse 30 ∷ [])
unfolding computed utf8_step utf8_state is_utf8 packed_text packed_row packed_from packed string_at strings_at whole_record record_at records_at tree_at unarchived unarchive_answer
name_lengths = refl

-- `Struct("s": Struct("a": Int8), "b": Int8)`, and the same where the record of `a` takes in that
-- of `b`: it runs past its parent's.
abbrev label : (kind role : ℕ) → (name zone : List ℕ) → Label
label kind role name zone =
    record {
      kind = kind;
      role = role;
      union_id = 0;
      number = 0;
      scale = 0;
      name = name;
      zone = zone;
    }

abbrev nested : List ℕ
nested =
    image_of
    (node (label 32 0 [] [])
    (node (label 32 1 (bytes "s") []) (node (label 2 1 (bytes "a") []) ∅ ∅)
    (node (label 2 1 (bytes "b") []) ∅ ∅)) ∅)

pub past_parent : (answer nested 48 3 ∷ answer (set nested 35 36) 48 3 ∷ [])
    ≡ (done (record { rows = 4; bytes = 3 }) ∷ refuse 30 ∷ [])
unfolding computed utf8_step utf8_state is_utf8 packed_text packed_row packed_from packed record_of image_of string_at strings_at whole_record record_at records_at tree_at unarchived unarchive_answer
past_parent = refl

-- What is whole and is no sound tree: a root of role 1 and one with a name, a leaf with a child, a
-- zone on Int8, role 3, a field without a name. With a byte behind it the first is 30.
abbrev of_one : ℕ → ℕ → List ℕ → List ℕ → List ℕ
of_one kind role name zone = image_of (node (label kind 0 [] []) (node (label 2 role name zone) ∅ ∅) ∅)

abbrev named_root : List ℕ
named_root = 18 ∷ 0 ∷ 0 ∷ 0 ∷ 2 ∷ 0 ∷ zeros 7 ++ (1 ∷ 0 ∷ 97 ∷ 0 ∷ 0 ∷ [])

pub not_sound :
    (answer (set int8_image 6 1) 24 9
    ∷ answer (set int8_image 6 1 ++ (0 ∷ [])) 24 9
    ∷ answer named_root 24 9
    ∷ answer (of_one 2 1 (bytes "a") []) 24 9
    ∷ answer (of_one 32 1 (bytes "a") (bytes "z")) 24 9
    ∷ answer (of_one 32 3 (bytes "a") []) 24 9
    ∷ answer (of_one 32 1 [] []) 24 9
    ∷ answer (of_one 32 2 (bytes "a") []) 24 9
    ∷ [])
    ≡ (refuse 17 ∷ refuse 30 ∷ replicate 5 (refuse 17) ++ (done (record { rows = 2; bytes = 1 }) ∷ []))
unfolding computed utf8_step utf8_state is_utf8 packed_text packed_row packed_from packed record_of image_of string_at strings_at whole_record record_at records_at tree_at unarchived unarchive_answer
not_sound = refl

-- A refusal leaves all zeros, behind the last whole row too.
pub cleared_rows : unarchive_rows [] (replicate 25 7) (replicate 3 7) ≡ zeros 25
unfolding computed string_at strings_at whole_record record_at records_at tree_at unarchived unarchive_rows
cleared_rows = refl

pub cleared_text : unarchive_text [] (replicate 25 7) (replicate 3 7) ≡ zeros 3
unfolding computed string_at strings_at whole_record record_at records_at tree_at unarchived unarchive_text
cleared_text = refl
