-- Texts rewritten and refused at each step, and what the output then holds, by computation.
use Rattle.std.specs.Prelude.{◌≡◌, refl, List, [], ◌∷◌, ◌++◌, ℕ, replicate, Some}
use Rattle.tokenizer.specs.Text.{bytes}
use Rattle.datatype_parse.specs.Internal.Computed as parser
use Rattle.datatype_display.specs.Internal.Computed as printer
use Rattle.unchecked_rows.specs.Equal.{equal_trees}
use Rattle.datatype_display.specs.Print.{default_spelling}
use Rattle.round_trip.specs.PrintAndRead.{print_and_read_answer, print_and_read_rows}
use Rattle.rewrite.specs.Rewrite.{Outcome, text, not_read, not_printed, not_read_back, differs, is_same, printed_again, bytes_again, rewrite_answer, rewrite_bytes}

-- Three rows are lent, twice, and 24 bytes of output, each of them 1.
abbrev rows : List ℕ
rows = replicate 36 0

abbrev out : List ℕ
out = replicate 24 1

abbrev answer : List ℕ → Outcome
answer s = rewrite_answer default_spelling s rows out rows

abbrev output : List ℕ → List ℕ
output s = rewrite_bytes default_spelling s rows out rows

-- A zone in the Rust's older form.
abbrev pub plain : List ℕ
plain = bytes "Timestamp(Second, Some(\"CET\"))"

-- A quote mark in a zone: the backslash before it is part of the zone, and both are printed with a backslash.
abbrev pub marked : List ℕ
marked = bytes "Timestamp(s, \"C\\\"ET\")"

-- A tab for a name: it prints as a backslash and `t`, and the backslash then guards the closing mark.
abbrev pub tab : List ℕ
tab = bytes "Struct(\"" ++ 9 ∷ bytes "\": Int8)"

abbrev pub foreign : List ℕ
foreign = bytes "Timestamp(s, \"北\")"

abbrev pub unknown : List ℕ
unknown = bytes "List(Int9)"

pub rewritten_texts : (answer plain ∷ answer marked ∷ answer tab ∷ answer foreign ∷ answer unknown ∷ [])
    ≡ (text 19 1 ∷ differs ∷ not_read_back (record { number = 6; place = Some 7 }) ∷ not_printed 18 ∷ not_read (record { number = 8; place = Some 5 }) ∷ [])
unfolding parser.computed printer.computed equal_trees print_and_read_answer print_and_read_rows is_same printed_again rewrite_answer
rewritten_texts = refl

-- What was printed stands at the start of the output, and past it what it held; where a later step refuses it is all zeros,
-- and where nothing was printed it is as it was.
pub outputs_left : (output plain ∷ output marked ∷ output tab ∷ output foreign ∷ output unknown ∷ [])
    ≡ ((bytes "Timestamp(s, \"CET\")" ++ replicate 5 1) ∷ replicate 24 0 ∷ replicate 24 0 ∷ out ∷ out ∷ [])
unfolding parser.computed printer.computed equal_trees print_and_read_answer print_and_read_rows is_same printed_again bytes_again rewrite_answer rewrite_bytes
outputs_left = refl
