-- The printer's answer and its buffer (document 01, 'Numbers a caller may get': 17, 18 and 19, in that order).
use Rattle.std.specs.Prelude.{List, ◌++◌, ℕ, min, length, drop, nat_le, if◌then◌else◌}
use Rattle.tokenizer.specs.Answer.{Out, refused, done, refuse}
use Rattle.datatype.specs.Limits.{max_text}
use Rattle.datatype.specs.Table.{tree_of}
use Rattle.row_table.specs.Sound.{is_sound}
use Rattle.display_length.specs.declared.words.Spelling.{Spelling}
use Rattle.display_length.specs.declared.words.Spelling.TheVariants.{Us}
use Rattle.display_length.specs.Display.{display}
use Rattle.display_length.specs.PrintedLength.{quoted_latin}

-- The spelling where none is named.
unfoldable pub default_spelling : Spelling
default_spelling = Us

-- The text that a tree prints in a spelling into a buffer of so many bytes, or the refusal.
unfoldable pub print : Spelling → List ℕ → List ℕ → List ℕ → ℕ → Out (List ℕ)
print spelling text names table room =
    let tree = tree_of text names table in
    let printed = display spelling tree in
    let fits = if nat_le (length printed) (min room max_text) then done printed else refuse 19 in
    let latin = if quoted_latin tree then fits else refuse 18 in
    if is_sound text names table then latin else refuse 17

-- What the printer answers: the printed length, or the refusal.
abbrev pub length_of : Out (List ℕ) → Out ℕ
length_of (refused r) = refused r
length_of (done s) = done (length s)

unfoldable pub print_answer : Spelling → List ℕ → List ℕ → List ℕ → List ℕ → Out ℕ
print_answer spelling text names table before = length_of (print spelling text names table (length before))

-- What the output buffer holds behind it: the text, and past it what it held before; untouched on a refusal.
abbrev pub written : List ℕ → Out (List ℕ) → List ℕ
written before (refused r) = before
written before (done s) = s ++ drop (length s) before

unfoldable pub print_bytes : Spelling → List ℕ → List ℕ → List ℕ → List ℕ → List ℕ
print_bytes spelling text names table before = written before (print spelling text names table (length before))
