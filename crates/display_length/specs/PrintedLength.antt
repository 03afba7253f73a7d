-- What is printed in double quotes, and the printed length of a tree (document 01, 'Numbers a caller may get': 17 and
-- 18, in that order).
use Rattle.std.specs.Prelude.{Bool, true, false, not, ◌&&◌, ◌||◌, List, [], ◌∷◌, ℕ, nat_le, if◌then◌else◌}
use Rattle.tokenizer.specs.Text.{all}
use Rattle.tokenizer.specs.Answer.{Out, done, refuse}
use Rattle.datatype.specs.Kind.{Shape, leaf, timestamp, time, interval, fixed, list, fixed_list, struct, union, dictionary, decimal, mapping, run_end_encoded, shape_of}
use Rattle.datatype.specs.Tree.{Forest, ∅, node, roots, Label}
use Rattle.datatype.specs.Table.{tree_of}
use Rattle.row_table.specs.Sound.{is_sound}
use Rattle.display_length.specs.Display.{default_names, display_length}
use Rattle.display_length.specs.declared.words.Spelling.{Spelling}

-- Whether a shape prints its children's names in double quotes.
unfoldable pub quotes_names : Shape → List Label → Bool
quotes_names leaf ks = false
quotes_names timestamp ks = false
quotes_names time ks = false
quotes_names interval ks = false
quotes_names fixed ks = false
quotes_names list ks = false
quotes_names fixed_list ks = false
quotes_names struct ks = true
quotes_names union ks = true
quotes_names dictionary ks = false
quotes_names decimal ks = false
quotes_names mapping ks = true
quotes_names run_end_encoded [] = false
quotes_names run_end_encoded (r ∷ []) = false
quotes_names run_end_encoded (r ∷ v ∷ ks) = not (default_names r v)

-- Characters up to U+017F alone, which are Unicode's blocks Basic Latin, Latin-1 Supplement and Latin Extended-A: in UTF-8,
-- bytes up to C5.
abbrev pub is_latin : List ℕ → Bool
is_latin s = all (λ c. nat_le c 0xC5) s

abbrev pub names_latin : List Label → Bool
names_latin [] = true
names_latin (l ∷ ls) = is_latin l.name && names_latin ls

-- No double-quoted name or zone holds a character above U+017F.
unfoldable pub quoted_latin : Forest Label → Bool
quoted_latin ∅ = true
quoted_latin (node l kids next) =
    is_latin l.zone && (not (quotes_names (shape_of l.kind) (roots kids)) || names_latin (roots kids)) && quoted_latin kids && quoted_latin next

-- How many bytes a tree prints in a spelling, or the refusal.
unfoldable pub printed_length : Spelling → List ℕ → List ℕ → List ℕ → Out ℕ
printed_length spelling text names table =
    let tree = tree_of text names table in
    let latin = if quoted_latin tree then done (display_length spelling tree) else refuse 18 in
    if is_sound text names table then latin else refuse 17
