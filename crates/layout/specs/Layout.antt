-- The layout verdict (document 01, 'The layout verdict').
use Rattle.std.specs.Prelude.{Option, Some, None, Bool, true, ◌&&◌, List, ℕ, suc, ◌+◌, nat_le, if◌then◌else◌}
use Rattle.tokenizer.specs.Answer.{Out, done, refuse}
use Rattle.datatype.specs.Kind.{Shape, dictionary, run_end_encoded, shape_of}
use Rattle.datatype.specs.Tree.{Forest, ∅, node, count, Label}
use Rattle.datatype.specs.Table.{tree_of}
use Rattle.row_table.specs.Sound.{is_sound}

-- What the layout asks of a row's kind.
pub data Asked : Type 0 where
  anything key run_end : Asked

-- A dictionary key is any of the eight integer types, Int8 to Int64 and UInt8 to UInt64; run ends are Int16, Int32 or
-- Int64.
unfoldable pub kind_allowed : Asked → ℕ → Bool
kind_allowed anything k = true
kind_allowed key k = nat_le 2 k && nat_le k 9
kind_allowed run_end k = nat_le 3 k && nat_le k 5

-- What is asked of a shape's first child; nothing is asked of the later ones.
unfoldable pub asked_of_first : Shape → Asked
asked_of_first dictionary = key
asked_of_first run_end_encoded = run_end
asked_of_first _ = anything

abbrev pub first : Option ℕ → Option ℕ → Option ℕ
first None later = later
first (Some i) later = Some i

-- The first row that breaks a rule, of a run of trees whose first row is row i and is asked something.
unfoldable pub broken_row : Asked → ℕ → Forest Label → Option ℕ
broken_row asked i ∅ = None
broken_row asked i (node l kids next) =
    let below = broken_row (asked_of_first (shape_of l.kind)) (suc i) kids in
    let beyond = broken_row anything (i + suc (count kids)) next in
    if kind_allowed asked l.kind then first below beyond else Some i

-- The verdict of a sound tree: None is yes, else the first row that breaks a rule; 17 if the tree is not sound.
unfoldable pub verdict_of : List ℕ → List ℕ → List ℕ → Out (Option ℕ)
verdict_of text names table = if is_sound text names table then done (broken_row anything 0 (tree_of text names table)) else refuse 17
