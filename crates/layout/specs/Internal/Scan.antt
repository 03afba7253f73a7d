-- How `verdict_of` finds its way: one scan over the rows in their order, with what is asked of the next row. Contracts
-- of private functions cite these; nothing here has to be believed, since `verdict_of`'s own contract does not.
use Rattle.std.specs.Prelude.{Option, Some, None, List, [], ◌∷◌, ℕ, suc, get_or, if◌then◌else◌}
use Rattle.datatype.specs.Kind.{shape_of}
use Rattle.layout.specs.declared.Asked.{Asked as Code}
use Rattle.layout.specs.declared.Asked.TheVariants.{Anything, Key, RunEnd}
use Rattle.layout.specs.Layout.{Asked, anything, key, run_end, kind_allowed, asked_of_first}

-- What is asked, as the code has it.
abbrev pub asked_of : Code → Asked
asked_of Anything = anything
asked_of Key = key
asked_of RunEnd = run_end

-- The first row that breaks a rule, of rows from row i on, given as their words.
unfoldable pub scan : Asked → ℕ → List (List ℕ) → Option ℕ
scan asked i [] = None
scan asked i (ws ∷ rows) =
    let later = scan (asked_of_first (shape_of (get_or ws 0 0))) (suc i) rows in
    if kind_allowed asked (get_or ws 0 0) then later else Some i
