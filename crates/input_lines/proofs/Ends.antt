-- Where a line ends.
--   lines_from   the lines from a place on: the one that ends where `line_end` says, and those behind its newline
use Rattle.std.specs.Prelude.{if◌then◌else◌, Option, Some, None, cond, ltb}
use Rattle.std.specs.Option.{unwrap_or}
use mathlib.Core.Path.{◌≡◌, refl, ap, ◌∙◌}
use mathlib.Core.Bool.{Bool, true, false}
use mathlib.Core.List.{List, [], ◌∷◌}
use Prim.Native.Nat.{ℕ, suc, ◌+◌, ◌-◌, min, ◌≤◌, ◌<◌}
use native.Mathlib.Omega.{arith}
use lib.ListN.{length, take, drop, length-drop}
use lib.Seq.{take_all, drop-drop}
use lib.Dec.{eqb}
use Rattle.std.specs.List.{position_or_len}
use Rattle.std.proofs.lemmas.Grind.{common_steps}
use Rattle.std.proofs.lemmas.List.Recursion.{is_position_or_len}
use Rattle.input_lines.specs.Lines.{longer, lines_of, before_newline, line_end}

-- the newlines looked for are never past the end
pub before_within : (s : List ℕ) → before_newline s ≤ length s
unfolding before_newline
before_within [] = omega arith
before_within (c ∷ s) = go (eqb c 10) (before_within s)
  where
    go : (b : Bool) → before_newline s ≤ length s → (if b then 0 else suc (before_newline s)) ≤ suc (length s)
    go true h = omega arith
    go false h = omega arith

-- they are where the first newline is, or all
before_position : (s : List ℕ) → before_newline s ≡ position_or_len (λ c. eqb c 10) s
unfolding before_newline
before_position s = is_position_or_len before_newline (λ c. eqb c 10) refl (λ c t. step (eqb c 10) (before_newline t)) s
  where
    step : (b : Bool) (n : ℕ) → (if b then 0 else suc n) ≡ cond b 0 (1 + n)
    step true n = refl
    step false n = omega arith

module _ (input : List ℕ) (from : ℕ) where
  -- The place found in the rest, or its end.
  pub found_at : (rest : List ℕ) (place : Option ℕ) → from ≤ length input → rest ≡ take (length input - from) (drop from input)
      → place ≡ cond (ltb (position_or_len (λ c. eqb c 10) rest) (length rest)) (Some (position_or_len (λ c. eqb c 10) rest)) None
      → from + unwrap_or place (length rest) ≡ line_end input from
  unfolding line_end
  found_at rest place h e p =
      let l = length-drop from input in
      let all : rest ≡ drop from input = e ∙ take_all (length input - from) (drop from input) (omega arith) in
      let size : length rest ≡ length (drop from input) = ap length all in
      let w = before_within rest in
      let b = before_position rest in
      let d : before_newline rest ≡ before_newline (drop from input) = ap before_newline all in
      let u : unwrap_or place (length rest) ≡ position_or_len (λ c. eqb c 10) rest = grind (arith, common_steps) in
      omega arith

-- ---- the lines of an input

-- the first line, and the lines behind its newline
abbrev pub Split : List ℕ → Type 0
Split s = lines_of s ≡ take (before_newline s) s ∷ lines_of (drop (suc (before_newline s)) s)

lines_first : (c : ℕ) (s : List ℕ) → Split (c ∷ s)
unfolding lines_of before_newline
lines_first c [] = go (eqb c 10)
  where
    go : (b : Bool) → (if b then [] ∷ [] else (c ∷ []) ∷ []) ≡ take (if b then 0 else 1) (c ∷ []) ∷ lines_of (drop (suc (if b then 0 else 1)) (c ∷ []))
    go true = refl
    go false = refl
lines_first c (d ∷ s) = go (eqb c 10) (lines_first d s)
  where
    go : (b : Bool) → Split (d ∷ s) → (if b then [] ∷ lines_of (d ∷ s) else longer c (lines_of (d ∷ s)))
        ≡ take (if b then 0 else suc (before_newline (d ∷ s))) (c ∷ d ∷ s) ∷ lines_of (drop (suc (if b then 0 else suc (before_newline (d ∷ s)))) (c ∷ d ∷ s))
    go true h = refl
    go false h = ap (longer c) h

pub lines_some : (s : List ℕ) → 0 < length s → Split s
lines_some [] h = absurd (omega arith)
lines_some (c ∷ s) h = lines_first c s

pub lines_from : (input : List ℕ) (from : ℕ) → from < length input
    → lines_of (drop from input) ≡ take (line_end input from - from) (drop from input) ∷ lines_of (drop (line_end input from + 1) input)
unfolding line_end
lines_from input from h =
    let n : ℕ = before_newline (drop from input) in
    let l = length-drop from input in
    let w = before_within (drop from input) in
    let size : n ≡ min (from + n) (length input) - from = omega arith in
    let next : from + suc n ≡ min (from + n) (length input) + 1 = omega arith in
    lines_some (drop from input) (omega arith)
    ∙ ap (λ (k : ℕ). take k (drop from input) ∷ lines_of (drop (suc n) (drop from input))) size
    ∙ ap (λ (t : List ℕ). take (min (from + n) (length input) - from) (drop from input) ∷ lines_of t) (drop-drop (suc n) from input ∙ ap (λ (k : ℕ). drop k input) next)
