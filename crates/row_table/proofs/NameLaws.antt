-- What the functions of `names.rt` look at: parts that cut no character, and zones.
use mathlib.Core.Path.{◌≡◌, sym, ◌∙◌}
use mathlib.Core.Bool.{true, false, ◌&&◌, and-false, false≢true}
use mathlib.Core.List.{List}
use mathlib.Core.Logic.{inl, inr}
use Prim.Native.Nat.{ℕ, ◌+◌, ◌≤◌}
use native.Mathlib.Omega.{arith}
use lib.ListN.{length, get_or}
use lib.Dec.{T, leb}
use borrow.Author.Tests.{le-leb, lt-leb}
use Rattle.std.specs.Str.{IsUtf8, IsCharBoundary}
use Rattle.std.proofs.lemmas.Bool.{and_parts, cases_lt, false_from_ne_true}
use Rattle.tokenizer.specs.Utf8.{is_utf8}
use Rattle.tokenizer.proofs.Basics.{of_true}
use Rattle.tokenizer.proofs.RustUtf8.{test_yes}
use Rattle.row_table.specs.Internal.Check.{boundary, part_fits}
use Rattle.row_table.proofs.Boundary.{boundary-low, boundary-high, boundary-inside, boundary_end, part-utf8}

-- ---- places between characters

module _ (text : List ℕ) (good : IsUtf8 text) where
  good_text : T (is_utf8 text)
  good_text = of_true _ (test_yes text good)

  -- std's places are the automaton's
  boundary_yes : (at : ℕ) → IsCharBoundary text at → boundary text at ≡ true
  boundary_yes at h =
      elim (cases_lt at (length text)) [
        | inl l ↦ elim (cases_lt (get_or text at 0) 128) [
          | inl b ↦ boundary-low text good_text at l b
          | inr b ↦ boundary-high text good_text at l (h.1 l b)
        ]
        | inr l ↦ boundary_end text good_text at l
      ]

  yes_boundary : (at : ℕ) → at ≤ length text → boundary text at ≡ true → IsCharBoundary text at
  yes_boundary at h e = (
    h,
    λ l b. elim (cases_lt (get_or text at 0) 192) [
      | inl k ↦ absurd (false≢true (sym (boundary-inside text good_text at l b k) ∙ e))
      | inr k ↦ k
    ],
  )

  module _ (start size : ℕ) where
    pub part_empty : size ≡ 0 → part_fits text start size ≡ false
    unfolding part_fits
    part_empty e = rw e

    part_is : 1 ≤ size → start + size ≤ length text → part_fits text start size ≡ (boundary text start && boundary text (start + size))
    unfolding part_fits
    part_is l h = rw (le-leb 1 size l, le-leb (start + size) (length text) h) (part-utf8 text good_text start size l h)

    pub part_yes : 1 ≤ size → IsCharBoundary text start → IsCharBoundary text (start + size) → part_fits text start size ≡ true
    part_yes l p q = part_is l q.0 ∙ rw (boundary_yes start p, boundary_yes (start + size) q)

    pub part_no : 1 ≤ size → (IsCharBoundary text start → IsCharBoundary text (start + size) → ⊥) → part_fits text start size ≡ false
    part_no l n =
        elim (cases_lt (length text) (start + size)) [
          | inl f ↦ unfold part_fits in rw (lt-leb (start + size) (length text) f, and-false (leb 1 size))
          | inr h ↦ part_is l h ∙ false_from_ne_true _ (λ e. let w = and_parts (boundary text start) (boundary text (start + size)) e in n (yes_boundary start (omega arith) w.0) (yes_boundary (start + size) h w.1))
        ]

-- what `part_fits` uses
pub ruleset parts = (part_empty, part_yes, part_no)
