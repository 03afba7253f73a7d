-- The printed length, case by case; and what the printer knows from it.
use Rattle.std.specs.Prelude.{if◌then◌else◌}
use mathlib.Core.Path.{◌≡◌, refl, sym, ap, ◌∙◌}
use mathlib.Core.Bool.{Bool, true, false}
use mathlib.Core.Logic.{◌⊎◌, inl, inr}
use mathlib.Core.List.{List}
use Prim.Native.Nat.{ℕ}
use native.Mathlib.Omega.{arith}
use lib.ListN.{length}
use lib.Dec.{T}
use Rattle.tokenizer.specs.Answer.{Out, refused, done, refuse}
use Rattle.tokenizer.proofs.Basics.{of_true}
use Rattle.datatype.specs.Tree.{label_of, labels}
use Rattle.datatype.specs.Table.{tree_of}
use Rattle.row_table.specs.Sound.{bare, is_sound}
use Rattle.row_table.proofs.SoundTree.{SoundTree, sound_tree, sound-labels}
use Rattle.display_length.specs.declared.words.Spelling.{Spelling}
use Rattle.display_length.specs.Display.{display, display_length}
use Rattle.display_length.specs.PrintedLength.{quoted_latin, printed_length}
use Rattle.display_length.proofs.Length.{display_length_lem}

module _ (spelling : Spelling) (text names table : List ℕ) where
  pub printed-17 : is_sound text names table ≡ false → refuse 17 ≡ printed_length spelling text names table
  unfolding printed_length
  printed-17 e = rw e

  pub printed-18 : is_sound text names table ≡ true → (r : Bool) → r ≡ quoted_latin (tree_of text names table) → r ≡ false → refuse 18 ≡ printed_length spelling text names table
  unfolding printed_length
  printed-18 e r is f = rw (e, sym is ∙ f)

  pub printed-length : is_sound text names table ≡ true → (r : Bool) → r ≡ quoted_latin (tree_of text names table) → r ≡ true → (n : ℕ) → n ≡ display_length spelling (tree_of text names table)
      → done n ≡ printed_length spelling text names table
  unfolding printed_length
  printed-length e r is f n so = rw (e, sym is ∙ f, so)

  -- ---- for the printer

  -- the printed length of a sound tree is the length of its printed text
  pub sound-length : T (is_sound text names table) → display_length spelling (tree_of text names table) ≡ length (display spelling (tree_of text names table))
  sound-length t = go (sound_tree text names table t)
    where
      go : SoundTree text names table → display_length spelling (tree_of text names table) ≡ length (display spelling (tree_of text names table))
      go s = rw (sound-labels text names table s) (unfold labels in sym (display_length_lem spelling bare (label_of text names s.root) (labels text names s.kids) s.fits))

  -- what holds where a length is answered
  pub record Prints (n : ℕ) : Type 0 where
    pub sound : is_sound text names table ≡ true
    pub latin : quoted_latin (tree_of text names table) ≡ true
    pub is : n ≡ length (display spelling (tree_of text names table))

module _ (spelling : Spelling) (text names table : List ℕ) where
  -- both laws go by the two tests
  means : (sound latin : Bool) → is_sound text names table ≡ sound → quoted_latin (tree_of text names table) ≡ latin
      → printed_length spelling text names table ≡ (if sound then (if latin then done (display_length spelling (tree_of text names table)) else refuse 18) else refuse 17)
  unfolding printed_length
  means sound latin e f = rw (e, f)

  -- where a length is answered
  pub prints : (n : ℕ) → done n ≡ printed_length spelling text names table → Prints spelling text names table n
  prints n h = go (is_sound text names table) (quoted_latin (tree_of text names table)) refl refl
    where
      go : (sound latin : Bool) → is_sound text names table ≡ sound → quoted_latin (tree_of text names table) ≡ latin → Prints spelling text names table n
      go true true e f =
          let d : ◌≡◌ {A = Out ℕ} (done n) (done (display_length spelling (tree_of text names table))) = h ∙ means true true e f in
          let k : n ≡ display_length spelling (tree_of text names table) = cc in
          record { sound = e; latin = f; is = k ∙ sound-length spelling text names table (of_true _ e) }
      go true false e f =
          let d : ◌≡◌ {A = Out ℕ} (done n) (refuse 18) = h ∙ means true false e f in
          let z : ◌≡◌ {A = ℕ} 0 1 = cc in absurd (omega arith)
      go false latin e f =
          let d : ◌≡◌ {A = Out ℕ} (done n) (refuse 17) = h ∙ means false latin e f in
          let z : ◌≡◌ {A = ℕ} 0 1 = cc in absurd (omega arith)

  -- a refusal's number
  abbrev number : Out ℕ → ℕ
  number (refused r) = r.number
  number (done n) = 0

  -- where a refusal is answered
  pub refuses : (n : ℕ) → refuse n ≡ printed_length spelling text names table
      → ((n ≡ 17) × (is_sound text names table ≡ false)) ⊎ ((n ≡ 18) × (is_sound text names table ≡ true) × (quoted_latin (tree_of text names table) ≡ false))
  refuses n h = go (is_sound text names table) (quoted_latin (tree_of text names table)) refl refl
    where
      go : (sound latin : Bool) → is_sound text names table ≡ sound → quoted_latin (tree_of text names table) ≡ latin
          → ((n ≡ 17) × (is_sound text names table ≡ false)) ⊎ ((n ≡ 18) × (is_sound text names table ≡ true) × (quoted_latin (tree_of text names table) ≡ false))
      go true true e f =
          let d : ◌≡◌ {A = Out ℕ} (refuse n) (done (display_length spelling (tree_of text names table))) = h ∙ means true true e f in
          let z : ◌≡◌ {A = ℕ} 0 1 = cc in absurd (omega arith)
      go true false e f =
          let d : ◌≡◌ {A = Out ℕ} (refuse n) (refuse 18) = h ∙ means true false e f in
          inr (ap number d, e, f)
      go false latin e f =
          let d : ◌≡◌ {A = Out ℕ} (refuse n) (refuse 17) = h ∙ means false latin e f in
          inl (ap number d, e)

-- what the lengths of a tree use
pub ruleset unsound_steps = (printed-17)
