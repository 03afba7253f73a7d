-- The printer's answer and its buffer, case by case.
use mathlib.Core.Path.{◌≡◌, ap, ◌∙◌}
use mathlib.Core.Bool.{true, false, false≢true}
use mathlib.Core.Logic.{◌⊎◌, inl, inr}
use mathlib.Core.List.{List, ◌++◌}
use Prim.Native.Nat.{ℕ, ◌+◌, ◌≤◌, ◌<◌, min}
use native.Mathlib.Omega.{arith}
use lib.ListN.{length, drop}
use lib.Seq.{sets, sets-eq}
use lib.Dec.{T, leb}
use borrow.Author.Tests.{le-leb, lt-leb}
use Rattle.tokenizer.specs.Text.{all}
use Rattle.datatype.specs.Table.{tree_of}
use Rattle.row_table.specs.Sound.{is_sound}
use Rattle.display_length.specs.declared.words.Spelling.{Spelling}
use Rattle.display_length.specs.Display.{display}
use Rattle.display_length.specs.PrintedLength.{quoted_latin, printed_length}
use Rattle.display_length.proofs.PrintedLaws.{Prints as Measured, prints, refuses}
use Rattle.datatype_display.specs.Print.{print, print_answer, print_bytes}
use Rattle.datatype_display.specs.Internal.Steps.{writer_of, Fits, Wrote, text_in}
use Rattle.datatype_display.specs.declared.write.Printer.{Printer}
use Rattle.writer.specs.declared.Writer.{Writer}
use Rattle.writer.proofs.Written.{written_sets}
use Rattle.std.specs.Result.{IsErrAnd}
use Rattle.std.specs.declared.result.Result.{Result}
use Rattle.tokenizer.specs.declared.refusal.Refusal as R
use Rattle.tokenizer.specs.Answer.{Out, done, refuse, number_of, answer_of}
use Rattle.tokenizer.proofs.Answered.{handed_on}
use Rattle.display_length.proofs.TreeLaws.{root-levels}
use Rattle.display_length.specs.declared.printed.Printed.{Printed}
use Rattle.display_length.specs.declared.printed.PrintedNode.{PrintedNode}
use Rattle.display_length.specs.Internal.Steps.{is_clean}
use Rattle.datatype_display.proofs.Children.{root-text}

module _ (spelling : Spelling) (text names table before : List ℕ) where
  abbrev printed : List ℕ
  printed = display spelling (tree_of text names table)

  -- both equations of the printer
  abbrev Prints : Out ℕ → List ℕ → Type 0
  Prints answer after = (answer ≡ print_answer spelling text names table before) × (after ≡ print_bytes spelling text names table before)

  -- 17 and 18, as the printed length has them
  prints-refused : (n : ℕ) → refuse n ≡ printed_length spelling text names table → Prints (refuse n) before
  unfolding print print_answer print_bytes
  prints-refused n h = go (refuses spelling text names table n h)
    where
      go : ((n ≡ 17) × (is_sound text names table ≡ false)) ⊎ ((n ≡ 18) × (is_sound text names table ≡ true) × (quoted_latin (tree_of text names table) ≡ false)) → Prints (refuse n) before
      go (inl e) = (rw (e.0, e.1), rw e.1)
      go (inr e) = (rw (e.0, e.1, e.2), rw (e.1, e.2))

  pub refused-answer : (e : R.Refusal) → refuse (number_of e) ≡ printed_length spelling text names table → (r : Result ℕ R.Refusal) → IsErrAnd r (λ y. y ≡ e) → answer_of number_of r ≡ print_answer spelling text names table before
  refused-answer e h r k = handed_on number_of r e k ∙ (prints-refused (number_of e) h).0

  pub refused-bytes : (n : ℕ) → refuse n ≡ printed_length spelling text names table → before ≡ print_bytes spelling text names table before
  refused-bytes n h = (prints-refused n h).1

  module _ (n : ℕ) (h : done n ≡ printed_length spelling text names table) where
    measured : Measured spelling text names table n
    measured = prints spelling text names table n h

    too_long : leb (length printed) (min (length before) 16384) ≡ false → Prints (refuse 19) before
    unfolding print print_answer print_bytes
    too_long l = (rw (measured.sound, measured.latin, l), rw (measured.sound, measured.latin, l))

    prints-19 : min (length before) 16384 < n → Prints (refuse 19) before
    prints-19 l = let k = measured.is in too_long (lt-leb (length printed) (min (length before) 16384) (omega arith))

    module _ (room : ℕ) (is : room ≡ min (length before) 16384) where
      module _ (l : room < n) where
        pub long-answer : refuse 19 ≡ print_answer spelling text names table before
        long-answer = (prints-19 (omega arith)).0

        pub long-bytes : before ≡ print_bytes spelling text names table before
        long-bytes = (prints-19 (omega arith)).1

      fits : n ≤ room → leb (length printed) (min (length before) 16384) ≡ true
      fits l = let k = measured.is in le-leb (length printed) (min (length before) 16384) (omega arith)

      pub printed-answer : n ≤ room → done n ≡ print_answer spelling text names table before
      unfolding print print_answer
      printed-answer l = let k = measured.is in rw (measured.sound, measured.latin, fits l, k)

pub not_clean : (s : List ℕ) → false ≡ true → T (all is_clean s)
not_clean s e = absurd (false≢true e)

-- the text of a sound tree that is known to fit
module _ (t : Printed) (root : PrintedNode) (of : root.of.now ≡ t) (first : root.at ≡ 0) (before : List ℕ) (n : ℕ) (h : done n ≡ printed_length t.spelling t.whole.tree.text.now t.whole.tree.names.now t.whole.tree.rows.now)
    (room : ℕ) (is : room ≡ min (length before) 16384) (l : n ≤ room) (few : length before ≤ 18446744073709551615) (p : Printer) (start : p.at ≡ 0) (lent : p.out.now ≡ before) where
  abbrev m : Measured t.spelling t.whole.tree.text.now t.whole.tree.names.now t.whole.tree.rows.now n
  m = measured t.spelling t.whole.tree.text.now t.whole.tree.names.now t.whole.tree.rows.now before n h

  abbrev text : List ℕ
  text = printed t.spelling t.whole.tree.text.now t.whole.tree.names.now t.whole.tree.rows.now before

  pub root-fits : Fits p (text_in root)
  root-fits =
      let k = m.is in
      let e = ap (λ (s : List ℕ). length s) (root-text root first t of) in
      let o = ap (λ (s : List ℕ). length s) lent in
      record { room = omega arith; few = omega arith }

  pub printed-bytes : (q : Printer) → Wrote p (text_in root) q → (after : List ℕ) → after ≡ q.out.now → after ≡ print_bytes t.spelling t.whole.tree.text.now t.whole.tree.names.now t.whole.tree.rows.now before
  unfolding print print_bytes
  printed-bytes q c after ends =
      let k = m.is in
      let z : 0 + length text ≡ length text = omega arith in
      let stored : after ≡ sets before 0 (text_in root) = ends ∙ ap (λ (o : Writer). o.out.now) c.is ∙ written_sets (writer_of p) (text_in root) (let f = root-fits in let a = f.room in let b = f.few in omega arith) ∙ rw (start, lent) in
      rw (m.sound, m.latin, fits t.spelling t.whole.tree.text.now t.whole.tree.names.now t.whole.tree.rows.now before n h room is l)
      (stored ∙ ap (λ (s : List ℕ). sets before 0 s) (root-text root first t of) ∙ sets-eq text before 0 (omega arith) ∙ ap (λ (i : ℕ). text ++ drop i before) z)

-- a tree that is not sound
pub unsound-answer : (spelling : Spelling) (text names table before : List ℕ) → is_sound text names table ≡ false → refuse 17 ≡ print_answer spelling text names table before
unfolding print print_answer
unsound-answer spelling text names table before e = rw e

pub unsound-bytes : (spelling : Spelling) (text names table before : List ℕ) → is_sound text names table ≡ false → before ≡ print_bytes spelling text names table before
unfolding print print_bytes
unsound-bytes spelling text names table before e = rw e

-- what `print_data_type_with` and `print_sound_tree` use
pub ruleset unsound_steps = (unsound-answer, unsound-bytes)

pub ruleset print_steps = (refused-answer, refused-bytes, long-answer, long-bytes, printed-answer, not_clean, root-levels)
