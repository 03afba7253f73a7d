-- The answer, and what the lent rows and the lent text hold, case by case.
--   refused-answer, refused-rows, refused-bytes   17, 25 and 29
--   full-answer, full-rows, full-bytes            28
--   taken-answer, taken-rows, taken-bytes         what stays has room, and is packed
use mathlib.Core.Path.{◌≡◌, sym, ap, ◌∙◌}
use mathlib.Core.Bool.{true, false}
use mathlib.Core.List.{List}
use Prim.Native.Nat.{ℕ, ◌-◌}
use lib.ListN.{length}
use Rattle.std.specs.Result.{IsErrAnd}
use Rattle.std.specs.declared.result.Result.{Result}
use Rattle.tokenizer.specs.Answer.{done, refuse, answer_of}
use Rattle.tokenizer.proofs.Answered.{handed_on}
use Rattle.datatype.specs.Tree.{Label}
use Rattle.packing.specs.Packed.{packed_size, packed_rows, packed_bytes, size_fits}
use Rattle.packing.specs.Packer.{with_words, with_bytes, written, put_row, set_parents, trees_written}
use Rattle.packing.specs.declared.Packed.{Packed}
use Rattle.packing.specs.declared.packer.Packer.{Packer}
use Rattle.packing.proofs.PackerRuns.{first_fits, first_rows, first_text, first_size}
use Rattle.column_out.specs.declared.NotTaken.{NotTaken}
use Rattle.column_out.specs.declared.fields.Kept.{Kept}
use Rattle.column_out.specs.ColumnOut.{tree_left, column_out, column_out_answer, column_out_rows, column_out_bytes, number_of}
use Rattle.column_out.specs.Internal.Stretch.{label_at, put_stretch}
use Rattle.column_out.specs.Internal.Steps.{rows_in, Stays}

module _ (text names table : List ℕ) (n : ℕ) (rows bytes : List ℕ) where
  module _ (e : NotTaken) (h : refuse (number_of e) ≡ tree_left text names table n) where
    pub refused-answer : (r : Result Packed NotTaken) → IsErrAnd r (λ y. y ≡ e) → answer_of number_of r ≡ column_out_answer text names table n rows bytes
    unfolding column_out_answer column_out
    refused-answer r k = handed_on number_of r e k ∙ rw (← h)

    pub refused-rows : rows ≡ column_out_rows text names table n rows bytes
    unfolding column_out_rows column_out
    refused-rows = rw (← h)

    pub refused-bytes : bytes ≡ column_out_bytes text names table n rows bytes
    unfolding column_out_bytes column_out
    refused-bytes = rw (← h)

  module _ (k : Kept) (s : Stays text names table n k) where
    same-fit : size_fits (packed_size s.left) (length rows) (length bytes) ≡ size_fits k.packed (length rows) (length bytes)
    same-fit = ap (λ (p : Packed). size_fits p (length rows) (length bytes)) (sym s.size)

    module _ (f : size_fits k.packed (length rows) (length bytes) ≡ false) where
      pub full-answer : refuse 28 ≡ column_out_answer text names table n rows bytes
      unfolding column_out_answer column_out
      full-answer = rw (s.is, same-fit, f)

      pub full-rows : rows ≡ column_out_rows text names table n rows bytes
      unfolding column_out_rows column_out
      full-rows = rw (s.is, same-fit, f)

      pub full-bytes : bytes ≡ column_out_bytes text names table n rows bytes
      unfolding column_out_bytes column_out
      full-bytes = rw (s.is, same-fit, f)

    module _ (f : size_fits k.packed (length rows) (length bytes) ≡ true) (p : Packer) (r : p.rows.now ≡ rows) (b : p.text.now ≡ bytes) (no-rows : p.packed.rows ≡ 0) (no-bytes : p.packed.bytes ≡ 0) where
      fits : size_fits (packed_size s.left) (length p.rows.now) (length p.text.now) ≡ true
      fits = rw (r, b) (same-fit ∙ f)

      -- the root, the rows before the field and those behind it, and then the parents
      module _ (root : Label) (said : root ≡ label_at text names table 0) (p₁ p₂ p₃ q : Packer) (e₁ : p₁ ≡ put_row p root k.packed.rows) (e₂ : p₂ ≡ put_stretch text names table p₁ 1 (k.first - 1))
          (e₃ : p₃ ≡ put_stretch text names table p₂ k.end (rows_in table - k.end)) (e : q ≡ set_parents p₃) where
        whole : q ≡ set_parents (trees_written p s.left)
        whole =
            e
            ∙ ap set_parents (e₃
            ∙ ap (λ (x : Packer). put_stretch text names table x k.end (rows_in table - k.end)) (e₂ ∙ ap (λ (x : Packer). put_stretch text names table x 1 (k.first - 1)) (e₁ ∙ ap (λ (l : Label). put_row p l k.packed.rows) said))
            ∙ s.put p (first_fits s.left p no-rows no-bytes fits))

        pub taken-answer : done q.packed ≡ column_out_answer text names table n rows bytes
        unfolding column_out_answer column_out
        taken-answer = rw (s.is, same-fit, f) (ap done (ap (λ (x : Packer). x.packed) whole ∙ first_size s.left p no-rows no-bytes))

        pub same-lent-rows : q.rows.ghost_name ≡ p.rows.ghost_name
        unfolding set_parents trees_written written with_bytes with_words
        same-lent-rows = ap (λ (x : Packer). x.rows.ghost_name) whole

        pub same-lent-text : q.text.ghost_name ≡ p.text.ghost_name
        unfolding set_parents trees_written written with_bytes with_words
        same-lent-text = ap (λ (x : Packer). x.text.ghost_name) whole

        pub taken-rows : (after : List ℕ) → after ≡ q.rows.now → after ≡ column_out_rows text names table n rows bytes
        unfolding column_out_rows column_out
        taken-rows after a = a ∙ rw (s.is, same-fit, f) (ap (λ (x : Packer). x.rows.now) whole ∙ first_rows s.left p no-rows no-bytes fits ∙ ap (packed_rows s.left) r)

        pub taken-bytes : (after : List ℕ) → after ≡ q.text.now → after ≡ column_out_bytes text names table n rows bytes
        unfolding column_out_bytes column_out
        taken-bytes after a = a ∙ rw (s.is, same-fit, f) (ap (λ (x : Packer). x.text.now) whole ∙ first_text s.left p no-rows no-bytes fits ∙ ap (packed_bytes s.left) b)
