-- What was read from an image: a sound tree, of that image and no other, equal to every tree that has it.
use Rattle.std.specs.Prelude.{if◌then◌else◌}
use mathlib.Core.Path.{◌≡◌, refl, sym, ap, subst, ◌∙◌}
use mathlib.Core.Bool.{Bool, true, false}
use mathlib.Core.List.{List, [], ◌∷◌, ◌++◌}
use Prim.Native.Nat.{ℕ, ◌*◌, ◌<◌, min}
use native.Mathlib.Omega.{arith}
use lib.ListN.{length, take, get_or}
use lib.Dec.{T}
use Rattle.std.specs.Result.{IfOk, is_err}
use Rattle.std.specs.declared.result.Result.{Result}
use Rattle.std.specs.declared.result.Result.TheVariants.{Ok, Err}
use Rattle.tokenizer.specs.Text.{is_empty}
use Rattle.tokenizer.specs.Answer.{Out, refused, done, refuse, ◌>>=◌}
use Rattle.datatype.specs.Tree.{Forest, ∅, node, Label, name_list}
use Rattle.datatype.specs.Table.{table_of, tree_of, rows_lent}
use Rattle.row_table.specs.Sound.{is_sound}
use Rattle.packing.specs.declared.Packed.{Packed}
use Rattle.packing.specs.Packed.{packed_text, packed, packed_size, size_fits}
use Rattle.packing.proofs.PackedLaws.{packed-tree}
use Rattle.packing.proofs.LentLaws.{packed-rows-first, packed-bytes-first}
use Rattle.archive.specs.declared.NotRead.{NotRead}
use Rattle.archive.specs.Archive.{record_of, image_of, Room, Read, record_at, records_at, tree_at, unarchived}
use Rattle.archive.specs.Laws.{IsRead, ReadsWithMore}
use Rattle.archive.specs.Internal.Fills.{Packs}
use Rattle.archive.proofs.Holds.{Holds, holds_then, holds_done, holds_both}
use Rattle.archive.proofs.Chain.{Apart, apart, below-short}
use Rattle.archive.proofs.OneImage.{Bytes, bytes-all, Written, record-again, records-again}
use Rattle.archive.proofs.ReadBack.{read-image, same-equal}
use Rattle.archive.proofs.MoreRoom.{unarchived-more}

-- ---- the image of the tree that is read

tree-again : (image : List ℕ) (room : Room) → Bytes image → Holds (λ (f : Forest Label). image_of f ≡ image) (tree_at image room)
unfolding tree_at image_of
tree-again image room b =
    holds_then (λ h. Written image h × Apart image room h) (λ (f : Forest Label). image_of f ≡ image) (record_at image room) _ (holds_both (Written image) (Apart image room) (record_at image room) (record-again image room b) (apart image room)) λ h w.
    holds_then (λ (t : Read). image_of t.trees ≡ h.below) (λ (f : Forest Label). image_of f ≡ image) (records_at (length image) h.below h.room) _ (records-again (length image) h.below h.room w.0.below (omega (arith, below-short image room h w.1))) λ kids k.
    go h.behind h.label kids.trees (ap (λ (s : List ℕ). record_of h.label s ++ h.behind) k ∙ w.0.same)
  where
    go : (behind : List ℕ) (l : Label) (kids : Forest Label) → record_of l (image_of kids) ++ behind ≡ image → Holds (λ (f : Forest Label). image_of f ≡ image) (if is_empty behind then done (node l kids ∅) else refuse 30)
    go [] l kids e = e
    go (c ∷ s) l kids e = tt

-- ---- a tree that was read

module _ (image : List ℕ) (words bytes : ℕ) (f : Forest Label) (e : unarchived image words bytes ≡ done f) where
  abbrev room : Room
  room = record { rows = rows_lent words; bytes = min bytes 16384 }

  judged : (o : Out (Forest Label)) → (o >>= (λ f. if is_sound (packed_text f) name_list (table_of (packed f)) then done f else refuse 17)) ≡ done f → (o ≡ done f) × T (is_sound (packed_text f) name_list (table_of (packed f)))
  judged (refused r) i = absurd (let z : ◌≡◌ {A = Out (Forest Label)} (refused r) (done f) = i in cc)
  judged (done g) i = go (is_sound (packed_text g) name_list (table_of (packed g))) refl i
    where
      go : (b : Bool) → is_sound (packed_text g) name_list (table_of (packed g)) ≡ b → (if b then done g else refuse 17) ≡ done f → (done g ≡ done f) × T (is_sound (packed_text f) name_list (table_of (packed f)))
      go true s i = (i, let z : g ≡ f = cc in subst T (sym (sym (ap (λ (x : Forest Label). is_sound (packed_text x) name_list (table_of (packed x))) z) ∙ s)) tt)
      go false s i = absurd (let z : ◌≡◌ {A = Out (Forest Label)} (refuse 17) (done f) = i in cc)

  both : (tree_at image room ≡ done f) × T (is_sound (packed_text f) name_list (table_of (packed f)))
  unfolding unarchived
  both = judged (tree_at image room) e

  chosen : (b : Bool) (g : Forest Label) → (if b then done g else refuse 28) ≡ done f → g ≡ f
  chosen true g i = (let z : ◌≡◌ {A = Out (Forest Label)} (done g) (done f) = i in cc)
  chosen false g i = absurd (let z : ◌≡◌ {A = Out (Forest Label)} (refuse 28) (done f) = i in cc)

  is-read : Bytes image → IsRead image (packed_text f) (table_of (packed f))
  is-read b = record {
    sound = both.1;
    one-image = ap image_of (packed-tree name_list f) ∙ holds_done (λ (f : Forest Label). image_of f ≡ image) (tree_at image room) f (tree-again image room b) both.0;
    equal = λ text' names' table' s i.
        same-equal (packed_text f) name_list (table_of (packed f)) text' names' table' both.1 s
        (packed-tree name_list f
        ∙ sym (chosen (size_fits (packed_size (tree_of text' names' table')) words bytes) (tree_of text' names' table') (sym (read-image text' names' table' s words bytes) ∙ ap (λ (x : List ℕ). unarchived x words bytes) i ∙ e)));
  }

  reads-more : ReadsWithMore image words bytes
  reads-more words' bytes' h l = unarchived-more image words bytes words' bytes' h l f e ∙ sym e

-- ---- the code's answer

module _ (image rows text : List ℕ) (r : Result Packed NotRead) where
  pub none-read : (P : Packed → Type 0) → is_err r ≡ true → IfOk r P
  none-read P e = go r e
    where
      go : (r : Result Packed NotRead) → is_err r ≡ true → IfOk r P
      go (Ok p) e = absurd (let z : T false = subst T (sym e) tt in z)
      go (Err x) e = tt

  module _ (rows' text' : List ℕ) (p : Packs (unarchived image (length rows) (length text)) rows text r rows' text') where
    pub law-read : ((i : ℕ) → get_or image i 0 < 256) → IfOk r (λ size. IsRead image (take size.bytes text') (take (12 * size.rows) rows'))
    unfolding Packs
    law-read b = go r (unarchived image (length rows) (length text)) refl p
      where
        go : (r : Result Packed NotRead) (o : Out (Forest Label)) → unarchived image (length rows) (length text) ≡ o → Packs o rows text r rows' text' → IfOk r (λ size. IsRead image (take size.bytes text') (take (12 * size.rows) rows'))
        go (Err x) o i g = tt
        go (Ok size) (refused x) i g = absurd (let z : ◌≡◌ {A = Out Packed} (done size) (refused x) = g in cc)
        go (Ok size) (done f) i g =
            let z : size ≡ packed_size f = (let y : ◌≡◌ {A = Result Packed NotRead} (Ok size) (Ok (packed_size f)) = g.0 in cc) in
            let first-words : take (12 * size.rows) rows' ≡ table_of (packed f) = (λ j. take (12 * (z j).rows) (g.1.0 j)) ∙ packed-rows-first f rows in
            let first-bytes : take size.bytes text' ≡ packed_text f = (λ j. take (z j).bytes (g.1.1 j)) ∙ packed-bytes-first f text in
            subst (λ (s : List ℕ). IsRead image s (take (12 * size.rows) rows')) (sym first-bytes)
            (subst (λ (s : List ℕ). IsRead image (packed_text f) s) (sym first-words)
            (is-read image (length rows) (length text) f i (bytes-all image (λ i h. b i))))

    pub law-more : IfOk r (λ size. ReadsWithMore image (length rows) (length text))
    unfolding Packs
    law-more = go r (unarchived image (length rows) (length text)) refl p
      where
        go : (r : Result Packed NotRead) (o : Out (Forest Label)) → unarchived image (length rows) (length text) ≡ o → Packs o rows text r rows' text' → IfOk r (λ size. ReadsWithMore image (length rows) (length text))
        go (Err x) o i g = tt
        go (Ok size) (refused x) i g = absurd (let z : ◌≡◌ {A = Out Packed} (done size) (refused x) = g in cc)
        go (Ok size) (done f) i g = reads-more image (length rows) (length text) f i
