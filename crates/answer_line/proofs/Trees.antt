-- The answer to a text that was read: printing into the output behind the head, and what its levels say.
use Rattle.std.specs.Prelude.{if◌then◌else◌, Result, Ok, Err, None}
use mathlib.Core.Path.{◌≡◌, refl, sym, ap, ◌∙◌}
use mathlib.Core.Bool.{Bool, true, false}
use mathlib.Core.List.{List, [], ◌∷◌, ◌++◌, append_assoc, append-nil}
use Prim.Native.Nat.{ℕ, ◌+◌, ◌-◌, ◌/◌, min, ◌≤◌, ◌<◌}
use native.Mathlib.Omega.{arith}
use lib.ListN.{length, take, drop, length-append, length-drop, drop_of_length-le}
use lib.Seq.{take_all, drop_at, drop-append-add, drop-drop, length-take-le, take-append_seam}
use lib.Dec.{leb, leb→le}
use borrow.Rule.Slice.PartMut.{put_same}
use Rattle.tokenizer.specs.Answer.{Out, refused, done, refuse, number_of, answer_of}
use Rattle.tokenizer.specs.declared.refusal.Refusal.{Refusal}
use Rattle.tokenizer.proofs.Basics.{of_true}
use Rattle.datatype.specs.Tree.{depth}
use Rattle.datatype.specs.Table.{row_words, tree_of}
use Rattle.row_table.specs.Sound.{is_sound}
use Rattle.row_table.specs.declared.nodes.SoundTree.{SoundTree}
use Rattle.row_table.proofs.NodeLaws.{few_rows}
use Rattle.row_table.proofs.DepthLaws.{sound-flat}
use Rattle.display_length.specs.Display.{display}
use Rattle.display_length.specs.PrintedLength.{quoted_latin}
use Rattle.datatype_display.specs.Print.{default_spelling, print, length_of, print_answer, written, print_bytes}
use Rattle.answer_line.specs.Line.{no_line, answer_bytes}
use Rattle.answer_line.specs.Internal.Steps.{Answers, ok_head, HeadLength, Framed, tree_line}

-- ---- the printer's answer

-- Room for more than 16,384 bytes is as good as room for so many.
print_room : (text names table : List ℕ) (room : ℕ) → 16384 ≤ room → print default_spelling text names table room ≡ print default_spelling text names table 16384
unfolding print
print_room text names table room h =
    let e : min room 16384 ≡ min 16384 16384 = omega arith in
    ap (λ (m : ℕ). if is_sound text names table then (if quoted_latin (tree_of text names table) then (if leb (length (display default_spelling (tree_of text names table))) m then done (display default_spelling (tree_of text names table)) else refuse 19) else refuse 18) else refuse 17) e

-- A printed text is no longer than that.
short_of : (a b c : Bool) (s t : List ℕ) → (c ≡ true → length s ≤ 16384) → (if a then (if b then (if c then done s else refuse 19) else refuse 18) else refuse 17) ≡ done t → length t ≤ 16384
short_of true true true s t h e = let q : s ≡ t = cc in rw (sym q) (h refl)
short_of true true false s t h e = absurd (let z : ◌≡◌ {A = ℕ} 0 1 = cc in omega arith)
short_of true false c s t h e = absurd (let z : ◌≡◌ {A = ℕ} 0 1 = cc in omega arith)
short_of false b c s t h e = absurd (let z : ◌≡◌ {A = ℕ} 0 1 = cc in omega arith)

print_short : (text names table : List ℕ) (s : List ℕ) → print default_spelling text names table 16384 ≡ done s → length s ≤ 16384
unfolding print
print_short text names table s e =
    short_of (is_sound text names table) (quoted_latin (tree_of text names table)) (leb (length (display default_spelling (tree_of text names table))) 16384) (display default_spelling (tree_of text names table)) s
    (λ q. leb→le (length (display default_spelling (tree_of text names table))) 16384 (of_true _ q)) e

-- the bytes of a text that is printed; 0 where it is refused
abbrev pub text_size : Out (List ℕ) → ℕ
text_size (refused r) = 0
text_size (done s) = length s

few : (o : Out (List ℕ)) → ((s : List ℕ) → o ≡ done s → length s ≤ 16384) → text_size o ≤ 16384
few (refused r) h = omega arith
few (done s) h = h s refl

-- What is answered and written, in a part of the output behind a head.
module _ (text names table lent : List ℕ) (room : 16384 ≤ length lent) where
  pub print_enough : (print_answer default_spelling text names table lent ≡ length_of (print default_spelling text names table 16384)) × (text_size (print default_spelling text names table 16384) ≤ 16384)
  unfolding print_answer
  print_enough = (ap length_of (print_room text names table (length lent) room), few (print default_spelling text names table 16384) (print_short text names table))

  bytes_enough : print_bytes default_spelling text names table lent ≡ written lent (print default_spelling text names table 16384)
  unfolding print_bytes
  bytes_enough = ap (written lent) (print_room text names table (length lent) room)

-- ---- the output behind a head

-- A part that begins behind a head of so many bytes is lent, and is put back with a text at its start.
module _ (out : List ℕ) (size h : ℕ) where
  -- the part lent
  abbrev pub lent_part : List ℕ
  lent_part = take (size - h) (drop h out)

  -- the output with the part back
  abbrev pub back_in : List ℕ → List ℕ
  back_in part = take h out ++ (part ++ drop (size - h) (drop h out))

  module _ (sized : length out ≡ size) (fits : h ≤ size) where
    lent-all : lent_part ≡ drop h out
    lent-all = take_all (size - h) (drop h out) (rw (length-drop h out) (omega arith))

    pub lent_length : length lent_part ≡ size - h
    lent_length = ap (λ (l : List ℕ). length l) lent-all ∙ length-drop h out ∙ ap (λ (n : ℕ). n - h) sized

    module _ (s : List ℕ) (room : h + length s < size) where
      -- the text, and past it what the part held, in its place
      back-text : back_in (s ++ drop (length s) lent_part) ≡ take h out ++ (s ++ drop (h + length s) out)
      back-text =
          let none : drop (size - h) (drop h out) ≡ [] = drop_of_length-le (drop h out) {i = size - h} (rw (length-drop h out) (omega arith)) in
          let rest : drop (length s) lent_part ≡ drop (h + length s) out = ap (λ (l : List ℕ). drop (length s) l) lent-all ∙ drop-drop (length s) h out in
          ap (λ (l : List ℕ). take h out ++ ((s ++ drop (length s) lent_part) ++ l)) none
          ∙ ap (λ (l : List ℕ). take h out ++ l) (append-nil (s ++ drop (length s) lent_part))
          ∙ ap (λ (l : List ℕ). take h out ++ (s ++ l)) rest

      back_start : drop h (back_in (s ++ drop (length s) lent_part)) ≡ s ++ drop (h + length s) out
      back_start = ap (λ (l : List ℕ). drop h l) back-text ∙ drop_at (take h out) (s ++ drop (h + length s) out) h (length-take-le h out (omega arith))

      -- where the text stands
      pub back_at : take (length s) (drop h (back_in (s ++ drop (length s) lent_part))) ≡ s
      back_at = ap (λ (l : List ℕ). take (length s) l) back_start ∙ take-append_seam s (drop (h + length s) out)

      -- what lies past it and one byte more
      pub back-past : drop (h + length s + 1) (back_in (s ++ drop (length s) lent_part)) ≡ drop (h + length s + 1) out
      back-past =
          let e : h + (length s + 1) ≡ h + length s + 1 = omega arith in
          ap (λ (k : ℕ). drop k (back_in (s ++ drop (length s) lent_part))) (sym e)
          ∙ sym (drop-drop (length s + 1) h (back_in (s ++ drop (length s) lent_part)))
          ∙ ap (λ (l : List ℕ). drop (length s + 1) l) back_start
          ∙ drop-append-add s (drop (h + length s) out) 1
          ∙ drop-drop 1 (h + length s) out

-- ---- a text printed behind its head

-- the head, the text and the newline, put together
framed_answers : (head s back out : List ℕ) (r : ℕ) (after : List ℕ) → Framed head (length s) back r after → take (length s) (drop (length head) back) ≡ s
    → drop (length head + length s + 1) back ≡ drop (length head + length s + 1) out → Answers (head ++ (s ++ (10 ∷ []))) out r after
framed_answers head s back out r after f at past =
    let e : length (head ++ (s ++ (10 ∷ []))) ≡ length head + (length s + 1) = length-append head (s ++ (10 ∷ [])) ∙ ap (λ (k : ℕ). length head + k) (length-append s (10 ∷ [])) in
    let p = f.place in
    record {
      counted = omega arith;
      stored =
          f.stored
          ∙ ap (λ (l : List ℕ). head ++ (l ++ (10 ∷ drop (length head + length s + 1) back))) at
          ∙ ap (λ (l : List ℕ). head ++ (s ++ (10 ∷ l))) past
          ∙ ap (λ (k : ℕ). head ++ (s ++ (10 ∷ drop k out))) (let q : length head + length s + 1 ≡ length (head ++ (s ++ (10 ∷ []))) = omega arith in q)
          ∙ ap (λ (l : List ℕ). head ++ l) (sym (append_assoc s (10 ∷ []) (drop (length (head ++ (s ++ (10 ∷ [])))) out)))
          ∙ sym (append_assoc head (s ++ (10 ∷ [])) (drop (length (head ++ (s ++ (10 ∷ [])))) out));
    }

module _ (text names table out : List ℕ) (size rows levels h : ℕ) (head : HeadLength rows levels h) (sized : length out ≡ size) (room : answer_bytes ≤ size)
    (lent part back : List ℕ) (is_lent : lent ≡ lent_part out size h) (is_back : back ≡ back_in out size h part) where
  lent_room : 16384 ≤ length lent
  lent_room =
      let a = head.short in
      let e : length lent ≡ size - h = ap (λ (l : List ℕ). length l) is_lent ∙ lent_length out size h sized (omega arith) in
      omega arith

  module _ (p : Result ℕ Refusal) (e : answer_of number_of p ≡ print_answer default_spelling text names table lent) (o : part ≡ print_bytes default_spelling text names table lent) where
    answers : answer_of number_of p ≡ length_of (print default_spelling text names table 16384)
    answers = e ∙ (print_enough text names table lent lent_room).0

    writes : part ≡ written lent (print default_spelling text names table 16384)
    writes = o ∙ bytes_enough text names table lent lent_room

    -- a refused print has left the output as it was
    pub tree-refused : (d : Refusal) → p ≡ Err d → (r : ℕ) (after : List ℕ) → Answers (no_line (record { number = number_of d; place = None })) back r after
        → Answers (tree_line rows levels (print default_spelling text names table 16384)) out r after
    unfolding tree_line
    tree-refused d q r after a = go (print default_spelling text names table 16384) (sym (ap (answer_of number_of) q) ∙ answers) writes
      where
        go : (t : Out (List ℕ)) → refuse (number_of d) ≡ length_of t → part ≡ written lent t → Answers (tree_line rows levels t) out r after
        go (refused x) i w =
            let number : x ≡ record { number = number_of d; place = None } = cc in
            let whole : back ≡ out = is_back ∙ ap (back_in out size h) (w ∙ is_lent) ∙ put_same h (size - h) out in
            rw (number, sym whole) a
        go (done s) i w = absurd (let z : ◌≡◌ {A = ℕ} 0 1 = cc in omega arith)

    -- a text that was printed stands behind its head
    pub tree-printed : (n : ℕ) → p ≡ Ok n → (r : ℕ) (after : List ℕ) → Framed (ok_head rows levels) n back r after
        → Answers (tree_line rows levels (print default_spelling text names table 16384)) out r after
    unfolding tree_line
    tree-printed n q r after f = go (print default_spelling text names table 16384) (sym (ap (answer_of number_of) q) ∙ answers) writes (print_enough text names table lent lent_room).1
      where
        go : (t : Out (List ℕ)) → done n ≡ length_of t → part ≡ written lent t → text_size t ≤ 16384 → Answers (tree_line rows levels t) out r after
        go (refused x) i w few = absurd (let z : ◌≡◌ {A = ℕ} 0 1 = cc in omega arith)
        go (done s) i w few =
            let size_is : n ≡ length s = cc in
            let a = head.is in
            let b = head.short in
            let stands : back ≡ back_in out size h (s ++ drop (length s) (lent_part out size h)) = is_back ∙ ap (back_in out size h) (w ∙ ap (λ (l : List ℕ). s ++ drop (length s) l) is_lent) in
            let at : take (length s) (drop h back) ≡ s = ap (λ (l : List ℕ). take (length s) (drop h l)) stands ∙ back_at out size h sized (omega arith) s (omega arith) in
            let past : drop (h + length s + 1) back ≡ drop (h + length s + 1) out = ap (λ (l : List ℕ). drop (h + length s + 1) l) stands ∙ back-past out size h sized (omega arith) s (omega arith) in
            framed_answers (ok_head rows levels) s back out r after (rw size_is at f) (rw a at at) (rw a at past)

-- ---- the head

-- a sound tree has at most 1,024 rows and 64 levels
module _ (w : SoundTree) where
  pub rows-few : length w.tree.rows.now / row_words ≤ 1024
  rows-few = let f = few_rows w.tree.text.now w.tree.names.now w.tree.rows.now w.sound in omega arith

  pub levels-few : depth (tree_of w.tree.text.now w.tree.names.now w.tree.rows.now) ≤ 64
  levels-few = sound-flat w.tree.text.now w.tree.names.now w.tree.rows.now w.sound

-- what the answer to a tree uses
pub ruleset head_fits = (rows-few, levels-few)
