-- Reading behind what is left, writing what is to be printed, and the line about a failure.
use Rattle.std.specs.Prelude.{Option, Result, Ok, Err, OnOk, MatchResult}
use Rattle.std.specs.Io.KnownBytes.{Appends, Keeps, Consumes, IsAtEnd, ReadConsumes}
use Rattle.std.specs.Io.{ReadsAtMost}
use Rattle.std.specs.Result.{IsErrAnd}
use Rattle.std.specs.List as std
use Rattle.std.proofs.KnownBytes.{Appends-nil, Appends-trans, Appends-kept, Keeps-refl, Keeps-trans}
use mathlib.Core.Path.{◌≡◌, refl, sym, ap, ◌∙◌, subst}
use mathlib.Core.List.{List, [], ◌∷◌, ◌++◌, append-nil}
use Prim.Native.Nat.{ℕ, ◌+◌, ◌-◌, ◌≤◌, ◌<◌, min}
use native.Mathlib.Omega.{arith}
use native.Mathlib.Decide.{dec_lt}
use lib.ListN.{length, take, drop, length-append, length-drop, take-append-drop, drop_of_length-le}
use lib.Seq.{take_all, take-take, length-take-le, take_at, drop_at}
use Rattle.std.proofs.lemmas.List.{drop-take}
use Rattle.std.proofs.lemmas.Slice.{between_is}
use Rattle.input_lines.specs.Streams.{WritesPart, Stays, Gave, moved}
use Rattle.input_lines.specs.Messages.{Tells, failed_call}
use Rattle.input_lines.proofs.Coming.{clamped}
use Rattle.tokenizer.specs.Text.{bytes}
use Rattle.input_lines.specs.declared.failure.Failure.{Failure}

-- ---- moving

-- a length behind the end is the whole length
take-clamped : (s : List ℕ) (i k : ℕ) → k ≡ min i (length s) → take k s ≡ take i s
take-clamped s i k e =
    elim (dec_lt i (length s)) [
      | yes h ↦ ap (λ (n : ℕ). take n s) (let q : k ≡ i = omega arith in q)
      | no h ↦ take_all k s (omega arith) ∙ sym (take_all i s (omega arith))
    ]

-- what `copy_within` leaves
module _ (s : List ℕ) (from to start end : ℕ) (e : end ≡ min to (length s)) (f : start ≡ min from end) where
  part_is : take (end - start) (drop start s) ≡ drop from (take to s)
  part_is =
      let l : length (take end s) ≡ end = length-take-le end s (omega arith) in
      between_is s start end
      ∙ sym (clamped (take end s) from start (omega arith))
      ∙ ap (drop from) (take-clamped s to end e)

  part_size : length (drop from (take to s)) ≡ end - start
  part_size =
      let l = length-drop start s in
      ap (λ (l : List ℕ). length l) (sym part_is) ∙ length-take-le (end - start) (drop start s) (omega arith)

  pub moved_is : (after : List ℕ) → after ≡ std.copy_within s start end 0 → after ≡ moved s from to
  unfolding moved
  moved_is after h =
      h
      ∙ ap (λ (n : ℕ). take (end - start) (drop start s) ++ drop n s) (let q : 0 + (end - start) ≡ end - start = omega arith in q)
      ∙ ap (λ (l : List ℕ). l ++ drop (end - start) s) part_is
      ∙ ap (λ (n : ℕ). drop from (take to s) ++ drop n s) (sym part_size)

-- ---- reading

-- the buffer behind a read into its part from a place on
abbrev pub after : List ℕ → List ℕ → ℕ → List ℕ
after input room start = take start input ++ (room ++ drop (length input - start) (drop start input))

module _ (input room : List ℕ) (left start : ℕ) (at : start ≡ min left (length input)) (long : length room ≡ length input - start) where
  nothing-behind : drop (length input - start) (drop start input) ≡ []
  nothing-behind = let d = length-drop start input in drop_of_length-le (drop start input) {i = length input - start} (omega arith)

  after_is : after input room start ≡ take start input ++ room
  after_is = ap (λ (l : List ℕ). take start input ++ (room ++ l)) nothing-behind ∙ ap (λ (l : List ℕ). take start input ++ l) (append-nil room)

  front : length (take start input) ≡ start
  front = length-take-le start input (omega arith)

  kept-left : take left (take start input ++ room) ≡ take left input
  kept-left =
      let l = front in
      elim (dec_lt left (length input)) [
        | yes h ↦ let q : start ≡ left = omega arith in ap (λ (n : ℕ). take left (take n input ++ room)) q ∙ take_at (take left input) room left (length-take-le left input (omega arith))
        | no h ↦
            let m = length-append (take start input) room in
            take_all left (take start input ++ room) (omega arith)
            ∙ ap (λ (l : List ℕ). take start input ++ l) (none room (omega arith))
            ∙ append-nil (take start input)
            ∙ take-clamped input left start at
      ]
    where
      none : (l : List ℕ) → length l ≡ 0 → l ≡ []
      none [] q = refl
      none (c ∷ l) q = absurd (omega arith)

  read-there : (n : ℕ) → n ≤ length room → take n room ≡ take n (drop left (take start input ++ room))
  read-there n h =
      let l = front in
      elim (dec_lt left (length input)) [
        | yes k ↦ let q : left ≡ start = omega arith in
            sym (ap (λ (i : ℕ). take n (drop i (take start input ++ room))) q ∙ ap (take n) (drop_at (take start input) room start l))
        | no k ↦ let q : n ≡ 0 = omega arith in ap (λ (i : ℕ). take i room) q ∙ sym (ap (λ (i : ℕ). take i (drop left (take start input ++ room))) q)
      ]

  size-kept : length (after input room start) ≡ length input
  size-kept =
      let l = front in
      let m = length-append (take start input) room in
      ap (λ (l : List ℕ). length l) after_is ∙ m ∙ (let q : length (take start input) + length room ≡ length input = omega arith in q)

  -- whatever was read, the bytes left are those that there were
  pub stays : Stays input left (after input room start)
  stays = record { size = size-kept; kept = ap (take left) after_is ∙ kept-left }

  module _ (reader reader' : Option (List ℕ)) where
    gave : (n : ℕ) → n ≤ length room → Consumes reader reader' (take n room) → (n ≡ 0 → 0 < length room → IsAtEnd reader') → Gave reader reader' input left n (after input room start)
    gave n h c d =
        record {
          stays = stays;
          fits = omega arith;
          gave = subst (Consumes reader reader') (read-there n h ∙ sym (ap (λ (l : List ℕ). take n (drop left l)) after_is)) c;
          ended = λ z k. d z (omega arith);
        }

-- an answer whose error alone was renamed
module _ {E F : Type 0} where
  was-ok : (r : Result ℕ E) (renamed : Result ℕ F) (P : E → F → Type 0) → MatchResult r (λ n. renamed ≡ Ok n) (λ e. IsErrAnd renamed (P e)) → (n : ℕ) → renamed ≡ Ok n → r ≡ Ok n
  was-ok (Ok k) renamed P m n e = cc
  was-ok (Err f) (Ok k) P m n e = absurd m
  was-ok (Err f) (Err g) P m n e = absurd (cc)

  pub gave-ok : (reader reader' : Option (List ℕ)) (input room : List ℕ) (left start : ℕ) → start ≡ min left (length input) → length room ≡ length input - start
      → (r : Result ℕ E) → ReadsAtMost r room → ReadConsumes reader reader' r room
      → (renamed : Result ℕ F) (P : E → F → Type 0) → MatchResult r (λ n. renamed ≡ Ok n) (λ e. IsErrAnd renamed (P e)) → (n : ℕ) → renamed ≡ Ok n
      → Gave reader reader' input left n (after input room start)
  gave-ok reader reader' input room left start at long r bound read renamed P m n e =
      let is : r ≡ Ok n = was-ok r renamed P m n e in
      let b : (n ≤ length room) × (n ≡ length (take n room)) = subst (λ (x : Result ℕ E). ReadsAtMost x room) is bound in
      let c : Consumes reader reader' (take n room) × (n ≡ 0 → 0 < length room → IsAtEnd reader') = subst (λ (x : Result ℕ E). ReadConsumes reader reader' x room) is read in
      gave input room left start at long reader reader' n b.0 c.0 c.1

-- ---- writing

-- The first bytes are written, so many of them.
pub record Written (writer writer' : Option (List ℕ)) (bytes : List ℕ) (at : ℕ) : Type 0 where
  pub within : at ≤ length bytes
  pub gained : Appends writer writer' (take at bytes)

take-more : (at n : ℕ) (s : List ℕ) → take at s ++ take n (drop at s) ≡ take (at + n) s
take-more at n s =
    sym
    (sym (take-append-drop at (take (at + n) s))
    ∙ ap (λ (l : List ℕ). l ++ drop at (take (at + n) s)) (take-take at (at + n) s (omega arith))
    ∙ ap (λ (l : List ℕ). take at s ++ l) (drop-take at n s))

module _ (writer : Option (List ℕ)) (bytes : List ℕ) where
  pub written-none : Written writer writer bytes 0
  written-none = record { within = omega arith; gained = Appends-nil writer }

  module _ (writer₁ : Option (List ℕ)) (at : ℕ) (w : Written writer writer₁ bytes at) where
    pub written-more : (writer₂ : Option (List ℕ)) (n : ℕ)
        → (let rest = take (length bytes - at) (drop at bytes) in (0 < n) × (n ≤ length rest) × Appends writer₁ writer₂ (take n rest)) → Written writer writer₂ bytes (at + n)
    written-more writer₂ n h =
        let i = w.within in
        let l = length-drop at bytes in
        let rest : take (length bytes - at) (drop at bytes) ≡ drop at bytes = take_all (length bytes - at) (drop at bytes) (omega arith) in
        let size : n ≤ length (drop at bytes) = subst (λ (s : List ℕ). n ≤ length s) rest h.1 in
        record {
          within = omega arith;
          gained = subst (Appends writer writer₂) (take-more at n bytes) (Appends-trans _ _ _ _ _ w.gained (subst (λ (s : List ℕ). Appends writer₁ writer₂ (take n s)) rest h.2));
        }

    pub written-part : at < length bytes → (writer₂ : Option (List ℕ)) → Keeps writer₁ writer₂ → WritesPart writer writer₂ bytes
    written-part h writer₂ k = (at, h, Appends-kept _ _ _ _ w.gained k)

    pub written-all : length bytes ≤ at → Appends writer writer₁ bytes
    written-all h = subst (Appends writer writer₁) (take_all at bytes h) w.gained

pub ruleset writing_steps = (written-none, written-all, Keeps-refl, Keeps-trans)

-- ---- the line about a failure

module _ {A E : Type 0} (a b c d e : Option (List ℕ)) (program : List ℕ) (failure : Failure) where
  pub told : (r : Result A E) → Appends a b program → (what : List ℕ) → Appends b c what → what ≡ failed_call failure → (reason : List ℕ) × Appends c d reason → OnOk r (Appends d e (bytes "\n"))
      → OnOk r (Tells a e program failure)
  told (Ok done) w what x is y z = (y.0, Appends-trans a b e program _ w (Appends-trans b c e (failed_call failure) _ (subst (Appends b c) is x) (Appends-trans c d e y.0 (bytes "\n") y.1 z)))
  told (Err f) w what x is y z = tt
