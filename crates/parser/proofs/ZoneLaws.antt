-- Units, lengths, zones and list names: each return of their functions as a law.
use Rattle.std.specs.Prelude.{if◌then◌else◌, nat_abs, unsigned_abs}
use mathlib.Core.Path.{◌≡◌, refl, sym, ap, subst, ◌∙◌}
use mathlib.Core.Bool.{Bool, true, false}
use mathlib.Core.List.{List}
use Prim.Native.Nat.{ℕ, ◌+◌, ◌≤◌, ◌<◌}
use native.Mathlib.Omega.{arith}
use lib.ListN.{length}
use lib.IntN.{ℤ}
use lib.Dec.{eqb}
use borrow.Author.Tests.{eq-eqb, le-leb, lt-leb}
use mir.Val.{Fits, to_z, of_z}
use mir.Syntax.{w8, w32, w64}
use Rattle.std.specs.Int.{FitsUnsignedBits}
use Rattle.std.specs.Int.RustNames.{FitsSigned}
use Rattle.std.proofs.Common.{to_z-of_z}
use Rattle.tokenizer.specs.Answer.{Refusal, Out, refused, done, refuse_at}
use Rattle.tokenizer.specs.declared.refusal.Refusal.TheVariants.{NumberOutOfRange, WrongTimeUnit}
use Rattle.tokenizer.specs.Token.{Standing, token_at, sort_of, value_of, is_negative, is_below_zero, no_token, lparen, rparen, comma, colon, integer, double_quoted, single_quoted, field_word, time_unit, some_word, none_word}
use Rattle.tokenizer.specs.declared.Token.{Token}
use Rattle.tokenizer.specs.declared.TokenKind.{TokenKind}
use Rattle.tokenizer.specs.declared.TokenKind.TheVariants as K
use Rattle.tokenizer.proofs.Marks.{bounds}
use Rattle.datatype.specs.Kind.{unit_fits}
use Rattle.parser.specs.Answer.{refusal_in}
use Rattle.parser.specs.declared.error.ReadError.{ReadError}
use Rattle.parser.specs.Parse.{Zone, refusal_of, place_at, need, stands, number_in, unit_at, some_zone, zone_string, zone_at, list_name_at}
use Rattle.parser.specs.Internal.Steps.{taken, word_of, integer_of, zone_of}
use Rattle.parser.specs.declared.ReadValue.{ReadValue}
use Rattle.parser.specs.declared.Span.{Span}
use Rattle.parser.proofs.Holds.{Holds, holds_bind, holds_then, holds_if}
use Rattle.parser.proofs.Matched.{error_at, unexpected, standing, got_token, got_word, got_integer, behind, string, GotWord, GotNumber}
use Rattle.parser.proofs.Values.{inside-is, outside-is, magnitude-is, byte_in, byte_out, positive, positive_out}
use Rattle.parser.proofs.Looks.{needed-stands, refused-stands}
use Rattle.parser.proofs.TokenLaws.{gone, here, lost, other_sort, stands-lost, word-refused}

-- a word and a string that were read
abbrev pub word : ℕ → ℕ → ReadValue ℕ
word v n = record { value = v; next = n }

abbrev pub span : ℕ → ℕ → ℕ → Span
span s l n = record { start = s; size = l; next = n }

-- ---- units and lengths

module _ (text : List ℕ) (k at : ℕ) where
  pub unit-1 : (x : Refusal) → need text time_unit at ≡ refused x → refused x ≡ word_of (unit_at text k at)
  unfolding unit_at word_of
  unit-1 x e = rw e

  module _ (u : ReadValue ℕ) (h : done u ≡ word_of (need text time_unit at)) where
    g : GotWord (need text time_unit at) u.value u.next
    g = got_word (need text time_unit at) u h

    pub unit-2 : (fits : Bool) → fits ≡ unit_fits k u.value → fits ≡ true → done u ≡ word_of (unit_at text k at)
    unfolding unit_at word_of
    unit-2 fits w z = rw (g.is, g.value, ← w, z, g.value)

    pub unit-3 : (fits : Bool) → fits ≡ unit_fits k u.value → fits ≡ false → (err : ReadError) → err ≡ error_at text at WrongTimeUnit → refused (refusal_in err) ≡ word_of (unit_at text k at)
    unfolding unit_at word_of refusal_in
    unit-3 fits w z err q = rw (g.is, g.value, ← w, z, q) refl

-- a number where one is needed, and its range
module _ (text : List ℕ) (least most at : ℕ) where
  pub number_lost : (x : Refusal) → need text integer at ≡ refused x → number_in text least most at ≡ refused x
  unfolding number_in
  number_lost x e = rw e refl

  module _ (z : ℤ) (n : ℕ) (g : GotNumber (need text integer at) z n) where
    pub number-out : (if is_below_zero z then least else most) < nat_abs z → number_in text least most at ≡ refuse_at 10 (place_at text at)
    unfolding number_in
    number-out h =
        let l = lt-leb (value_of g.token.kind) (if is_negative g.token.kind then least else most) (outside-is _ _ _ g least most h) in
        rw (g.is, l) refl

    number-in : nat_abs z ≤ (if is_below_zero z then least else most) → number_in text least most at ≡ done (behind g.token n)
    unfolding number_in
    number-in h =
        let l = le-leb (value_of g.token.kind) (if is_negative g.token.kind then least else most) (inside-is _ _ _ g least most h) in
        rw (g.is, l) refl

    pub signed-in : nat_abs z ≤ (if is_below_zero z then least else most) → done (record { value = z; next = n }) ≡ integer_of (number_in text least most at)
    unfolding integer_of
    signed-in h = rw (number-in h, g.value)

    pub word-in : (v : ℕ) → v ≡ nat_abs z → nat_abs z ≤ (if is_below_zero z then least else most) → done (word v n) ≡ word_of (number_in text least most at)
    unfolding word_of
    word-in v e h = rw (number-in h, magnitude-is _ _ _ g, e)

-- a number that was read, and its conversion
module _ (text : List ℕ) (at : ℕ) (r : ReadValue ℤ) (h : done r ≡ integer_of (need text integer at)) (fits : FitsSigned w64 r.value) where
  abbrev converted : ℤ
  converted = to_z w64 (of_z w64 r.value)

  kept : converted ≡ r.value
  kept = to_z-of_z fits

  got : GotNumber (need text integer at) r.value r.next
  got = got_integer (need text integer at) r h

  pub byte-out : (FitsSigned w8 converted → ⊥) → (err : ReadError) → err ≡ error_at text at NumberOutOfRange → number_in text 128 127 at ≡ refused (refusal_in err)
  unfolding refusal_in
  byte-out n err q = rw q (number-out text 128 127 at r.value r.next got (byte_out r.value (subst (λ (x : ℤ). FitsSigned w8 x → ⊥) kept n)))

  pub byte-in : (v : ℤ) → FitsSigned w8 converted × (v ≡ converted) → done (record { value = to_z w8 (of_z w8 v); next = r.next }) ≡ integer_of (number_in text 128 127 at)
  byte-in v n =
      let f = subst (FitsSigned w8) kept n.0 in
      let i = n.1 ∙ kept in
      ap (λ (x : ℤ). done (record { value = x; next = r.next })) (to_z-of_z (subst (FitsSigned w8) (sym i) f) ∙ i)
      ∙ signed-in text 128 127 at r.value r.next got (byte_in r.value f)

  pub positive-out : (most : ℕ) → (FitsUnsignedBits 32 converted → ⊥) → most < 4294967296 → (err : ReadError) → err ≡ error_at text at NumberOutOfRange → number_in text 0 most at ≡ refused (refusal_in err)
  unfolding refusal_in
  positive-out most n m err q = rw q (number-out text 0 most at r.value r.next got (positive_out r.value most (subst (λ (x : ℤ). FitsUnsignedBits 32 x → ⊥) kept n) m))

  module _ (most v : ℕ) (n : FitsUnsignedBits 32 converted × (v ≡ unsigned_abs converted)) where
    above : (is_below_zero r.value ≡ false) × (v ≡ nat_abs r.value)
    above =
        let p = positive r.value (subst (FitsUnsignedBits 32) kept n.0) in
        (p.0, n.1 ∙ ap unsigned_abs kept ∙ sym p.1)

    pub positive-large : most < v → (err : ReadError) → err ≡ error_at text at NumberOutOfRange → refused (refusal_in err) ≡ word_of (number_in text 0 most at)
    unfolding refusal_in
    positive-large l err q = word-refused (number_in text 0 most at) (refusal_in err) (rw q (number-out text 0 most at r.value r.next got (let a = above in grind arith)))

    pub positive-in : v ≤ most → done (word v r.next) ≡ word_of (number_in text 0 most at)
    positive-in l = word-in text 0 most at r.value r.next got v above.1 (let a = above in grind arith)

-- ---- zones

pub zone_refused : (o : Out Zone) (x : Refusal) → o ≡ refused x → refused x ≡ zone_of o
unfolding zone_of
zone_refused o x e = rw e

pub zone_done : (o : Out Zone) (s l n : ℕ) → o ≡ done (record { start = s; size = l; next = n }) → done (span s l n) ≡ zone_of o
unfolding zone_of
zone_done o s l n e = rw e

module _ (text : List ℕ) (at : ℕ) where
  -- Some(string), behind the word
  pub some-1 : (x : Refusal) → need text lparen at ≡ refused x → some_zone text at ≡ refused x
  unfolding some_zone
  some-1 x e = rw e refl

  module _ (p : Standing) (a : ℕ) (e : need text lparen at ≡ done (behind p a)) where
    pub some-2 : (x : Refusal) → need text double_quoted a ≡ refused x → some_zone text at ≡ refused x
    unfolding some_zone
    some-2 x f = rw (e, f) refl

    module _ (q : Out TokenKind) (s l b : ℕ) (f : need text double_quoted a ≡ done (string q s l b)) where
      pub some-3 : (x : Refusal) → need text rparen b ≡ refused x → some_zone text at ≡ refused x
      unfolding some_zone
      some-3 x g = rw (e, f, g) refl

      pub some-4 : (c : Standing) (n : ℕ) → need text rparen b ≡ done (behind c n) → some_zone text at ≡ done (record { start = s; size = l; next = n })
      unfolding some_zone
      some-4 c n g = rw (e, f, g) refl

  -- behind the comma
  module _ (t : Standing) (e : t ≡ token_at text at) where
    stood : (sort : ℕ) → sort_of t.kind ≡ sort → stands text sort at ≡ true
    unfolding stands
    stood sort s = eq-eqb _ sort (sym (ap (λ (x : Standing). sort_of x.kind) e) ∙ s)

    stood-not : (sort : ℕ) → eqb (sort_of t.kind) sort ≡ false → stands text sort at ≡ false
    unfolding stands
    stood-not sort s = sym (ap (λ (x : Standing). eqb (sort_of x.kind) sort) e) ∙ s

    pub zone-none : sort_of t.kind ≡ none_word → zone_string text at ≡ done (record { start = 0; size = 0; next = t.next })
    unfolding zone_string
    zone-none s = rw (stood none_word s, here text none_word at t e s) refl

    pub zone-some : sort_of t.kind ≡ some_word → zone_string text at ≡ some_zone text t.next
    unfolding zone_string
    zone-some s = rw (stood-not none_word (rw s), stood some_word s, here text some_word at t e s) refl

    pub zone-string : sort_of t.kind ≡ double_quoted → zone_string text at ≡ done (record { start = t.start; size = t.size; next = t.next })
    unfolding zone_string
    zone-string s = rw (stood-not none_word (rw s), stood-not some_word (rw s), here text double_quoted at t e s) refl

  pub zone-lost : (x : Refusal) → refused x ≡ taken (token_at text at) → zone_string text at ≡ refused x
  unfolding zone_string
  zone-lost x e =
      rw (
        sym (stands-lost text none_word at refl x e),
        sym (stands-lost text some_word at refl x e),
        lost text double_quoted at refl x e,
      ) refl

  pub zone-other : (t : Token) → done t ≡ taken (token_at text at) → (t.kind ≡ K.None → ⊥) → (t.kind ≡ K.Some → ⊥) → (t.kind ≡ K.DoubleQuotedString → ⊥) → (err : ReadError) → err ≡ unexpected t
      → zone_string text at ≡ refused (refusal_in err)
  unfolding zone_string
  zone-other t h n₁ n₂ n₃ err q =
      let e = sym (got_token (token_at text at) t h) in
      rw (
        stood-not (standing t) e none_word (other_sort none_word t.kind n₁),
        stood-not (standing t) e some_word (other_sort some_word t.kind n₂),
        gone text double_quoted at t h n₃ err q,
      ) refl

  -- behind the unit
  pub zone-1 : (c : Standing) (n : ℕ) → need text rparen at ≡ done (behind c n) → zone_at text at ≡ done (record { start = 0; size = 0; next = n })
  unfolding zone_at
  zone-1 c n e = rw (needed-stands text rparen at (behind c n) e, e) refl

  module _ (r : Refusal) (z : need text rparen at ≡ refused r) where
    pub zone-2 : (x : Refusal) → need text comma at ≡ refused x → zone_at text at ≡ refused x
    unfolding zone_at
    zone-2 x e = rw (refused-stands text rparen at r z, e) refl

    module _ (c : Standing) (a : ℕ) (e : need text comma at ≡ done (behind c a)) where
      pub zone-3 : (x : Refusal) → zone_string text a ≡ refused x → zone_at text at ≡ refused x
      unfolding zone_at
      zone-3 x f = rw (refused-stands text rparen at r z, e, f) refl

      module _ (s l b : ℕ) (f : zone_string text a ≡ done (record { start = s; size = l; next = b })) where
        pub zone-4 : (x : Refusal) → need text rparen b ≡ refused x → zone_at text at ≡ refused x
        unfolding zone_at
        zone-4 x g = rw (refused-stands text rparen at r z, e, f, g) refl

        pub zone-5 : (d : Standing) (n : ℕ) → need text rparen b ≡ done (behind d n) → zone_at text at ≡ done (record { start = s; size = l; next = n })
        unfolding zone_at
        zone-5 d n g = rw (refused-stands text rparen at r z, e, f, g) refl

-- ---- strings lie inside the text

-- where a string lies
abbrev Inside : List ℕ → ℕ → ℕ → Type 0
Inside text start size = start + size ≤ length text

need_inside : (text : List ℕ) (sort at : ℕ) → (sort ≡ no_token → ⊥) → Holds (λ (t : Standing). Inside text t.start t.size) (need text sort at)
unfolding need
need_inside text sort at z = go (eqb (sort_of (token_at text at).kind) sort) refl
  where
    go : (b : Bool) → eqb (sort_of (token_at text at).kind) sort ≡ b
        → Holds (λ (t : Standing). Inside text t.start t.size) (if b then done (token_at text at) else refuse_at (refusal_of (token_at text at).kind) (place_at text at))
    go true e = (bounds text at).bytes (λ y. z (sym (borrow.Author.Tests.eqb-true (sort_of (token_at text at).kind) sort e) ∙ y))
    go false e = tt

-- the same of a zone and of a token, as what holds of an answer
abbrev ZoneIn : List ℕ → Zone → Type 0
ZoneIn text v = Inside text v.start v.size

abbrev TokenIn : List ℕ → Standing → Type 0
TokenIn text t = Inside text t.start t.size

some_inside : (text : List ℕ) (at : ℕ) → Holds (ZoneIn text) (some_zone text at)
unfolding some_zone
some_inside text at =
    holds_bind (ZoneIn text) (need text lparen at) _ λ p.
    holds_then (TokenIn text) (ZoneIn text) (need text double_quoted p.next) _ (need_inside text double_quoted p.next (λ e. omega arith)) λ s h.
    holds_bind (ZoneIn text) (need text rparen s.next) _ λ c. h

zone_string_inside : (text : List ℕ) (at : ℕ) → Holds (ZoneIn text) (zone_string text at)
unfolding zone_string
zone_string_inside text at =
    holds_if (ZoneIn text) (stands text none_word at) _ _
    (holds_bind (ZoneIn text) (need text none_word at) _ λ n. omega arith)
    (holds_if (ZoneIn text) (stands text some_word at) _ _
    (holds_bind (ZoneIn text) (need text some_word at) _ λ w. some_inside text w.next)
    (holds_then (TokenIn text) (ZoneIn text) (need text double_quoted at) _ (need_inside text double_quoted at (λ e. omega arith)) λ s h. h))

zone_inside : (text : List ℕ) (at : ℕ) → Holds (ZoneIn text) (zone_at text at)
unfolding zone_at
zone_inside text at =
    holds_if (ZoneIn text) (stands text rparen at) _ _
    (holds_bind (ZoneIn text) (need text rparen at) _ λ c. omega arith)
    (holds_bind (ZoneIn text) (need text comma at) _ λ c.
    holds_then (ZoneIn text) (ZoneIn text) (zone_string text c.next) _ (zone_string_inside text c.next) λ z h.
    holds_bind (ZoneIn text) (need text rparen z.next) _ λ e. h)

list_name_inside : (text : List ℕ) (at : ℕ) → Holds (TokenIn text) (list_name_at text at)
unfolding list_name_at
list_name_inside text at =
    holds_bind (TokenIn text) (need text field_word at) _ λ f.
    holds_bind (TokenIn text) (need text colon f.next) _ λ c. need_inside text single_quoted c.next (λ e. omega arith)

-- so start and length fit 32 bits
module _ (text : List ℕ) (at s l n : ℕ) (short : length text ≤ 16384) where
  pub zone-fits : zone_at text at ≡ done (record { start = s; size = l; next = n }) → Fits w32 s × Fits w32 l
  zone-fits e =
      let h : Holds (ZoneIn text) (done (record { start = s; size = l; next = n })) = rw e at (zone_inside text at) in
      (omega arith, omega arith)

  module _ (q : Out TokenKind) where
    pub name-fits : need text double_quoted at ≡ done (string q s l n) → Fits w32 s × Fits w32 l
    name-fits e =
        let h : Holds (TokenIn text) (done (string q s l n)) = rw e at (need_inside text double_quoted at (λ y. omega arith)) in
        (omega arith, omega arith)

    pub list-name-fits : list_name_at text at ≡ done (string q s l n) → Fits w32 s × Fits w32 l
    list-name-fits e =
        let h : Holds (TokenIn text) (done (string q s l n)) = rw e at (list_name_inside text at) in
        (omega arith, omega arith)
