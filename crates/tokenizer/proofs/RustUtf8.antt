-- The bytes that the automaton of `specs/Utf8` takes are those that std takes, the bytes of characters.
use Rattle.std.proofs.Common.{◌≡◌, ℕ, zero, suc, ◌+◌, ◌-◌, ◌*◌, ◌<◌, ◌≤◌, ◌⊎◌, true, false, List, [], ◌∷◌, ◌++◌, length, length-append, ◌∙◌, refl, sym, ap, subst, inl, inr, arith, le-leb, ne_eqb}
use Rattle.std.proofs.lemmas.Bool.{cases_lt, cases_eq, and_parts, lt-leb}
use Rattle.std.proofs.lemmas.Bool.Decides.{nat_tests}
use Rattle.std.proofs.lemmas.Str.{IsUtf8-nil, IsUtf8-append, IsUtf8-from_ascii, encode_ascii}
use Rattle.std.proofs.str.Laws.{two, three, four}
use Rattle.std.proofs.str.Valid.{of_one, of_two, of_three, of_four}
use Rattle.std.specs.Str.{IsUtf8, IsAscii}
use lib.Utf8.{scalar, scalars, encode, encodes, scalar_cases}
use Rattle.tokenizer.specs.Utf8.{further, utf8_step, utf8_state, is_utf8}
use Rattle.tokenizer.proofs.Utf8Laws.{state_append, step_ascii, state_broken}

-- ---- the automaton's steps

-- the state q is inside a character: a byte from lo to hi leads to the state r, and any other to no UTF-8
abbrev Wants : ℕ → ℕ → ℕ → ℕ → Type 0
Wants q lo hi r = (0 < q) × ((b : ℕ) → utf8_step q b ≡ further lo hi b r)

wants_one : Wants 1 0x80 0xBF 0
unfolding utf8_step
wants_one = (omega arith, λ b. refl)

wants_two : Wants 2 0x80 0xBF 1
unfolding utf8_step
wants_two = (omega arith, λ b. refl)

-- the state behind a character's first byte x; behind E0, ED, F0 and F4 it computes
module _ (x : ℕ) where
  lead_none : 0x80 ≤ x → (x < 0xC2) ⊎ (0xF4 < x) → utf8_step 0 x ≡ 8
  unfolding utf8_step
  lead_none l h = grind (arith, nat_tests)

  lead_two : 0xC2 ≤ x → x < 0xE0 → utf8_step 0 x ≡ 1
  unfolding utf8_step
  lead_two l h = grind (arith, nat_tests)

  lead_three : 0xE0 ≤ x → x < 0xF0 → (x ≡ 0xE0 → ⊥) → (x ≡ 0xED → ⊥) → utf8_step 0 x ≡ 2
  unfolding utf8_step
  lead_three l h n m = grind (arith, nat_tests)

  lead_four : 0xF0 < x → x < 0xF4 → utf8_step 0 x ≡ 3
  unfolding utf8_step
  lead_four l h = grind (arith, nat_tests)

-- the byte behind x, the first of three or four, is from lo to hi and leads to the state r
record Second (x r : ℕ) (Range : ℕ → ℕ → ℕ → Type 0) : Type 0 where
  lo : ℕ
  hi : ℕ
  wants : Wants (utf8_step 0 x) lo hi r
  range : Range x lo hi

-- no overlong form behind E0, and no surrogate behind ED
abbrev RangeOfThree : ℕ → ℕ → ℕ → Type 0
RangeOfThree x lo hi = ((x ≡ 0xE0) × (lo ≡ 0xA0) × (hi ≡ 0xBF)) ⊎ (((x ≡ 0xED) × (lo ≡ 0x80) × (hi ≡ 0x9F))
    ⊎ ((x ≡ 0xE0 → ⊥) × (x ≡ 0xED → ⊥) × (lo ≡ 0x80) × (hi ≡ 0xBF)))

second_three : (x : ℕ) → 0xE0 ≤ x → x < 0xF0 → Second x 1 RangeOfThree
unfolding utf8_step
second_three x l h =
    elim (cases_eq x 0xE0) [
      | inl e ↦ record { lo = 0xA0; hi = 0xBF; wants = rw e (omega arith, λ b. refl); range = inl (e, refl, refl) }
      | inr n ↦ elim (cases_eq x 0xED) [
        | inl e ↦ record { lo = 0x80; hi = 0x9F; wants = rw e (omega arith, λ b. refl); range = inr (inl (e, refl, refl)) }
        | inr m ↦ record { lo = 0x80; hi = 0xBF; wants = rw (lead_three x l h n m) wants_two; range = inr (inr (n, m, refl, refl)) }
      ]
    ]

-- no overlong form behind F0, and nothing above 10FFFF behind F4
abbrev RangeOfFour : ℕ → ℕ → ℕ → Type 0
RangeOfFour x lo hi = ((x ≡ 0xF0) × (lo ≡ 0x90) × (hi ≡ 0xBF)) ⊎ (((x ≡ 0xF4) × (lo ≡ 0x80) × (hi ≡ 0x8F))
    ⊎ ((0xF0 < x) × (x < 0xF4) × (lo ≡ 0x80) × (hi ≡ 0xBF)))

second_four : (x : ℕ) → 0xF0 ≤ x → x ≤ 0xF4 → Second x 2 RangeOfFour
unfolding utf8_step
second_four x l h =
    elim (cases_eq x 0xF0) [
      | inl e ↦ record { lo = 0x90; hi = 0xBF; wants = rw e (omega arith, λ b. refl); range = inl (e, refl, refl) }
      | inr n ↦ elim (cases_eq x 0xF4) [
        | inl e ↦ record { lo = 0x80; hi = 0x8F; wants = rw e (omega arith, λ b. refl); range = inr (inl (e, refl, refl)) }
        | inr m ↦ record { lo = 0x80; hi = 0xBF; wants = rw (lead_four x (omega arith) (omega arith)) (omega arith, λ b. refl); range = inr (inr (omega arith, omega arith, refl, refl)) }
      ]
    ]

-- ---- from characters to states

taken : (q lo hi r b : ℕ) → Wants q lo hi r → lo ≤ b → b ≤ hi → utf8_step q b ≡ r
taken q lo hi r b w l h = w.1 b ∙ rw (le-leb lo b l, le-leb b hi h)

abbrev Follows : ℕ → Type 0
Follows b = (0x80 ≤ b) × (b < 0xC0)

state_one : (x : ℕ) → x < 0x80 → utf8_state 0 (x ∷ []) ≡ 0
unfolding utf8_state
state_one x h = step_ascii x h

state_two : (x y : ℕ) → (0xC2 ≤ x) × (x < 0xE0) × Follows y → utf8_state 0 (x ∷ y ∷ []) ≡ 0
unfolding utf8_state
state_two x y h = rw (lead_two x h.0 h.1, taken 1 0x80 0xBF 0 y wants_one (omega arith) (omega arith))

state_three : (x y z : ℕ) → (0xE0 ≤ x) × (x < 0xF0) × (x ≡ 0xE0 → 0xA0 ≤ y) × (x ≡ 0xED → y < 0xA0) × Follows y × Follows z
    → utf8_state 0 (x ∷ y ∷ z ∷ []) ≡ 0
unfolding utf8_state
state_three x y z h =
    let s = second_three x h.0 h.1 in
    rw (taken (utf8_step 0 x) s.lo s.hi 1 y s.wants (grind arith) (grind arith), taken 1 0x80 0xBF 0 z wants_one (omega arith) (omega arith))

state_four : (x y z w : ℕ) → (0xF0 ≤ x) × (x ≤ 0xF4) × (x ≡ 0xF0 → 0x90 ≤ y) × (x ≡ 0xF4 → y < 0x90) × Follows y × Follows z × Follows w
    → utf8_state 0 (x ∷ y ∷ z ∷ w ∷ []) ≡ 0
unfolding utf8_state
state_four x y z w h =
    let s = second_four x h.0 h.1 in
    rw (
      taken (utf8_step 0 x) s.lo s.hi 2 y s.wants (grind arith) (grind arith),
      taken 2 0x80 0xBF 1 z wants_two (omega arith) (omega arith),
      taken 1 0x80 0xBF 0 w wants_one (omega arith) (omega arith),
    )

state_char : (c : ℕ) → scalar c ≡ true → utf8_state 0 (encode c) ≡ 0
state_char c ok =
    let range = scalar_cases c ok in
    elim (cases_lt c 0x80) [
      | inl a ↦ rw (encode_ascii c a) (state_one c a)
      | inr a ↦ elim (cases_lt c 0x800) [
        | inl b ↦ rw (two c a b) (state_two _ _ (omega arith))
        | inr b ↦ elim (cases_lt c 0x1_0000) [
          | inl d ↦ rw (three c b d) (state_three _ _ _ (omega arith))
          | inr d ↦ rw (four c d) (state_four _ _ _ _ (omega arith))
        ]
      ]
    ]

state_chars : (cs : List ℕ) → scalars cs ≡ true → utf8_state 0 (encodes cs) ≡ 0
unfolding utf8_state
state_chars [] ok = refl
state_chars (c ∷ cs) ok =
    let p = and_parts (scalar c) (scalars cs) ok in
    rw (state_append 0 (encode c) (encodes cs), state_char c p.0) (state_chars cs p.1)

-- ---- from states to characters

-- the next byte of bs is from lo to hi, and what follows it leads from the state r between characters
record Continued (lo hi r : ℕ) (bs : List ℕ) : Type 0 where
  byte : ℕ
  rest : List ℕ
  is : bs ≡ byte ∷ rest
  least : lo ≤ byte
  most : byte ≤ hi
  ends : utf8_state r rest ≡ 0

not_broken : (bs : List ℕ) → utf8_state 8 bs ≡ 0 → ⊥
not_broken bs e = omega (arith, state_broken bs)

continued : (q lo hi r : ℕ) (bs : List ℕ) → Wants q lo hi r → utf8_state q bs ≡ 0 → Continued lo hi r bs
unfolding utf8_state
continued q lo hi r [] w e = absurd (omega arith)
continued q lo hi r (b ∷ bs) w e =
    elim (cases_lt b lo) [
      | inl a ↦ absurd (not_broken bs (rw (w.1 b, lt-leb lo b a) at e))
      | inr a ↦ elim (cases_lt hi b) [
        | inl d ↦ absurd (not_broken bs (rw (w.1 b, le-leb lo b a, lt-leb b hi d) at e))
        | inr d ↦ record { byte = b; rest = bs; is = refl; least = a; most = d; ends = rw (taken q lo hi r b w a d) at e }
      ]
    ]

-- a character begins bs, and what follows it leads between characters
record Begun (bs : List ℕ) : Type 0 where
  front : List ℕ
  rest : List ℕ
  is : bs ≡ front ++ rest
  some : 0 < length front
  utf8 : IsUtf8 front
  ends : utf8_state 0 rest ≡ 0

begun_two : (x : ℕ) (bs : List ℕ) → 0xC2 ≤ x → x < 0xE0 → utf8_state 1 bs ≡ 0 → Begun (x ∷ bs)
begun_two x bs l h e =
    let s = continued 1 0x80 0xBF 0 bs wants_one e in
    record {
      front = x ∷ s.byte ∷ [];
      rest = s.rest;
      is = cc;
      some = omega arith;
      utf8 = of_two (x ∷ s.byte ∷ []) 0 (omega arith) (l, h) (omega arith);
      ends = s.ends;
    }

begun_three : (x : ℕ) (bs : List ℕ) → 0xE0 ≤ x → x < 0xF0 → utf8_state (utf8_step 0 x) bs ≡ 0 → Begun (x ∷ bs)
begun_three x bs l h e =
    let w = second_three x l h in
    let s = continued (utf8_step 0 x) w.lo w.hi 1 bs w.wants e in
    let t = continued 1 0x80 0xBF 0 s.rest wants_one s.ends in
    let c = (x - 0xE0) * 0x1000 + (s.byte - 0x80) * 0x40 + (t.byte - 0x80) in
    let no_surrogate : (c < 0xD800) ⊎ (0xE000 ≤ c) = elim (cases_lt c 0xD800) [ inl a ↦ inl a | inr a ↦ inr (omega arith) ] in
    record {
      front = x ∷ s.byte ∷ t.byte ∷ [];
      rest = t.rest;
      is = cc;
      some = omega arith;
      utf8 = of_three (x ∷ s.byte ∷ t.byte ∷ []) 0 (omega arith) (l, h) (omega arith) (omega arith) (omega arith) no_surrogate;
      ends = t.ends;
    }

begun_four : (x : ℕ) (bs : List ℕ) → 0xF0 ≤ x → x ≤ 0xF4 → utf8_state (utf8_step 0 x) bs ≡ 0 → Begun (x ∷ bs)
begun_four x bs l h e =
    let w = second_four x l h in
    let s = continued (utf8_step 0 x) w.lo w.hi 2 bs w.wants e in
    let t = continued 2 0x80 0xBF 1 s.rest wants_two s.ends in
    let u = continued 1 0x80 0xBF 0 t.rest wants_one t.ends in
    record {
      front = x ∷ s.byte ∷ t.byte ∷ u.byte ∷ [];
      rest = u.rest;
      is = cc;
      some = omega arith;
      utf8 = of_four (x ∷ s.byte ∷ t.byte ∷ u.byte ∷ []) 0 (omega arith) l (omega arith) (omega arith) (omega arith) (omega arith);
      ends = u.ends;
    }

begun : (x : ℕ) (bs : List ℕ) → utf8_state 0 (x ∷ bs) ≡ 0 → Begun (x ∷ bs)
unfolding utf8_state
begun x bs e =
    elim (cases_lt x 0x80) [
      | inl a ↦ record { front = x ∷ []; rest = bs; is = refl; some = omega arith; utf8 = of_one (x ∷ []) 0 (omega arith) a; ends = rw (step_ascii x a) at e }
      | inr a ↦ elim (cases_lt x 0xC2) [
        | inl b ↦ absurd (not_broken bs (rw (lead_none x a (inl b)) at e))
        | inr b ↦ elim (cases_lt x 0xE0) [
          | inl c ↦ begun_two x bs b c (rw (lead_two x b c) at e)
          | inr c ↦ elim (cases_lt x 0xF0) [
            | inl d ↦ begun_three x bs c d e
            | inr d ↦ elim (cases_lt 0xF4 x) [
              | inl f ↦ absurd (not_broken bs (rw (lead_none x a (inr f)) at e))
              | inr f ↦ begun_four x bs d f e
            ]
          ]
        ]
      ]
    ]

-- a recursion on n, which is at least the length
is_chars : (n : ℕ) (bs : List ℕ) → length bs ≤ n → utf8_state 0 bs ≡ 0 → IsUtf8 bs
is_chars n [] l e = IsUtf8-nil
is_chars zero (x ∷ bs) l e = absurd (omega arith)
is_chars (suc n) (x ∷ bs) l e =
    let s = begun x bs e in
    subst IsUtf8 (sym s.is) (IsUtf8-append s.front s.rest s.utf8 (is_chars n s.rest (omega (arith, ap length s.is, length-append s.front s.rest)) s.ends))

-- ---- the tests

pub test_yes : (bs : List ℕ) → IsUtf8 bs → is_utf8 bs ≡ true
unfolding is_utf8
test_yes bs u = let e : utf8_state 0 bs ≡ 0 = rw (← u.1.1) (state_chars u.0 u.1.0) in rw e

pub test_no : (bs : List ℕ) → ¬ (IsUtf8 bs) → is_utf8 bs ≡ false
unfolding is_utf8
test_no bs n = ne_eqb (utf8_state 0 bs) 0 (λ e. n (is_chars (length bs) bs (omega arith) e))

pub test_ascii : (bs : List ℕ) → IsAscii bs → is_utf8 bs ≡ true
test_ascii bs a = test_yes bs (IsUtf8-from_ascii bs a)
