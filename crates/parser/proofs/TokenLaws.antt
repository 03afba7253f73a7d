-- Tokens where one is needed or looked for: each return of the small functions as a law.
use Rattle.std.specs.Prelude.{Option, Some, None}
use mathlib.Core.Path.{◌≡◌, refl, sym, ap, ◌∙◌, subst}
use mathlib.Core.Bool.{Bool, true, false}
use mathlib.Core.List.{List, [], ◌∷◌}
use Prim.Native.Nat.{ℕ, ◌≤◌, ◌<◌}
use native.Mathlib.Omega.{arith}
use lib.ListN.{get_or}
use lib.Dec.{T, leb→le, eqb}
use borrow.Author.Tests.{eq-eqb, ne_eqb}
use Rattle.tokenizer.specs.Answer.{Refusal, Out, refused, done, refuse_at}
use Rattle.tokenizer.specs.Places.{after_spaces, next_byte}
use Rattle.tokenizer.specs.Token.{Standing, token, token_at, sort_of, value_of, is_negative, signed, no_token, integer, type_word, time_unit, interval_unit, union_mode, map_sorted, nullability}
use Rattle.tokenizer.specs.Internal.Digits.{limit}
use Rattle.tokenizer.specs.declared.Token.{Token}
use Rattle.tokenizer.specs.declared.TokenKind.{TokenKind}
use Rattle.tokenizer.specs.declared.TokenKind.TheVariants as K
use Rattle.tokenizer.proofs.Marks as Marks
use Rattle.tokenizer.proofs.Basics.{of_true}
use Rattle.tokenizer.proofs.NextByte.{byte-here, byte-not}
use Rattle.parser.specs.Answer.{refusal_in, read_answer}
use Rattle.parser.specs.declared.error.ReadError.{ReadError}
use Rattle.parser.specs.Parse.{refusal_of, place_at, need, stands, role_at, after_role}
use Rattle.parser.specs.Internal.Steps.{taken, refused_here, mark_sort, is_mark, next_of, look_of, word_of, integer_of, span_of}
use Rattle.parser.specs.declared.ReadValue.{ReadValue}
use Rattle.parser.specs.declared.Span.{Span}
use Rattle.std.specs.Prelude.{Result}
use Rattle.parser.proofs.Matched.{standing, unexpected, got_token, lost_token, handed}
use Rattle.parser.proofs.Looks.{need-is, need-not}

-- ---- kinds and their sorts

-- the kind of each sort, from 0 on, that says what a kind says
abbrev pub of_sort : TokenKind → ℕ → TokenKind
of_sort k sort =
    let v = value_of (done k) in
    get_or (k ∷ K.LParen ∷ K.RParen ∷ K.Comma ∷ K.Colon ∷ K.Integer (is_negative (done k)) v ∷ K.DoubleQuotedString ∷ K.SingleQuotedString ∷ K.DataType v ∷ K.TimeUnit v
    ∷ K.IntervalUnit v ∷ K.UnionMode v ∷ K.MapSorted v ∷ K.Nullability v ∷ K.Field ∷ K.Some ∷ K.None ∷ K.X ∷ []) sort k

-- a kind is that of its sort
told : (k : TokenKind) → k ≡ of_sort k (sort_of (done k))
told k = grind arith

-- a kind that is not that of a sort is of another sort
pub other_sort : (sort : ℕ) (k : TokenKind) → (k ≡ of_sort k sort → ⊥) → eqb (sort_of (done k)) sort ≡ false
other_sort sort k n = ne_eqb (sort_of (done k)) sort (λ e. n (told k ∙ ap (of_sort k) e))

-- a token of another sort is refused with 9, where it begins
pub nine : (k : TokenKind) → refusal_of (done k) ≡ 9
nine k = grind arith

pub refused-there : (text : List ℕ) (at : ℕ) (t : Token) (e : done t ≡ taken (token_at text at)) (err : ReadError) → err ≡ unexpected t
    → ◌≡◌ {A = Out Standing} (refuse_at (refusal_of (token_at text at).kind) (place_at text at)) (refused (refusal_in err))
unfolding place_at refusal_in
refused-there text at t e err q = rw (got_token (token_at text at) t e, nine t.kind, q) refl

pub refused-none : (text : List ℕ) (at : ℕ) (x : Refusal) (e : refused x ≡ taken (token_at text at))
    → ◌≡◌ {A = Out Standing} (refuse_at (refusal_of (token_at text at).kind) (place_at text at)) (refused x)
unfolding place_at
refused-none text at x e = let l = lost_token (token_at text at) x e in rw (l.is, l.none) refl

-- what is refused where a mark is needed
pub unexpected_is : (text : List ℕ) (at : ℕ) (t : Token) → done t ≡ taken (token_at text at) → (err : ReadError) → err ≡ unexpected t → refusal_in err ≡ refused_here (token_at text at)
unfolding refusal_in
unexpected_is text at t e err q = rw (got_token (token_at text at) t e, nine t.kind, q) refl

pub none_is : (text : List ℕ) (at : ℕ) (err : ReadError) → refused (refusal_in err) ≡ taken (token_at text at) → refusal_in err ≡ refused_here (token_at text at)
none_is text at err e = let l = lost_token (token_at text at) (refusal_in err) e in rw (l.is, l.none) refl

-- ---- one token, taken or refused

module _ (text : List ℕ) (sort at : ℕ) (t : Standing) (e : t ≡ token_at text at) where
  pub here : sort_of t.kind ≡ sort → need text sort at ≡ done t
  here s = need-is text sort at (eq-eqb _ sort (sym (ap (λ (x : Standing). sort_of x.kind) e) ∙ s)) ∙ ap done (sym e)

  pub not-here : eqb (sort_of t.kind) sort ≡ false → need text sort at ≡ refuse_at (refusal_of (token_at text at).kind) (place_at text at)
  not-here s = need-not text sort at (sym (ap (λ (x : Standing). eqb (sort_of x.kind) sort) e) ∙ s)

-- the token that was read, where it is of the sort
module _ (text : List ℕ) (sort at : ℕ) (t : Token) (e : done t ≡ taken (token_at text at)) where
  got : sort_of (done t.kind) ≡ sort → need text sort at ≡ done (standing t)
  got s = here text sort at (standing t) (sym (got_token (token_at text at) t e)) s

  word-here : (k : TokenKind) (v : ℕ) → t.kind ≡ k → sort_of (done k) ≡ sort → value_of (done k) ≡ v → ◌≡◌ {A = Out (ReadValue ℕ)} (done (record { value = v; next = t.next })) (word_of (need text sort at))
  unfolding word_of
  word-here k v q s w = rw (got (ap (λ (x : TokenKind). sort_of (done x)) q ∙ s), q, w)

  module _ (q : t.kind ≡ of_sort t.kind sort) (s : sort_of (done (of_sort t.kind sort)) ≡ sort) where
    same_sort : sort_of (done t.kind) ≡ sort
    same_sort = ap (λ (k : TokenKind). sort_of (done k)) q ∙ s

    pub span-here : ◌≡◌ {A = Out Span} (done (record { start = t.start; size = t.size; next = t.next })) (span_of (need text sort at))
    unfolding span_of
    span-here = rw (got same_sort)

    pub next-here : done t.next ≡ next_of (need text sort at)
    unfolding next_of
    next-here = rw (got same_sort)

    pub look-here : Some t.next ≡ look_of (need text sort at)
    unfolding look_of
    look-here = rw (got same_sort)

    pub stands_here : true ≡ stands text sort at
    unfolding stands
    stands_here = sym (eq-eqb _ sort (ap (λ (x : Standing). sort_of x.kind) (got_token (token_at text at) t e) ∙ same_sort))

  -- and where it is of another
  module _ (n : t.kind ≡ of_sort t.kind sort → ⊥) where
    pub gone : (err : ReadError) → err ≡ unexpected t → need text sort at ≡ refused (refusal_in err)
    gone err q = not-here text sort at (standing t) (sym (got_token (token_at text at) t e)) (other_sort sort t.kind n) ∙ refused-there text at t e err q

    pub stands-gone : false ≡ stands text sort at
    unfolding stands
    stands-gone = sym (ap (λ (x : Standing). eqb (sort_of x.kind) sort) (got_token (token_at text at) t e) ∙ other_sort sort t.kind n)

-- the words, each of its sort
module _ (text : List ℕ) (at : ℕ) (t : Token) (e : done t ≡ taken (token_at text at)) (v : ℕ) where
  abbrev read_word : Out (ReadValue ℕ)
  read_word = done (record { value = v; next = t.next })

  pub type-word-here : t.kind ≡ K.DataType v → read_word ≡ word_of (need text type_word at)
  type-word-here q = word-here text type_word at t e (K.DataType v) v q refl refl

  pub time-unit-here : t.kind ≡ K.TimeUnit v → read_word ≡ word_of (need text time_unit at)
  time-unit-here q = word-here text time_unit at t e (K.TimeUnit v) v q refl refl

  pub interval-unit-here : t.kind ≡ K.IntervalUnit v → read_word ≡ word_of (need text interval_unit at)
  interval-unit-here q = word-here text interval_unit at t e (K.IntervalUnit v) v q refl refl

  pub union-mode-here : t.kind ≡ K.UnionMode v → read_word ≡ word_of (need text union_mode at)
  union-mode-here q = word-here text union_mode at t e (K.UnionMode v) v q refl refl

  pub map-sorted-here : t.kind ≡ K.MapSorted v → read_word ≡ word_of (need text map_sorted at)
  map-sorted-here q = word-here text map_sorted at t e (K.MapSorted v) v q refl refl

-- where no token was read
module _ (text : List ℕ) (sort at : ℕ) (n : eqb no_token sort ≡ false) (x : Refusal) (e : refused x ≡ taken (token_at text at)) where
  not-there : eqb (sort_of (token_at text at).kind) sort ≡ false
  not-there = ap (λ (s : ℕ). eqb s sort) (lost_token (token_at text at) x e).none ∙ n

  pub lost : need text sort at ≡ refused x
  lost = need-not text sort at not-there ∙ refused-none text at x e

  pub stands-lost : false ≡ stands text sort at
  unfolding stands
  stands-lost = sym not-there

-- what does not stand there is not found
pub look-not : (text : List ℕ) (sort at : ℕ) → false ≡ stands text sort at → None ≡ look_of (need text sort at)
unfolding look_of stands
look-not text sort at e = rw (need-not text sort at (sym e))

-- a refusal of what is needed
module _ (o : Out Standing) (x : Refusal) (e : o ≡ refused x) where
  pub next-refused : refused x ≡ next_of o
  unfolding next_of
  next-refused = rw e

  pub word-refused : refused x ≡ word_of o
  unfolding word_of
  word-refused = rw e

  pub span-refused : refused x ≡ span_of o
  unfolding span_of
  span-refused = rw e

  pub integer-refused : refused x ≡ integer_of o
  unfolding integer_of
  integer-refused = rw e

-- what `?` hands on, where a token is needed
pub word_lost : (text : List ℕ) (sort at : ℕ) (r : Result (ReadValue ℕ) ReadError) (x : Refusal) → eqb no_token sort ≡ false → refused x ≡ taken (token_at text at) → read_answer r ≡ refused x → read_answer r ≡ word_of (need text sort at)
word_lost text sort at r x n t h = handed (word_of (need text sort at)) r x h (word-refused (need text sort at) x (lost text sort at n x t))

-- ---- numbers

module _ (text : List ℕ) (at : ℕ) (t : Token) (e : done t ≡ taken (token_at text at)) (negative : Bool) (v : ℕ) (k : t.kind ≡ K.Integer negative v) where
  pub integer-found : done (record { value = signed negative v; next = t.next }) ≡ integer_of (need text integer at)
  unfolding integer_of
  integer-found = rw (got text integer at t e (ap (λ (x : TokenKind). sort_of (done x)) k), k)

  -- its magnitude is one that its sign takes
  pub integer-fits : v ≤ limit negative
  integer-fits =
      let s = ap (λ (x : Standing). Marks.in_sign x.kind) (got_token (token_at text at) t e) ∙ ap (λ (x : TokenKind). Marks.in_sign (done x)) k in
      leb→le v (limit negative) (subst T s (Marks.sign_holds text at))

-- ---- marks, by the first byte that is no space

sort_of_mark : (m : ℕ) → T (is_mark m) → sort_of (Marks.mark_kind m) ≡ mark_sort m
sort_of_mark m h = Marks.marks (λ (x : ℕ). sort_of (Marks.mark_kind x) ≡ mark_sort x) refl refl refl refl m h

mark_some : (m : ℕ) → T (is_mark m) → eqb no_token (mark_sort m) ≡ false
mark_some m h = Marks.marks (λ (x : ℕ). eqb no_token (mark_sort x) ≡ false) refl refl refl refl m h

mark_more : (m : ℕ) → T (is_mark m) → 0 < m
mark_more m h = Marks.marks (λ (x : ℕ). 0 < x) (omega arith) (omega arith) (omega arith) (omega arith) m h

module _ (text : List ℕ) (at mark : ℕ) (m : is_mark mark ≡ true) where
  found : (n : ℕ) → Some n ≡ next_byte text at mark → need text (mark_sort mark) at ≡ done (token (Marks.mark_kind mark) (after_spaces text at) 1)
  found n e =
      let h = byte-here text at mark n e in
      let t = Marks.mark-token text at h.0 mark (of_true (is_mark mark) m) h.1 in
      here text (mark_sort mark) at (token (Marks.mark_kind mark) (after_spaces text at) 1) (sym t) (sort_of_mark mark (of_true (is_mark mark) m))

  pub expect-found : (n : ℕ) → Some n ≡ next_byte text at mark → done n ≡ next_of (need text (mark_sort mark) at)
  unfolding next_of
  expect-found n e = rw (found n e, (byte-here text at mark n e).2)

  look-found : (n : ℕ) → Some n ≡ next_byte text at mark → Some n ≡ look_of (need text (mark_sort mark) at)
  unfolding look_of
  look-found n e = rw (found n e, (byte-here text at mark n e).2)

  -- where another byte stands, its token is refused, or its own refusal is handed on
  module _ (h : None ≡ next_byte text at mark) where
    other : need text (mark_sort mark) at ≡ refuse_at (refusal_of (token_at text at).kind) (place_at text at)
    other =
        need-not text (mark_sort mark) at
        (Marks.marks (λ (x : ℕ). (get_or text (after_spaces text at) 0 ≡ x → ⊥) → eqb (sort_of (token_at text at).kind) (mark_sort x) ≡ false)
        (Marks.no-lparen text at) (Marks.no-rparen text at) (Marks.no-comma text at) (Marks.no-colon text at) mark (of_true (is_mark mark) m)
        (byte-not text at mark h (mark_more mark (of_true (is_mark mark) m))))

    pub expect-refused : (err : ReadError) → refusal_in err ≡ refused_here (token_at text at) → refused (refusal_in err) ≡ next_of (need text (mark_sort mark) at)
    unfolding next_of place_at
    expect-refused err e = rw (other, e)

    look-other : None ≡ look_of (need text (mark_sort mark) at)
    unfolding look_of
    look-other = rw other

  pub look_byte : next_byte text at mark ≡ look_of (need text (mark_sort mark) at)
  look_byte = go (next_byte text at mark) refl
    where
      go : (o : Option ℕ) → o ≡ next_byte text at mark → o ≡ look_of (need text (mark_sort mark) at)
      go None e = look-other e
      go (Some n) e = look-found n e

-- ---- nullability

module _ (text : List ℕ) (at : ℕ) where
  -- left out
  pub role-out : false ≡ stands text nullability at → 1 ≡ role_at text at
  unfolding role_at
  role-out e = rw (← e)

  pub after-out : false ≡ stands text nullability at → at ≡ after_role text at
  unfolding after_role
  after-out e = rw (← e)

  -- by the first byte that is no space, and by the token
  pub null-other : None ≡ next_byte text at 110 → false ≡ stands text nullability at
  unfolding stands
  null-other h = sym (Marks.no-nullability text at (byte-not text at 110 h (omega arith)))

  module _ (t : Token) (e : done t ≡ taken (token_at text at)) where
    pub null-not : ((r : ℕ) → t.kind ≡ K.Nullability r → ⊥) → false ≡ stands text nullability at
    null-not n = stands-gone text nullability at t e (n _)

    pub role-here : (r : ℕ) → t.kind ≡ K.Nullability r → r ≡ role_at text at
    unfolding role_at stands
    role-here r k = rw (got_token (token_at text at) t e, k)

    pub after-here : (r : ℕ) → t.kind ≡ K.Nullability r → t.next ≡ after_role text at
    unfolding after_role stands
    after-here r k = rw (got_token (token_at text at) t e, k)
