-- What is known of a definition's answer once the code's answer was matched on.
use mathlib.Core.Path.{◌≡◌, ap, ◌∙◌}
use mathlib.Core.List.{List}
use lib.IntN.{ℤ}
use Prim.Native.Nat.{ℕ, suc}
use native.Mathlib.Omega.{arith}
use Rattle.std.specs.Prelude.{Result, Ok, Err, Some, None}
use Rattle.std.specs.Result.{IsErrAnd}
use Rattle.tokenizer.specs.Answer.{Refusal, Out, refused, done}
use Rattle.tokenizer.specs.Token.{Standing, no_token, sort_of, value_of, is_negative, place_of, signed}
use Rattle.tokenizer.specs.declared.Token.{Token}
use Rattle.tokenizer.specs.declared.TokenKind.{TokenKind}
use Rattle.tokenizer.specs.declared.refusal.Refusal as R
use Rattle.tokenizer.specs.declared.refusal.Refusal.TheVariants.{UnexpectedToken}
use Rattle.datatype.specs.Tree.{Forest, ∅, node, count, Row}
use Rattle.parser.specs.Answer.{refusal_in, read_answer}
use Rattle.parser.specs.Parse.{Tree, Fields, Zone, place_at}
use Rattle.parser.specs.Internal.Steps.{taken, next_of, look_of, word_of, integer_of, span_of, zone_of, Stored, Meets, MeetsFields}
use Rattle.parser.specs.declared.ReadValue.{ReadValue}
use Rattle.parser.specs.declared.Span.{Span}
use Rattle.parser.specs.declared.Extent.{Extent}
use Rattle.parser.specs.declared.error.ReadError.{ReadError}

-- what a reader of types answers
abbrev pub Read : Type 0
Read = Result Extent ReadError

-- a refusal that `?` hands on is the answer
pub handed_on : {A : Type 0} (r : Result A ReadError) (e : ReadError) → IsErrAnd r (λ y. y ≡ e) → read_answer r ≡ refused (refusal_in e)
handed_on (Ok x) e h = absurd h
handed_on (Err y) e h = ap (λ (z : ReadError). refused (refusal_in z)) h

pub handed : {A : Type 0} (o : Out A) (r : Result A ReadError) (x : Refusal) → read_answer r ≡ refused x → refused x ≡ o → read_answer r ≡ o
handed o r x h w = h ∙ w

-- ---- errors that the reader makes

-- a refusal at the token at or behind a place, and one of a token that was taken
abbrev pub error_at : List ℕ → ℕ → R.Refusal → ReadError
error_at text at refusal = record { place = place_at text at; refusal = refusal }

abbrev pub unexpected : Token → ReadError
unexpected t = record { place = place_of (done t.kind) t.start; refusal = UnexpectedToken }

-- ---- tokens

-- the token that the code was given stands there
abbrev pub standing : Token → Standing
standing t = record { kind = done t.kind; start = t.start; size = t.size; next = t.next }

pub got_token : (s : Standing) (t : Token) → done t ≡ taken s → s ≡ standing t
unfolding taken
got_token s t e = grind arith

pub record Lost (s : Standing) (x : Refusal) : Type 0 where
  pub none : sort_of s.kind ≡ no_token
  pub is : x ≡ record { number = value_of s.kind; place = Some (place_of s.kind s.start) }

pub lost_token : (s : Standing) (x : Refusal) → refused x ≡ taken s → Lost s x
unfolding taken
lost_token s x e = record { none = grind arith; is = grind arith }

-- a token with the place behind it given
abbrev pub behind : Standing → ℕ → Standing
behind t n = record { kind = t.kind; start = t.start; size = t.size; next = n }

pub got_next : (o : Out Standing) (n : ℕ) → done n ≡ next_of o → (t : Standing) × (o ≡ done (behind t n))
unfolding next_of
got_next (refused r) n e = absurd cc
got_next (done t) n e = (t, grind arith)

pub lost_next : (o : Out Standing) (x : Refusal) → refused x ≡ next_of o → o ≡ refused x
unfolding next_of
lost_next o x e = grind arith

pub got_look : (o : Out Standing) (n : ℕ) → Some n ≡ look_of o → (t : Standing) × (o ≡ done (behind t n))
unfolding look_of
got_look (refused r) n e = absurd cc
got_look (done t) n e = (t, grind arith)

pub lost_look : (o : Out Standing) → None ≡ look_of o → (r : Refusal) × (o ≡ refused r)
unfolding look_of
lost_look o e = grind arith

pub record GotWord (o : Out Standing) (v n : ℕ) : Type 0 where
  pub token : Standing
  pub is : o ≡ done (behind token n)
  pub value : value_of token.kind ≡ v

pub got_word : (o : Out Standing) (w : ReadValue ℕ) → done w ≡ word_of o → GotWord o w.value w.next
unfolding word_of
got_word (refused r) w e = absurd cc
got_word (done t) w e = record { token = t; is = grind arith; value = grind arith }

pub lost_word : (o : Out Standing) (x : Refusal) → refused x ≡ word_of o → o ≡ refused x
unfolding word_of
lost_word o x e = grind arith

-- a number, with the place behind it
abbrev pub number : ℤ → ℕ → ReadValue ℤ
number z n = record { value = z; next = n }

-- a number with its sign
abbrev pub integer_of_kind : Out TokenKind → ℤ
integer_of_kind k = signed (is_negative k) (value_of k)

pub record GotNumber (o : Out Standing) (z : ℤ) (n : ℕ) : Type 0 where
  pub token : Standing
  pub is : o ≡ done (behind token n)
  pub value : integer_of_kind token.kind ≡ z

pub got_integer : (o : Out Standing) (i : ReadValue ℤ) → done i ≡ integer_of o → GotNumber o i.value i.next
unfolding integer_of
got_integer (refused r) i e = absurd cc
got_integer (done t) i e = record { token = t; is = grind arith; value = grind arith }

pub lost_integer : (o : Out Standing) (x : Refusal) → refused x ≡ integer_of o → o ≡ refused x
unfolding integer_of
lost_integer o x e = grind arith

-- a string, with its start, its length and the place behind it
abbrev pub string : Out TokenKind → ℕ → ℕ → ℕ → Standing
string k s l n = record { kind = k; start = s; size = l; next = n }

pub got_span : (o : Out Standing) (p : Span) → done p ≡ span_of o → (k : Out TokenKind) × (o ≡ done (string k p.start p.size p.next))
unfolding span_of
got_span (refused r) p e = absurd cc
got_span (done t) p e = (t.kind, grind arith)

pub lost_span : (o : Out Standing) (x : Refusal) → refused x ≡ span_of o → o ≡ refused x
unfolding span_of
lost_span o x e = grind arith

pub got_zone : (o : Out Zone) (p : Span) → done p ≡ zone_of o → o ≡ done (record { start = p.start; size = p.size; next = p.next })
unfolding zone_of
got_zone o p e = grind arith

pub lost_zone : (o : Out Zone) (x : Refusal) → refused x ≡ zone_of o → o ≡ refused x
unfolding zone_of
lost_zone o x e = grind arith

-- ---- trees and fields

pub record GotTree (o : Out Tree) (n k : ℕ) (before after : List ℕ) : Type 0 where
  pub row : Row
  pub kids : Forest Row
  pub is : o ≡ done (record { row = row; kids = kids; next = n })
  pub rows : k ≡ suc (count kids)
  pub stored : Stored (node row kids ∅) before after

pub record GotFields (o : Out Fields) (n k : ℕ) (before after : List ℕ) : Type 0 where
  pub trees : Forest Row
  pub is : o ≡ done (record { trees = trees; next = n })
  pub rows : k ≡ count trees
  pub stored : Stored trees before after

module _ (before after : List ℕ) where
  pub got-tree : (o : Out Tree) (e : Extent) → Meets o before (Ok e) after → GotTree o e.next e.used before after
  unfolding Meets
  got-tree (refused x) e h = absurd cc
  got-tree (done t) e h = let f = h.0 in record { row = t.row; kids = t.kids; is = grind arith; rows = cc; stored = h.1 }

  pub lost-tree : (o : Out Tree) (e : ReadError) → Meets o before (Err e) after → o ≡ refused (refusal_in e)
  unfolding Meets
  lost-tree o e h = grind arith

  pub got-fields : (o : Out Fields) (e : Extent) → MeetsFields o before (Ok e) after → GotFields o e.next e.used before after
  unfolding MeetsFields
  got-fields (refused x) e h = absurd cc
  got-fields (done fs) e h = let f = h.0 in record { trees = fs.trees; is = grind arith; rows = cc; stored = h.1 }

  pub lost-fields : (o : Out Fields) (e : ReadError) → MeetsFields o before (Err e) after → o ≡ refused (refusal_in e)
  unfolding MeetsFields
  lost-fields o e h = grind arith
