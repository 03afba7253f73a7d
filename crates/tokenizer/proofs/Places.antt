-- Places of what is refused: where the token would stand, and where the text goes on.
--   refused_start   it would stand behind the spaces
--   refused_size    an unknown word has its length; all else that is refused has none
--   refused_next    an unknown word is passed; all else that is refused would begin there
--   refused_by      the same of a walk through any table
use mathlib.Core.Path.{◌≡◌, refl, sym, subst}
use mathlib.Core.Bool.{Bool, true, false}
use mathlib.Core.List.{List, [], ◌∷◌}
use Rattle.std.specs.Prelude.{if◌then◌else◌}
use mathlib.Core.Option.{Option}
use Prim.Native.Nat.{ℕ, suc, ◌+◌, ◌<◌}
use native.Mathlib.Omega.{arith}
use lib.ListN.{length, drop, get_or}
use lib.Dec.{T, eqb}
use Rattle.std.proofs.lemmas.Bool.Decides.{nat_tests}
use Rattle.tokenizer.specs.Answer.{Out, refused, done, refuse}
use Rattle.tokenizer.specs.Places.{after_spaces}
use Rattle.tokenizer.specs.Words.{words}
use Rattle.tokenizer.specs.Token.{Standing, token, is_separator, word_of, word_kind, is_digit, number_kind, until_quote, string_token, token_at}
use Rattle.tokenizer.specs.WordTable.{walk, walk_kind, token_of_number, word_kind_by, begins_word, token_by}
use Rattle.tokenizer.specs.declared.TokenKind.{TokenKind}
use Rattle.tokenizer.specs.declared.TokenKind.TheVariants.{DoubleQuotedString, SingleQuotedString}
use Rattle.tokenizer.proofs.Marks.{choice, is_mark, mark_kind, by_cases, word_first, word_holds}

-- what stands at p, where a word of a length may begin: of what is refused, its start, its size and the place behind it
abbrev pub Placed : ℕ → ℕ → Standing → Type 0
Placed p word s = (n : ℕ) → s.kind ≡ refuse n → (s.start ≡ p) × (n ≡ 8 → (s.size ≡ word) × (s.next ≡ p + word)) × ((n ≡ 8 → ⊥) → (s.size ≡ 0) × (s.next ≡ p))

begins : (p word r : ℕ) → (r ≡ 8 → ⊥) → Placed p word (token (refuse r) p 0)
begins p word r h = λ n e. grind arith

string-placed : (p word : ℕ) (k : TokenKind) (o : Option ℕ) → Placed p word (string_token k p o)
string-placed p word k o = λ n e. grind arith

mark-placed : (p word m : ℕ) → T (is_mark m) → Placed p word (token (mark_kind m) p 1)
mark-placed p word m t = λ n e. grind (arith, nat_tests)

-- a word is refused as unknown, and as nothing else
abbrev only_unknown : List ℕ → Out TokenKind → Bool
only_unknown w (refused r) = eqb r.number 8
only_unknown w (done k) = true

unknown : (w : List ℕ) (n : ℕ) (k : Out TokenKind) → T (only_unknown w k) → k ≡ refuse n → n ≡ 8
unknown w n k t e = grind (arith, nat_tests)

word-unknown : (c : ℕ) (w : List ℕ) → T (only_unknown (c ∷ w) (word_kind (c ∷ w)))
unfolding words
word-unknown = word_holds only_unknown (λ w negative v h. tt) (λ w. tt) tt

-- the same by any table
abbrev Unknown : Out TokenKind → Type 0
Unknown k = (n : ℕ) → k ≡ refuse n → n ≡ 8

number-unknown : (m : ℕ) → Unknown (token_of_number m)
unfolding token_of_number
number-unknown m n e = grind (arith, nat_tests)

digits-unknown : (negative : Bool) (w : List ℕ) → Unknown (number_kind negative w)
digits-unknown negative w n e = grind (arith, nat_tests)

word-by-unknown : (table w : List ℕ) → Unknown (word_kind_by table w)
unfolding word_kind_by
word-by-unknown table [] = λ n e. grind arith
word-by-unknown table (c ∷ w) =
    choice Unknown (eqb c 45) (number_kind true w) (if is_digit c then number_kind false (c ∷ w) else walk_kind table (c ∷ w)) (λ _. digits-unknown true w)
    (λ _. choice Unknown (is_digit c) (number_kind false (c ∷ w)) (walk_kind table (c ∷ w)) (λ _. digits-unknown false (c ∷ w)) (λ _. number-unknown (walk table 0 (c ∷ w))))

module _ (text : List ℕ) (at : ℕ) where
  abbrev start : ℕ
  start = after_spaces text at

  abbrev word : List ℕ
  word = word_of (drop start text)

  word-placed : start < length text → is_separator (get_or text start 0) ≡ false → Placed start (length word) (token (word_kind word) start (length word))
  word-placed h s =
      let w : word ≡ get_or text start 0 ∷ word_of (drop (suc start) text) = word_first text start h s in
      let t : T (only_unknown word (word_kind word)) =
      subst (λ (x : List ℕ). T (only_unknown x (word_kind x))) (sym w) (word-unknown (get_or text start 0) (word_of (drop (suc start) text))) in
      λ n e. (refl, λ _. (refl, refl), λ f. absurd (f (unknown word n (word_kind word) t e)))

  placed : Placed start (length word) (token_at text at)
  placed =
      by_cases text at (Placed start (length word)) (record {
        over = λ _. begins start _ 5 (λ e. omega arith);
        mark = λ m t h e. mark-placed start _ m t;
        double = λ h e. string-placed start _ DoubleQuotedString (until_quote 34 false (drop (start + 1) text));
        single = λ h e. string-placed start _ SingleQuotedString (until_quote 39 false (drop (start + 1) text));
        word = λ h s. word-placed h s;
      })

  pub refused_start : (n : ℕ) → (token_at text at).kind ≡ refuse n → (token_at text at).start ≡ after_spaces text at
  refused_start n e = (placed n e).0

  pub refused_next : (n : ℕ) → (token_at text at).kind ≡ refuse n
      → (n ≡ 8 → (token_at text at).next ≡ after_spaces text at + length (word_of (drop (after_spaces text at) text)))
      × ((n ≡ 8 → ⊥) → (token_at text at).next ≡ after_spaces text at)
  refused_next n e = let q = placed n e in (λ h. (q.1 h).1, λ h. (q.2 h).1)

  pub refused_size : (n : ℕ) → (token_at text at).kind ≡ refuse n
      → (n ≡ 8 → (token_at text at).size ≡ length (word_of (drop (after_spaces text at) text)))
      × ((n ≡ 8 → ⊥) → (token_at text at).size ≡ 0)
  refused_size n e = let q = placed n e in (λ h. (q.1 h).0, λ h. (q.2 h).0)

  pub refused_by : (table : List ℕ) → Placed (after_spaces text at) (length (word_of (drop (after_spaces text at) text))) (token_by table text at)
  unfolding token_by
  refused_by table = go (begins_word (drop start text)) (word_kind_by table word) (word-by-unknown table word)
    where
      go : (b : Bool) (k : Out TokenKind) → Unknown k → Placed start (length word) (if b then token k start (length word) else token_at text at)
      go true k t = λ n e. (refl, λ _. (refl, refl), λ f. absurd (f (t n e)))
      go false k t = placed
