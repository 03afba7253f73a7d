-- Printed pieces at a place of a text, read back: marks, words, numbers and quoted strings.
use mathlib.Core.Path.{◌≡◌, refl, sym, ap, ◌∙◌}
use mathlib.Core.Bool.{true, false}
use mathlib.Core.List.{List, [], ◌∷◌, ◌++◌, append_assoc}
use mathlib.Core.Option.{some}
use Prim.Native.Nat.{ℕ, suc, ◌+◌, ◌-◌, ◌^◌, ◌≤◌, ◌<◌}
use native.Mathlib.Omega.{arith}
use lib.ListN.{length, drop, length-append, length-drop}
use lib.Seq.{take-append_seam}
use lib.Dec.{T, eqb}
use borrow.Author.Tests.{le-leb}
use Rattle.tokenizer.specs.Answer.{Out, done}
use Rattle.tokenizer.specs.Words.{words, find}
use Rattle.tokenizer.specs.Token.{Standing, token, sort_of, value_of, lparen, rparen, comma, colon, integer, double_quoted, single_quoted, string_token, token_from, token_at}
use Rattle.tokenizer.specs.declared.TokenKind.{TokenKind}
use Rattle.tokenizer.specs.declared.TokenKind.TheVariants.{LParen, RParen, Comma, Colon, Integer, DoubleQuotedString, SingleQuotedString}
use Rattle.tokenizer.proofs.Basics.{skip, skip_word}
use Rattle.datatype.specs.Tree.{Forest, Row, part}
use Rattle.row_table.specs.Sound.{is_name}
use Rattle.parser.specs.Parse.{need, stands, number_in, close_at}
use Rattle.parser.proofs.TokenLaws.{here}
use Rattle.writer.specs.Digits.{digits}
use Rattle.display_length.specs.Display.{quoted}
use Rattle.round_trip.specs.Plain.{is_plain_text}
use Rattle.round_trip.proofs.Tokens.{Stop, WordOf, listed_token, number_token_lem, minus_token, until_double, until_single, escaped_plain}

module _ (text : List ℕ) where
  -- the token at `at` is the one that begins at p, where the text goes on with s
  pub record Look (at p : ℕ) (s : List ℕ) : Type 0 where
    pub on : drop p text ≡ s
    pub token : token_at text at ≡ token_from p s

  pub look-here : (at : ℕ) (s : List ℕ) → drop at text ≡ s → Look at at s
  unfolding token_at
  look-here at s e = record { on = e; token = rw e }

  pub look-space : (at : ℕ) (s : List ℕ) → drop at text ≡ 32 ∷ s → Look at (at + 1) s
  unfolding token_at token_from
  look-space at s e = record { on = skip 1 at text (32 ∷ s) e; token = rw e }

  -- ---- marks

  pub stands-is : (sort at : ℕ) (t : Standing) → token_at text at ≡ t → stands text sort at ≡ eqb (sort_of t.kind) sort
  unfolding stands
  stands-is sort at t e = rw e

  module _ (at p : ℕ) (s : List ℕ) where
    pub lparen-token : Look at p (40 ∷ s) → token_at text at ≡ token (done LParen) p 1
    unfolding token_from
    lparen-token k = k.token

    pub rparen-token : Look at p (41 ∷ s) → token_at text at ≡ token (done RParen) p 1
    unfolding token_from
    rparen-token k = k.token

    pub comma-token : Look at p (44 ∷ s) → token_at text at ≡ token (done Comma) p 1
    unfolding token_from
    comma-token k = k.token

    pub colon-token : Look at p (58 ∷ s) → token_at text at ≡ token (done Colon) p 1
    unfolding token_from
    colon-token k = k.token

  module _ (at : ℕ) (s : List ℕ) where
    pub need-lparen : drop at text ≡ 40 ∷ s → need text lparen at ≡ done (token (done LParen) at 1)
    need-lparen e = here text lparen at (token (done LParen) at 1) (sym (lparen-token at at s (look-here at (40 ∷ s) e))) refl

    pub need-lparen-behind : drop at text ≡ 32 ∷ 40 ∷ s → need text lparen at ≡ done (token (done LParen) (at + 1) 1)
    need-lparen-behind e = here text lparen at (token (done LParen) (at + 1) 1) (sym (lparen-token at (at + 1) s (look-space at (40 ∷ s) e))) refl

    pub need-rparen : drop at text ≡ 41 ∷ s → need text rparen at ≡ done (token (done RParen) at 1)
    need-rparen e = here text rparen at (token (done RParen) at 1) (sym (rparen-token at at s (look-here at (41 ∷ s) e))) refl

    pub need-comma : drop at text ≡ 44 ∷ s → need text comma at ≡ done (token (done Comma) at 1)
    need-comma e = here text comma at (token (done Comma) at 1) (sym (comma-token at at s (look-here at (44 ∷ s) e))) refl

    pub need-colon : drop at text ≡ 58 ∷ s → need text colon at ≡ done (token (done Colon) at 1)
    need-colon e = here text colon at (token (done Colon) at 1) (sym (colon-token at at s (look-here at (58 ∷ s) e))) refl

    pub rparen-stands : (sort : ℕ) → drop at text ≡ 41 ∷ s → stands text sort at ≡ eqb rparen sort
    rparen-stands sort e = stands-is sort at (token (done RParen) at 1) (rparen-token at at s (look-here at (41 ∷ s) e))

    pub comma-stands : (sort : ℕ) → drop at text ≡ 44 ∷ s → stands text sort at ≡ eqb comma sort
    comma-stands sort e = stands-is sort at (token (done Comma) at 1) (comma-token at at s (look-here at (44 ∷ s) e))

  pub closes : (r : Row) (kids : Forest Row) (at : ℕ) (s : List ℕ) → drop at text ≡ 41 ∷ s
      → close_at text r kids at ≡ done (record { row = r; kids = kids; next = at + 1 })
  unfolding close_at
  closes r kids at s e = rw (need-rparen at s e)

  -- ---- listed words

  -- a token of a sort and a value, behind which s stands
  pub record Found (k v at : ℕ) (s : List ℕ) : Type 0 where
    pub token : Standing
    pub found : token_at text at ≡ token
    pub sort : sort_of token.kind ≡ k
    pub value : value_of token.kind ≡ v
    pub after : drop token.next text ≡ s

  pub found_word : (k v at p : ℕ) (w s : List ℕ) → WordOf k v w → Stop s → Look at p (w ++ s) → Found k v at s
  found_word k v at p w s h st l =
      record {
        token = token (find w words) p (length w);
        found = l.token ∙ listed_token p w s h.listed st;
        sort = h.sort;
        value = h.value;
        after = skip_word p text w s l.on;
      }

  pub need-found : (k v at : ℕ) (s : List ℕ) (f : Found k v at s) → need text k at ≡ done f.token
  need-found k v at s f = here text k at f.token (sym f.found) f.sort

  -- ---- numbers

  -- a number that a range takes, and what is kept of it
  pub record NumberRead (least most at : ℕ) (keep : Out TokenKind → ℕ) (v : ℕ) (s : List ℕ) : Type 0 where
    pub token : Standing
    pub reads : number_in text least most at ≡ done token
    pub value : keep token.kind ≡ v
    pub after : drop token.next text ≡ s

  pub number_read : (least most : ℕ) (keep : Out TokenKind → ℕ) (n at p v : ℕ) (s : List ℕ) → n ≤ most → n < 2 ^ 63 → keep (done (Integer false n)) ≡ v → Stop s
      → Look at p (digits n ++ s) → NumberRead least most at keep v s
  unfolding number_in
  number_read least most keep n at p v s h small e st k =
      let t : token_at text at ≡ token (done (Integer false n)) p (length (digits n)) = k.token ∙ number_token_lem p n s small st in
      record {
        token = token (done (Integer false n)) p (length (digits n));
        reads = rw (here text integer at (token (done (Integer false n)) p (length (digits n))) (sym t) refl, le-leb n most h);
        value = e;
        after = skip_word p text (digits n) s k.on;
      }

  pub minus-read : (least most : ℕ) (keep : Out TokenKind → ℕ) (n at p v : ℕ) (s : List ℕ) → n ≤ least → n ≤ 2 ^ 63 → keep (done (Integer true n)) ≡ v → Stop s
      → Look at p (45 ∷ (digits n ++ s)) → NumberRead least most at keep v s
  unfolding number_in
  minus-read least most keep n at p v s h small e st k =
      let t : token_at text at ≡ token (done (Integer true n)) p (suc (length (digits n))) = k.token ∙ minus_token p n s small st in
      record {
        token = token (done (Integer true n)) p (suc (length (digits n)));
        reads = rw (here text integer at (token (done (Integer true n)) p (suc (length (digits n)))) (sym t) refl, le-leb n least h);
        value = e;
        after = skip_word p text (45 ∷ digits n) s k.on;
      }

  -- ---- quoted strings

  pub record Quoted (k at : ℕ) (name s : List ℕ) : Type 0 where
    pub token : Standing
    pub found : token_at text at ≡ token
    pub sort : sort_of token.kind ≡ k
    pub bytes : part text token.start token.size ≡ name
    pub after : drop token.next text ≡ s

  pub need-quoted : (k at : ℕ) (name s : List ℕ) (q : Quoted k at name s) → need text k at ≡ done q.token
  need-quoted k at name s q = here text k at q.token (sym q.found) q.sort

  -- the bytes that stand at a place
  part-here : (at : ℕ) (w s : List ℕ) → 0 < length w → drop at text ≡ w ++ s → part text at (length w) ≡ w
  part-here at w s p h =
      let n : length text - at ≡ length w + length s = sym (length-drop at text) ∙ ap length h ∙ length-append w s in
      rw (le-leb (at + length w) (length text) (omega arith), h, take-append_seam w s)

  -- a string between two marks q
  string-read : (kind : TokenKind) (k q at p : ℕ) (name s : List ℕ) → sort_of (done kind) ≡ k → T (is_name name) → Look at p (q ∷ (name ++ (q ∷ s)))
      → token_from p (q ∷ (name ++ (q ∷ s))) ≡ string_token kind p (some (length name)) → Quoted k at name s
  string-read kind k q at p [] s so h l e = absurd h
  string-read kind k q at p (c ∷ w) s so h l e =
      let e₁ : drop (p + 1) text ≡ (c ∷ w) ++ (q ∷ s) = skip 1 p text (q ∷ ((c ∷ w) ++ (q ∷ s))) l.on in
      record {
        token = string_token kind p (some (suc (length w)));
        found = l.token ∙ e;
        sort = so;
        bytes = part-here (p + 1) (c ∷ w) (q ∷ s) (omega arith) e₁;
        after = skip 1 (p + 1 + suc (length w)) text (q ∷ s) (skip_word (p + 1) text (c ∷ w) (q ∷ s) e₁);
      }

  pub double-read : (at p : ℕ) (name s : List ℕ) → T (is_name name) → T (is_plain_text name) → Look at p (quoted name ++ s) → Quoted double_quoted at name s
  unfolding quoted token_from
  double-read at p name s h pl l =
      let e : quoted name ++ s ≡ 34 ∷ (name ++ (34 ∷ s)) = rw (escaped_plain name pl) (ap (λ (r : List ℕ). 34 ∷ r) (append_assoc name (34 ∷ []) s)) in
      string-read DoubleQuotedString double_quoted 34 at p name s refl h (rw e at l) (rw (until_double name s pl))

  pub single-read : (at p : ℕ) (name s : List ℕ) → T (is_name name) → T (is_plain_text name) → Look at p (39 ∷ (name ++ (39 ∷ s))) → Quoted single_quoted at name s
  unfolding token_from
  single-read at p name s h pl l = string-read SingleQuotedString single_quoted 39 at p name s refl h l (rw (until_single name s pl))
