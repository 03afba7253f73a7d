-- Types without children, read back: leaves, timestamps, times, intervals, fixed-size binaries, decimals.
use Rattle.std.specs.Prelude.{if◌then◌else◌}
use mathlib.Core.Path.{◌≡◌, refl, ap, ◌∙◌}
use mathlib.Core.Bool.{Bool, true, false}
use mathlib.Core.List.{List, [], ◌∷◌, ◌++◌, append_assoc}
use Prim.Native.Nat.{ℕ, zero, suc, ◌+◌, ◌-◌, ◌^◌, ◌≤◌, ◌<◌}
use native.Mathlib.Omega.{arith}
use lib.ListN.{length, drop, length-drop}
use lib.Dec.{T, ltb}
use borrow.Author.Tests.{ltb-true, ltb-false}
use Rattle.tokenizer.specs.Text.{bytes}
use Rattle.tokenizer.specs.Answer.{Out, done, refuse_at}
use Rattle.tokenizer.specs.Words.{words}
use Rattle.tokenizer.specs.Token.{is_separator, is_digit, value_of, time_unit, interval_unit, double_quoted, rparen, none_word, some_word}
use Rattle.tokenizer.proofs.Basics.{skip, is_true}
use Rattle.datatype.specs.Kind.{leaf, timestamp, time, interval, fixed, decimal, unit_fits, decimal_fits}
use Rattle.datatype.specs.Tree.{Forest, ∅, node, roots, Label, name_list, zone_of, labels}
use Rattle.row_table.specs.Sound.{arity_fits, no_child, rules_of, zone_fits, shape_fits}
use Rattle.parser.specs.Parse.{Zone, Tree, bare_row, scale_of, unit_at, zone_string, zone_at, timestamp_at, time_at, interval_at, fixed_size_binary_at, scale_at, decimal_at}
use Rattle.writer.specs.Digits.{digits}
use Rattle.display_length.specs.Display.{microsecond_text, unit_text, interval_text, scale_text, zone_text, quoted, shape_text, shown}
use Rattle.display_length.specs.declared.words.Spelling.{Spelling}
use Rattle.display_length.specs.declared.words.Spelling.TheVariants.{Us, Micro}
use Rattle.round_trip.specs.Plain.{is_plain_text}
use Rattle.round_trip.proofs.Tokens.{Stop, mark_stop, comma_stop, is_listed_word, is_word_of, WordOf, word_is}
use Rattle.round_trip.proofs.PlainRows.{ShapeRow, bare_label, no_zone}
use Rattle.round_trip.proofs.Pieces.{Look, look-here, look-space, need-lparen, need-rparen, need-comma, rparen-stands, comma-stands, stands-is, closes, Found, found_word, need-found, NumberRead, number_read, minus-read, Quoted, need-quoted, double-read}
use Rattle.round_trip.proofs.Types.{TreeRead, zone-none, bare-row, bare-tree}

-- ---- the words of units

-- both spellings are listed
microsecond_word : (spelling : Spelling) → WordOf time_unit 2 (microsecond_text spelling)
unfolding microsecond_text is_word_of is_listed_word words is_separator is_digit
microsecond_word Us = word_is time_unit 2 (bytes "us") tt
microsecond_word Micro = word_is time_unit 2 (bytes "µs") tt

unit_word : (spelling : Spelling) (u : ℕ) → u < 4 → WordOf time_unit u (unit_text spelling u)
unfolding unit_text is_word_of is_listed_word words is_separator is_digit
unit_word spelling zero h = word_is time_unit 0 (bytes "s") tt
unit_word spelling (suc zero) h = word_is time_unit 1 (bytes "ms") tt
unit_word spelling (suc (suc zero)) h = microsecond_word spelling
unit_word spelling (suc (suc (suc zero))) h = word_is time_unit 3 (bytes "ns") tt
unit_word spelling (suc (suc (suc (suc u)))) h = absurd (omega arith)

interval_word : (u : ℕ) → u < 3 → WordOf interval_unit u (interval_text u)
unfolding interval_text is_word_of is_listed_word words is_separator is_digit
interval_word zero h = word_is interval_unit 0 (bytes "YearMonth") tt
interval_word (suc zero) h = word_is interval_unit 1 (bytes "DayTime") tt
interval_word (suc (suc zero)) h = word_is interval_unit 2 (bytes "MonthDayNano") tt
interval_word (suc (suc (suc u))) h = absurd (omega arith)

no_kids : (kids : Forest Label) → T (arity_fits no_child (length (roots kids))) → ∅ ≡ kids
unfolding arity_fits
no_kids ∅ h = refl
no_kids (node l k n) h = absurd h

module _ (text : List ℕ) where
  nothing-below : labels text name_list ∅ ≡ ∅
  nothing-below = unfold labels in refl

  below_none : (kids : Forest Label) → T (arity_fits no_child (length (roots kids))) → labels text name_list ∅ ≡ kids
  below_none kids h = nothing-below ∙ no_kids kids h

  -- a row without children and without a zone, with numbers that are what the label says
  module _ (l : Label) (kids : Forest Label) (a : T (arity_fits no_child (length (roots kids)))) (z : l.zone ≡ []) where
    plain_row : (o : Out Tree) (param scale next : ℕ) (rest : List ℕ) → param ≡ l.number → scale ≡ l.scale
        → o ≡ done (record { row = bare_row l.kind param scale 0 0; kids = ∅; next = next }) → drop next text ≡ rest → TreeRead text o (bare_label l) kids rest
    plain_row o param scale next rest p s e d = bare-tree text l kids o param scale ∅ next rest z p s (below_none kids a) e d

  module _ (l : Label) (kids : Forest Label) (at : ℕ) (rest : List ℕ) where
    -- ---- leaves

    pub leaf-read : ShapeRow leaf l kids → drop at text ≡ rest
        → TreeRead text (done (record { row = bare_row l.kind 0 0 0 0; kids = ∅; next = at })) (bare_label l) kids rest
    unfolding rules_of
    leaf-read h e =
        let p = h.number in
        let s = h.scale in
        plain_row l kids h.arity (no_zone l h.zone) _ 0 0 at rest (omega arith) (omega arith) refl e

    -- ---- Time32, Time64, Duration, and Interval

    unit-fits : T (unit_fits l.kind l.number) → (from : ℕ) (s : List ℕ) (u : Found text time_unit l.number from s) → unit_at text l.kind from ≡ done u.token
    unfolding unit_at
    unit-fits h from s u = rw (need-found text time_unit l.number from s u, u.value, is_true (unit_fits l.kind l.number) h)

    time-step : (t : List ℕ) → ShapeRow time l kids → drop at text ≡ 40 ∷ t → Found text time_unit l.number (at + 1) (41 ∷ rest)
        → TreeRead text (time_at text l.kind at) (bare_label l) kids rest
    unfolding rules_of shape_fits time_at
    time-step t h e u =
        let s = h.scale in
        plain_row l kids h.arity (no_zone l h.zone) _ (value_of u.token.kind) 0 (u.token.next + 1) rest u.value (omega arith)
        (rw (need-lparen text at t e, unit-fits h.shape (at + 1) (41 ∷ rest) u, closes text _ ∅ u.token.next rest u.after))
        (skip 1 u.token.next text (41 ∷ rest) u.after)

    pub time-read : (spelling : Spelling) → ShapeRow time l kids → drop at text ≡ shape_text spelling time l (shown spelling kids) ++ rest → TreeRead text (time_at text l.kind at) (bare_label l) kids rest
    unfolding rules_of shape_text
    time-read spelling h e =
        time-step _ h e
        (found_word text time_unit l.number (at + 1) (at + 1) (unit_text spelling l.number) (41 ∷ rest) (unit_word spelling l.number h.number) (mark_stop rest)
        (look-here text (at + 1) _ (skip 1 at text _ e ∙ append_assoc (unit_text spelling l.number) (41 ∷ []) rest)))

    interval-step : (t : List ℕ) → ShapeRow interval l kids → drop at text ≡ 40 ∷ t → Found text interval_unit l.number (at + 1) (41 ∷ rest)
        → TreeRead text (interval_at text l.kind at) (bare_label l) kids rest
    unfolding rules_of interval_at
    interval-step t h e u =
        let s = h.scale in
        plain_row l kids h.arity (no_zone l h.zone) _ (value_of u.token.kind) 0 (u.token.next + 1) rest u.value (omega arith)
        (rw (need-lparen text at t e, need-found text interval_unit l.number (at + 1) (41 ∷ rest) u, closes text _ ∅ u.token.next rest u.after))
        (skip 1 u.token.next text (41 ∷ rest) u.after)

    pub interval-read : (spelling : Spelling) → ShapeRow interval l kids → drop at text ≡ shape_text spelling interval l (shown spelling kids) ++ rest
        → TreeRead text (interval_at text l.kind at) (bare_label l) kids rest
    unfolding rules_of shape_text
    interval-read spelling h e =
        interval-step _ h e
        (found_word text interval_unit l.number (at + 1) (at + 1) (interval_text l.number) (41 ∷ rest) (interval_word l.number h.number) (mark_stop rest)
        (look-here text (at + 1) _ (skip 1 at text _ e ∙ append_assoc (interval_text l.number) (41 ∷ []) rest)))

    -- ---- FixedSizeBinary

    fixed-step : (t : List ℕ) → ShapeRow fixed l kids → drop at text ≡ 40 ∷ t → NumberRead text 0 (2 ^ 31 - 1) (at + 1) value_of l.number (41 ∷ rest)
        → TreeRead text (fixed_size_binary_at text l.kind at) (bare_label l) kids rest
    unfolding rules_of fixed_size_binary_at
    fixed-step t h e n =
        let s = h.scale in
        plain_row l kids h.arity (no_zone l h.zone) _ (value_of n.token.kind) 0 (n.token.next + 1) rest n.value (omega arith)
        (rw (need-lparen text at t e, n.reads, closes text _ ∅ n.token.next rest n.after))
        (skip 1 n.token.next text (41 ∷ rest) n.after)

    pub fixed-read : (spelling : Spelling) → ShapeRow fixed l kids → drop at text ≡ shape_text spelling fixed l (shown spelling kids) ++ rest
        → TreeRead text (fixed_size_binary_at text l.kind at) (bare_label l) kids rest
    unfolding rules_of shape_text
    fixed-read spelling h e =
        let p : l.number < 2 ^ 31 = h.number in
        fixed-step _ h e
        (number_read text 0 (2 ^ 31 - 1) value_of l.number (at + 1) (at + 1) l.number (41 ∷ rest) (omega arith) (omega arith) refl (mark_stop rest)
        (look-here text (at + 1) _ (skip 1 at text _ e ∙ append_assoc (digits l.number) (41 ∷ []) rest)))

  -- ---- decimals of any kind: precision and scale are judged behind the mark

  -- the text of a precision and a scale, read as the row of a kind, or refused
  pub record DecimalRead (k p s at : ℕ) (rest : List ℕ) : Type 0 where
    pub next : ℕ
    pub reads : decimal_at text k at ≡ (if decimal_fits k p s then done (record { row = bare_row k p s 0 0; kids = ∅; next = next }) else refuse_at 12 (next - 1))
    pub after : drop next text ≡ rest
    pub inside : next ≤ length text

  scale-read : (s from p : ℕ) (rest : List ℕ) → s < 256 → Look text from p (scale_text s ++ (41 ∷ rest)) → NumberRead text 128 127 from scale_of s (41 ∷ rest)
  unfolding scale_text
  scale-read s from p rest lt = go (ltb s 128) refl
    where
      go : (b : Bool) → ltb s 128 ≡ b → Look text from p ((if b then (45 ∷ digits (128 - s)) else digits (s - 128)) ++ (41 ∷ rest))
          → NumberRead text 128 127 from scale_of s (41 ∷ rest)
      go true e k =
          let h : s < 128 = ltb-true s 128 e in
          minus-read text 128 127 scale_of (128 - s) from p s (41 ∷ rest) (omega arith) (omega arith) (omega arith) (mark_stop rest) k
      go false e k =
          let h : 128 ≤ s = ltb-false s 128 e in
          number_read text 128 127 scale_of (s - 128) from p s (41 ∷ rest) (omega arith) (omega arith) (omega arith) (mark_stop rest) k

  module _ (k p s at : ℕ) (rest : List ℕ) where
    decimal_step : (t t₂ : List ℕ) → drop at text ≡ 40 ∷ t → (n : NumberRead text 0 255 (at + 1) value_of p (44 ∷ t₂))
        → NumberRead text 128 127 (n.token.next + 1) scale_of s (41 ∷ rest) → DecimalRead k p s at rest
    unfolding decimal_at scale_at
    decimal_step t t₂ e n m =
        record {
          next = m.token.next + 1;
          reads =
              rw (
                need-lparen text at t e,
                n.reads,
                need-comma text n.token.next t₂ n.after,
                m.reads,
                n.value,
                m.value,
                closes text (bare_row k p s 0 0) ∅ m.token.next rest m.after,
              );
          after = skip 1 m.token.next text (41 ∷ rest) m.after;
          inside = let l = length-drop m.token.next text in let z = ap length m.after in omega arith;
        }

    pub decimal-any : p < 256 → s < 256 → drop at text ≡ (bytes "(" ++ (digits p ++ (bytes ", " ++ (scale_text s ++ bytes ")")))) ++ rest → DecimalRead k p s at rest
    decimal-any h j e =
        precise
        (number_read text 0 255 value_of p (at + 1) (at + 1) p (44 ∷ 32 ∷ tail) (omega arith) (omega arith) refl (comma_stop (32 ∷ tail))
        (look-here text (at + 1) _ (skip 1 at text _ e ∙ append_assoc (digits p) _ rest ∙ ap (λ (r : List ℕ). digits p ++ (44 ∷ 32 ∷ r)) (append_assoc (scale_text s) (41 ∷ []) rest))))
      where
        tail : List ℕ
        tail = scale_text s ++ (41 ∷ rest)

        precise : NumberRead text 0 255 (at + 1) value_of p (44 ∷ 32 ∷ tail) → DecimalRead k p s at rest
        precise n =
            decimal_step _ (32 ∷ tail) e n
            (scale-read s (n.token.next + 1) (n.token.next + 1 + 1) rest j (look-space text (n.token.next + 1) tail (skip 1 n.token.next text (44 ∷ 32 ∷ tail) n.after)))

  pub decimal-read : (spelling : Spelling) (l : Label) (kids : Forest Label) (at : ℕ) (rest : List ℕ) → ShapeRow decimal l kids → drop at text ≡ shape_text spelling decimal l (shown spelling kids) ++ rest
      → TreeRead text (decimal_at text l.kind at) (bare_label l) kids rest
  unfolding rules_of shape_fits shape_text
  decimal-read spelling l kids at rest h e = fits (decimal-any l.kind l.number l.scale at rest h.number h.scale e)
    where
      fits : DecimalRead l.kind l.number l.scale at rest → TreeRead text (decimal_at text l.kind at) (bare_label l) kids rest
      fits d =
          plain_row l kids h.arity (no_zone l h.zone) _ l.number l.scale d.next rest refl refl
          (d.reads ∙ rw (is_true (decimal_fits l.kind l.number l.scale) h.shape)) d.after

  -- ---- Timestamp(unit[, "zone"])

  record ZoneRead (z : List ℕ) (at : ℕ) (rest : List ℕ) : Type 0 where
    got : Zone
    reads : zone_at text at ≡ done got
    bytes : zone_of text got.start got.size ≡ z
    after : drop got.next text ≡ rest

  zone-empty : (at : ℕ) (rest : List ℕ) → drop at text ≡ 41 ∷ rest → ZoneRead [] at rest
  unfolding zone_at
  zone-empty at rest e =
      record {
        got = record { start = 0; size = 0; next = at + 1 };
        reads = rw (rparen-stands text at rest rparen e, need-rparen text at rest e);
        bytes = zone-none text;
        after = skip 1 at text (41 ∷ rest) e;
      }

  string-zone : (z : List ℕ) (at : ℕ) (s : List ℕ) (q : Quoted text double_quoted at z s)
      → zone_string text at ≡ done (record { start = q.token.start; size = q.token.size; next = q.token.next })
  unfolding zone_string
  string-zone z at s q =
      rw (stands-is text none_word at q.token q.found, stands-is text some_word at q.token q.found, q.sort, need-quoted text double_quoted at z s q)

  zone-given : (z : List ℕ) (at : ℕ) (t rest : List ℕ) → drop at text ≡ 44 ∷ t → Quoted text double_quoted (at + 1) z (41 ∷ rest) → ZoneRead z at rest
  unfolding zone_at zone_of
  zone-given z at t rest e q =
      record {
        got = record { start = q.token.start; size = q.token.size; next = q.token.next + 1 };
        reads =
            rw (
              comma-stands text at t rparen e,
              need-comma text at t e,
              string-zone z (at + 1) (41 ∷ rest) q,
              need-rparen text q.token.next rest q.after,
            );
        bytes = q.bytes;
        after = skip 1 q.token.next text (41 ∷ rest) q.after;
      }

  zone-read : (z : List ℕ) (at : ℕ) (rest : List ℕ) → T (zone_fits true z) → T (is_plain_text z) → drop at text ≡ zone_text z ++ (41 ∷ rest) → ZoneRead z at rest
  unfolding zone_text zone_fits
  zone-read [] at rest u h e = zone-empty at rest e
  zone-read (c ∷ z) at rest u h e =
      let s : List ℕ = quoted (c ∷ z) ++ (41 ∷ rest) in
      zone-given (c ∷ z) at (32 ∷ s) rest e (double-read text (at + 1) (at + 1 + 1) (c ∷ z) (41 ∷ rest) u h (look-space text (at + 1) s (skip 1 at text (44 ∷ 32 ∷ s) e)))

  zone-stop : (z rest : List ℕ) → Stop (zone_text z ++ (41 ∷ rest))
  unfolding zone_text is_separator
  zone-stop [] rest = tt
  zone-stop (c ∷ z) rest = tt

  module _ (l : Label) (kids : Forest Label) (at : ℕ) (rest : List ℕ) where
    timestamp-step : (t t₂ : List ℕ) → ShapeRow timestamp l kids → drop at text ≡ 40 ∷ t → (u : Found text time_unit l.number (at + 1) t₂)
        → ZoneRead l.zone u.token.next rest → TreeRead text (timestamp_at text l.kind at) (bare_label l) kids rest
    unfolding rules_of timestamp_at
    timestamp-step t t₂ h e u z =
        let s = h.scale in
        record {
          got = record { row = bare_row l.kind (value_of u.token.kind) 0 z.got.start z.got.size; kids = ∅; next = z.got.next };
          reads = rw (need-lparen text at t e, need-found text time_unit l.number (at + 1) t₂ u, z.reads);
          after = z.after;
          row = bare-row text l (value_of u.token.kind) 0 z.got.start z.got.size u.value (omega arith) z.bytes;
          below = below_none kids h.arity;
        }

    pub timestamp-read : (spelling : Spelling) → ShapeRow timestamp l kids → drop at text ≡ shape_text spelling timestamp l (shown spelling kids) ++ rest
        → TreeRead text (timestamp_at text l.kind at) (bare_label l) kids rest
    unfolding rules_of shape_text
    timestamp-read spelling h e =
        zoned (found_word text time_unit l.number (at + 1) (at + 1) (unit_text spelling l.number) tail (unit_word spelling l.number h.number) (zone-stop l.zone rest)
        (look-here text (at + 1) _
        (skip 1 at text _ e ∙ append_assoc (unit_text spelling l.number) _ rest ∙ ap (λ (r : List ℕ). unit_text spelling l.number ++ r) (append_assoc (zone_text l.zone) (41 ∷ []) rest))))
      where
        tail : List ℕ
        tail = zone_text l.zone ++ (41 ∷ rest)

        zoned : Found text time_unit l.number (at + 1) tail → TreeRead text (timestamp_at text l.kind at) (bare_label l) kids rest
        zoned u = timestamp-step _ tail h e u (zone-read l.zone u.token.next rest h.zone h.plain u.after)
