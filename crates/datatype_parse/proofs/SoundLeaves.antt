-- Types without children: what is read behind the word of a kind is sound.
use mathlib.Core.Path.{◌≡◌, refl}
use mathlib.Core.List.{List}
use Prim.Native.Nat.{ℕ, suc, ◌-◌, ◌^◌, ◌<◌}
use native.Mathlib.Omega.{arith}
use lib.Dec.{T, ltb, ltb→lt}
use Rattle.tokenizer.specs.Answer.{done}
use Rattle.tokenizer.specs.Utf8.{is_utf8}
use Rattle.tokenizer.specs.Token.{Standing, value_of, lparen, rparen, comma, time_unit, interval_unit}
use Rattle.datatype.specs.Kind.{Shape, leaf, timestamp, time, interval, fixed, decimal, kinds, shape_of, decimal_fits}
use Rattle.datatype.specs.Tree.{Forest, ∅, node, Row}
use Rattle.row_table.specs.Sound.{bare, arity_fits, rules_of}
use Rattle.row_table.specs.Internal.Check.{zone_ok}
use Rattle.parser.specs.Parse.{bare_row, Tree, scale_of, need, length_at, precision_at, signed_byte_at, unit_at, close_at, zone_at, timestamp_at, time_at, interval_at, fixed_size_binary_at, scale_at, decimal_at}
use Rattle.parser.proofs.Holds.{Holds, holds_bind, holds_then}
use Rattle.datatype_parse.proofs.TokenFacts.{holds_when, need-value, Limited, number-limited, unit-value, limit_most, scale_most, Zoned, zone-zoned}
use Rattle.datatype_parse.proofs.SoundRows.{run-empty, Asked, Fits, Typed, fits-type}

module _ (text : List ℕ) (level rows : ℕ) where
  -- A type that is whole: its levels are one more than those left below it, and so are its rows.
  abbrev pub Whole : Tree → Type 0
  Whole t = Typed text bare (suc level) (suc rows) t

  pub closed : (r : Row) (kids : Forest Row) (at : ℕ) → Fits text bare (suc level) (suc rows) (node r kids ∅) → Holds Whole (close_at text r kids at)
  unfolding close_at
  closed r kids at h = holds_bind Whole (need text rparen at) _ λ c. h

  module _ (k : ℕ) (low : k < kinds) where
    childless : (param scale zone_start zone_length : ℕ) (sh : Shape) → shape_of k ≡ sh → Asked text sh k param scale zone_start zone_length ∅
        → Fits text bare (suc level) (suc rows) (node (bare_row k param scale zone_start zone_length) ∅ ∅)
    childless param scale zone_start zone_length sh e a =
        fits-type text level rows k param scale zone_start zone_length ∅ low sh e a (run-empty text (rules_of sh).below level) (omega arith)

    pub leaf-sound : (at : ℕ) → shape_of k ≡ leaf → Whole (record { row = bare_row k 0 0 0 0; kids = ∅; next = at })
    unfolding rules_of zone_ok arity_fits
    leaf-sound at e = childless 0 0 0 0 leaf e (record { params = omega arith; scales = omega arith; shape = tt; zone = tt; arity = tt; over = tt })

    pub timestamp-sound : (good : T (is_utf8 text)) (at : ℕ) → shape_of k ≡ timestamp → Holds Whole (timestamp_at text k at)
    unfolding timestamp_at rules_of arity_fits
    timestamp-sound good at e =
        holds_bind Whole (need text lparen at) _ λ p.
        holds_then (λ (u : Standing). T (ltb (value_of u.kind) 4)) Whole (need text time_unit p.next) _ (need-value text time_unit p.next) λ u h.
        holds_then (Zoned text good) Whole (zone_at text u.next) _ (zone-zoned text good u.next) λ z w.
        childless (value_of u.kind) 0 z.start z.size timestamp e
        (record { params = ltb→lt (value_of u.kind) 4 h; scales = omega arith; shape = tt; zone = w; arity = tt; over = tt })

    pub time-sound : (at : ℕ) → shape_of k ≡ time → Holds Whole (time_at text k at)
    unfolding time_at rules_of zone_ok arity_fits
    time-sound at e =
        holds_bind Whole (need text lparen at) _ λ p.
        holds_then _ Whole (unit_at text k p.next) _ (unit-value text k p.next) λ u h.
        closed (bare_row k (value_of u.kind) 0 0 0) ∅ u.next
        (childless (value_of u.kind) 0 0 0 time e (record { params = ltb→lt (value_of u.kind) 4 h.0; scales = omega arith; shape = h.1; zone = tt; arity = tt; over = tt }))

    pub interval-sound : (at : ℕ) → shape_of k ≡ interval → Holds Whole (interval_at text k at)
    unfolding interval_at rules_of zone_ok arity_fits
    interval-sound at e =
        holds_bind Whole (need text lparen at) _ λ p.
        holds_then (λ (u : Standing). T (ltb (value_of u.kind) 3)) Whole (need text interval_unit p.next) _ (need-value text interval_unit p.next) λ u h.
        closed (bare_row k (value_of u.kind) 0 0 0) ∅ u.next
        (childless (value_of u.kind) 0 0 0 interval e (record { params = ltb→lt (value_of u.kind) 3 h; scales = omega arith; shape = tt; zone = tt; arity = tt; over = tt }))

    pub fixed-sound : (at : ℕ) → shape_of k ≡ fixed → Holds Whole (fixed_size_binary_at text k at)
    unfolding fixed_size_binary_at rules_of zone_ok arity_fits
    fixed-sound at e =
        holds_bind Whole (need text lparen at) _ λ p.
        holds_then (Limited 0 (2 ^ 31 - 1)) Whole (length_at text p.next) _ (number-limited text 0 (2 ^ 31 - 1) p.next) λ n h.
        let m = limit_most n.kind (2 ^ 31 - 1) h in
        closed (bare_row k (value_of n.kind) 0 0 0) ∅ n.next
        (childless (value_of n.kind) 0 0 0 fixed e (record { params = omega arith; scales = omega arith; shape = tt; zone = tt; arity = tt; over = tt }))

    scale-sound : (precision at : ℕ) → precision < 256 → shape_of k ≡ decimal → Holds Whole (scale_at text k precision at)
    unfolding scale_at close_at rules_of zone_ok arity_fits
    scale-sound precision at h e =
        holds_then (Limited 128 127) Whole (signed_byte_at text at) _ (number-limited text 128 127 at) λ s l.
        let row = bare_row k precision (scale_of s.kind) 0 0 in
        holds_then (λ (t : Tree). (t.row ≡ row) × (t.kids ≡ ∅)) Whole (close_at text row ∅ s.next) _
        (holds_bind (λ (t : Tree). (t.row ≡ row) × (t.kids ≡ ∅)) (need text rparen s.next) _ (λ c. (refl, refl))) λ t w.
        holds_when Whole (decimal_fits k precision (scale_of s.kind)) (done t) _
        (λ d. rw (w.0, w.1) (childless precision (scale_of s.kind) 0 0 decimal e (record { params = h; scales = scale_most s.kind l; shape = d; zone = tt; arity = tt; over = tt }))) tt

    pub decimal-sound : (at : ℕ) → shape_of k ≡ decimal → Holds Whole (decimal_at text k at)
    unfolding decimal_at
    decimal-sound at e =
        holds_bind Whole (need text lparen at) _ λ p.
        holds_then (Limited 0 255) Whole (precision_at text p.next) _ (number-limited text 0 255 p.next) λ n h.
        let m = limit_most n.kind 255 h in
        holds_bind Whole (need text comma n.next) _ λ c. scale-sound (value_of n.kind) c.next (omega arith) e
