-- Every text that is printed is UTF-8: names and zones are, and escapes keep them so.
--   display_utf8   the printed text of trees whose rows fit
--   print-utf8     so, what the printer prints, whatever it is given
--   output-utf8    and what then stands at the start of the output
use Rattle.std.specs.Prelude.{if◌then◌else◌}
use mathlib.Core.Path.{◌≡◌, refl, sym, ap, ◌∙◌, subst}
use mathlib.Core.Bool.{Bool, true, false, ◌||◌, and-false}
use mathlib.Core.List.{List, [], ◌∷◌, ◌++◌}
use Prim.Native.Nat.{ℕ, zero, suc, ◌+◌, ◌-◌, ◌/◌, ◌%◌, ◌≤◌, ◌<◌, min}
use native.Mathlib.Nat.{mod-lt}
use native.Mathlib.Decide.{dec_lt, ℕ_discrete}
use native.Mathlib.Omega.{arith}
use lib.ListN.{length, take, drop}
use lib.Seq.{take-append_seam}
use lib.Dec.{T, leb, ltb, eqb, eqb→eq}
use borrow.Author.Tests.{lt-ltb, le-ltb, le-leb, lt-leb, eq-eqb, ne_eqb}
use Rattle.tokenizer.specs.Text.{bytes, same}
use Rattle.tokenizer.specs.Words.{words}
use Rattle.tokenizer.specs.Answer.{Out, refused, done, refuse}
use Rattle.tokenizer.specs.Utf8.{utf8_step, utf8_state, is_utf8}
use Rattle.tokenizer.proofs.Basics.{of_true, if_same}
use Rattle.tokenizer.proofs.Utf8Laws.{state_append, utf8_state_lem, state_utf8, utf8_append, step_ascii, state_broken}
use Rattle.datatype.specs.Kind.{Shape, leaf, timestamp, time, interval, fixed, list, fixed_list, struct, union, dictionary, decimal, mapping, run_end_encoded, kinds, shape_of}
use Rattle.datatype.specs.Tree.{Forest, ∅, node, Label}
use Rattle.datatype.specs.Table.{tree_of}
use Rattle.row_table.specs.Sound.{Standing, bare, field, union_field, name_fits, zone_fits, rows_fit, is_sound}
use Rattle.datatype.proofs.Tests.{below_at}
use Rattle.row_table.proofs.SoundTree.{RowFits, rules_at, rows_fit_lem, sound_tree, sound-labels}
use Rattle.writer.specs.Digits.{digits_with, digits}
use Rattle.display_length.specs.declared.words.Spelling.{Spelling}
use Rattle.display_length.specs.declared.words.Spelling.TheVariants.{Us, Micro}
use Rattle.display_length.specs.Display.{Shown, kind_word, microsecond_text, unit_text, interval_text, mode_text, sorted_text, scale_text, unicode_text, is_lead, escape, escape_pair, escape_next, escaped_from, escaped, quoted, nullity_text, field_text, list_name_text, list_field_text, struct_text, union_text, zone_text, default_names, run_end_text, shape_text, type_text, shown, display}
use Rattle.display_length.specs.PrintedLength.{quoted_latin}
use Rattle.datatype_display.specs.Print.{print, length_of, print_answer, written, print_bytes}

-- ---- parts

record Clean (s : List ℕ) : Type 0 where
  is : T (is_utf8 s)

infixr 40 ◌then◌
◌then◌ : {a b : List ℕ} → Clean a → Clean b → Clean (a ++ b)
◌then◌ {a} {b} x y = record { is = utf8_append a b x.is y.is }

-- a text that is written out
literal : (s : List ℕ) → T (is_utf8 s) → Clean s
literal s h = record { is = h }

clean_if : (b : Bool) {x y : List ℕ} → Clean x → Clean y → Clean (if b then x else y)
clean_if true h k = h
clean_if false h k = k

ascii_byte : (c : ℕ) → c < 128 → Clean (c ∷ [])
unfolding utf8_state
ascii_byte c h = record { is = state_utf8 (c ∷ []) (step_ascii c h) }

clean_digits : (f n : ℕ) → Clean (digits_with f n)
unfolding digits_with
clean_digits zero n = literal [] (unfold is_utf8 utf8_state in tt)
clean_digits (suc f) n =
    let last : n % 10 < 10 = mod-lt n (omega arith) in
    elim (dec_lt n 10) [
      | yes h ↦ rw (lt-ltb n 10 h) (ascii_byte (48 + n) (omega arith))
      | no h ↦ rw (le-ltb n 10 (omega arith)) (clean_digits f (n / 10) then ascii_byte (48 + n % 10) (omega arith))
    ]

clean_number : (n : ℕ) → Clean (digits n)
unfolding digits
clean_number n = clean_digits (suc n) n

clean_kind : (k : ℕ) → k < kinds → Clean (kind_word k)
unfolding kind_word words is_utf8 utf8_state utf8_step
clean_kind k h = literal (kind_word k) (below_at kinds (λ (n : ℕ). is_utf8 (kind_word n)) tt k h)

clean_microsecond : (spelling : Spelling) → Clean (microsecond_text spelling)
unfolding microsecond_text is_utf8 utf8_state utf8_step
clean_microsecond Us = literal (bytes "us") tt
clean_microsecond Micro = literal (bytes "µs") tt

clean_unit : (spelling : Spelling) (u : ℕ) → Clean (unit_text spelling u)
unfolding unit_text is_utf8 utf8_state utf8_step
clean_unit spelling zero = literal (bytes "s") tt
clean_unit spelling (suc zero) = literal (bytes "ms") tt
clean_unit spelling (suc (suc zero)) = clean_microsecond spelling
clean_unit spelling (suc (suc (suc u))) = literal (bytes "ns") tt

clean_interval : (u : ℕ) → Clean (interval_text u)
unfolding interval_text is_utf8 utf8_state utf8_step
clean_interval zero = literal (bytes "YearMonth") tt
clean_interval (suc zero) = literal (bytes "DayTime") tt
clean_interval (suc (suc u)) = literal (bytes "MonthDayNano") tt

clean_mode : (m : ℕ) → Clean (mode_text m)
unfolding mode_text is_utf8 utf8_state utf8_step
clean_mode zero = literal (bytes "Sparse") tt
clean_mode (suc m) = literal (bytes "Dense") tt

clean_sorted : (b : ℕ) → Clean (sorted_text b)
unfolding sorted_text is_utf8 utf8_state utf8_step
clean_sorted zero = literal (bytes "unsorted") tt
clean_sorted (suc b) = literal (bytes "sorted") tt

clean_scale : (scale : ℕ) → Clean (scale_text scale)
unfolding scale_text is_utf8 utf8_state utf8_step
clean_scale scale = clean_if (ltb scale 128) (literal (bytes "-") tt then clean_number (128 - scale)) (clean_number (scale - 128))

clean_nullity : (l : Label) → Clean (nullity_text l)
unfolding nullity_text is_utf8 utf8_state utf8_step
clean_nullity l = clean_if (eqb l.role 2) (literal (bytes "non-null ") tt) (literal [] tt)

-- ---- strings in double quotes: the automaton is where it would be without the escapes, but that it has not yet seen a C2
-- whose pair is to come

broken_stays : (s : List ℕ) → utf8_state 8 s ≡ 0 → ⊥
broken_stays s e = let z : ◌≡◌ {A = ℕ} 8 0 = sym (state_broken s) ∙ e in omega arith

-- inside a character neither C2 nor ASCII can stand
module _ (q c : ℕ) (n : q ≡ 0 → ⊥) where
  inside-ascii : c < 128 → utf8_step q c ≡ 8
  unfolding utf8_step
  inside-ascii h =
      rw (ne_eqb q 0 n, lt-leb 0x80 c h, lt-leb 0xA0 c (omega arith), lt-leb 0x90 c (omega arith), if_same {X = ℕ} (eqb q 7) 8, if_same {X = ℕ} (eqb q 6) 8, if_same {X = ℕ} (eqb q 5) 8, if_same {X = ℕ} (eqb q 4) 8, if_same {X = ℕ} (eqb q 3) 8, if_same {X = ℕ} (eqb q 2) 8, if_same {X = ℕ} (eqb q 1) 8)

  inside-lead : c ≡ 0xC2 → utf8_step q c ≡ 8
  unfolding utf8_step
  inside-lead e =
      rw (ne_eqb q 0 n, e, if_same {X = ℕ} (eqb q 7) 8, if_same {X = ℕ} (eqb q 6) 8, if_same {X = ℕ} (eqb q 5) 8, if_same {X = ℕ} (eqb q 4) 8, if_same {X = ℕ} (eqb q 3) 8, if_same {X = ℕ} (eqb q 2) 8, if_same {X = ℕ} (eqb q 1) 8)

-- behind C2 a byte from 80 to BF stands
module _ (c : ℕ) where
  pair-low : c < 0x80 → utf8_step 1 c ≡ 8
  unfolding utf8_step
  pair-low h = rw (lt-leb 0x80 c h)

  pair-high : 0xBF < c → utf8_step 1 c ≡ 8
  unfolding utf8_step
  pair-high h = rw (lt-leb c 0xBF h, and-false (leb 0x80 c))

  pair-in : 0x80 ≤ c → c ≤ 0xBF → utf8_step 1 c ≡ 0
  unfolding utf8_step
  pair-in l h = rw (le-leb 0x80 c l, le-leb c 0xBF h)

lead_in : utf8_step 0 0xC2 ≡ 1
unfolding utf8_step
lead_in = refl

-- the states over what stands and over what is written
abbrev Follows : Bool → ℕ → ℕ → Type 0
Follows true q r = (q ≡ 1) × (r ≡ 0)
Follows false q r = r ≡ q

between_ascii : (c : ℕ) → c < 128 → utf8_state 0 (escape c) ≡ 0
unfolding escape unicode_text is_utf8 utf8_state utf8_step
between_ascii c h = eqb→eq (utf8_state 0 (escape c)) 0 (below_at 128 (λ (n : ℕ). eqb (utf8_state 0 (escape n)) 0) tt c h)

between_pair : (c : ℕ) → 0x80 ≤ c → c ≤ 0xBF → utf8_state 0 (escape_pair c) ≡ 0
unfolding escape_pair unicode_text utf8_state utf8_step
between_pair c l h =
    eqb→eq (utf8_state 0 (escape_pair c)) 0
    (or_else (ltb c 0x80) (eqb (utf8_state 0 (escape_pair c)) 0) (le-ltb c 0x80 l) (below_at 0xC0 (λ (n : ℕ). ltb n 0x80 || eqb (utf8_state 0 (escape_pair n)) 0) tt c (omega arith)))
  where
    or_else : (a b : Bool) → a ≡ false → T (a || b) → T b
    or_else a b e t = rw e at t

lead_nothing : (c : ℕ) → c ≡ 0xC2 → escape c ≡ []
unfolding escape
lead_nothing c e = rw e

high_byte : (c : ℕ) → 128 ≤ c → (c ≡ 0xC2 → ⊥) → escape c ≡ c ∷ []
unfolding escape
high_byte c h n =
    rw (ne_eqb c 34 (λ e. omega arith), ne_eqb c 92 (λ e. omega arith), ne_eqb c 0 (λ e. omega arith), ne_eqb c 9 (λ e. omega arith), ne_eqb c 13 (λ e. omega arith), ne_eqb c 10 (λ e. omega arith), le-ltb c 32 (omega arith), ne_eqb c 127 (λ e. omega arith), ne_eqb c 0xC2 n)

-- one byte
module _ (q c : ℕ) (whole : utf8_step q c ≡ 8 → ⊥) where
  follows-pair : q ≡ 1 → Follows (is_lead c) (utf8_step q c) (utf8_state 0 (escape_pair c))
  follows-pair e =
      elim (dec_lt c 0x80) [
        | yes h ↦ absurd (whole (rw e (pair-low c h)))
        | no h ↦
            elim (dec_lt 0xBF c) [
              | yes k ↦ absurd (whole (rw e (pair-high c k)))
              | no k ↦ rw (e, ne_eqb c 0xC2 (λ z. omega arith)) (between_pair c (omega arith) (omega arith) ∙ sym (pair-in c (omega arith) (omega arith)))
            ]
      ]

  follows-lead : c ≡ 0xC2 → Follows true (utf8_step q c) (utf8_state q (escape c))
  unfolding utf8_state
  follows-lead e =
      elim (ℕ_discrete q 0) [
        | yes z ↦ rw (lead_nothing c e, z, e) (lead_in, refl)
        | no z ↦ absurd (whole (inside-lead q c z e))
      ]

  follows-byte : (c ≡ 0xC2 → ⊥) → Follows false (utf8_step q c) (utf8_state q (escape c))
  unfolding utf8_state
  follows-byte n =
      elim (dec_lt c 0x80) [
        | yes h ↦
            elim (ℕ_discrete q 0) [
              | yes z ↦ rw z (between_ascii c h ∙ sym (step_ascii c h))
              | no z ↦ absurd (whole (inside-ascii q c z h))
            ]
        | no h ↦ ap (λ (t : List ℕ). utf8_state q t) (high_byte c (omega arith) n)
      ]

follows_next : (lead : Bool) (q r c : ℕ) → Follows lead q r → (utf8_step q c ≡ 8 → ⊥) → Follows (is_lead c) (utf8_step q c) (utf8_state r (escape_next lead c))
unfolding escape_next
follows_next true q r c f w = rw f.1 (follows-pair q c w f.0)
follows_next false q r c f w =
    rw f
    (elim (ℕ_discrete c 0xC2) [
      | yes e ↦ rw (eq-eqb c 0xC2 e) (follows-lead q c w e)
      | no n ↦ rw (ne_eqb c 0xC2 n) (follows-byte q c w n)
    ])

follows : (lead : Bool) (q r : ℕ) (s : List ℕ) → Follows lead q r → utf8_state q s ≡ 0 → utf8_state r (escaped_from lead s) ≡ 0
unfolding utf8_state escaped_from
follows true q r [] f e = f.1
follows false q r [] f e = f ∙ e
follows lead q r (c ∷ s) f e =
    state_append r (escape_next lead c) (escaped_from (is_lead c) s)
    ∙ follows (is_lead c) (utf8_step q c) (utf8_state r (escape_next lead c)) s (follows_next lead q r c f (λ z. broken_stays s (rw z at e))) e

clean_escaped : (s : List ℕ) → Clean s → Clean (escaped s)
unfolding escaped
clean_escaped s h = record { is = state_utf8 (escaped s) (follows false 0 0 s refl (utf8_state_lem s h.is)) }

clean_quoted : (s : List ℕ) → Clean s → Clean (quoted s)
unfolding quoted is_utf8 utf8_state utf8_step
clean_quoted s h = literal (bytes "\"") tt then clean_escaped s h then literal (bytes "\"") tt

clean_zone : (z : List ℕ) → Clean z → Clean (zone_text z)
unfolding zone_text is_utf8 utf8_state utf8_step
clean_zone [] h = literal [] tt
clean_zone (c ∷ z) h = literal (bytes ", ") tt then clean_quoted (c ∷ z) h

-- ---- fields

-- a printed type whose row has a name that is UTF-8, and a run of such
record CleanShown (k : Shown) : Type 0 where
  name : Clean k.label.name
  text : Clean k.text

abbrev AllClean : List Shown → Type 0
AllClean [] = Unit {0}
AllClean (k ∷ ks) = CleanShown k × AllClean ks

clean_field : (k : Shown) → CleanShown k → Clean (field_text k)
unfolding field_text is_utf8 utf8_state utf8_step
clean_field k h = clean_quoted k.label.name h.name then literal (bytes ": ") tt then clean_nullity k.label then h.text

clean_list_field : (k : Shown) → CleanShown k → Clean (list_field_text k)
unfolding list_field_text list_name_text is_utf8 utf8_state utf8_step
clean_list_field k h =
    clean_nullity k.label then h.text
    then clean_if (same k.label.name (bytes "item")) (literal [] tt) (literal (bytes ", field: '") tt then h.name then literal (bytes "'") tt)

clean_struct : (ks : List Shown) → AllClean ks → Clean (struct_text ks)
unfolding struct_text is_utf8 utf8_state utf8_step
clean_struct [] h = literal [] tt
clean_struct (k ∷ []) h = clean_field k h.0
clean_struct (k ∷ j ∷ ks) h = clean_field k h.0 then literal (bytes ", ") tt then clean_struct (j ∷ ks) h.1

clean_union : (ks : List Shown) → AllClean ks → Clean (union_text ks)
unfolding union_text is_utf8 utf8_state utf8_step
clean_union [] h = literal [] tt
clean_union (k ∷ ks) h =
    literal (bytes ", ") tt then clean_number k.label.union_id then literal (bytes ": (") tt then clean_field k h.0 then literal (bytes ")") tt then clean_union ks h.1

clean_run_ends : (r v : Shown) → CleanShown r → CleanShown v → Clean (run_end_text r v)
unfolding run_end_text is_utf8 utf8_state utf8_step
clean_run_ends r v h k =
    clean_if (default_names r.label v.label)
    (clean_nullity r.label then h.text then literal (bytes ", ") tt then clean_nullity v.label then k.text)
    (clean_field r h then literal (bytes ", ") tt then clean_field v k)

-- ---- names and zones of rows that fit

clean_name : (place : Standing) (name : List ℕ) → T (name_fits place name) → Clean name
unfolding name_fits
clean_name bare [] h = literal [] (unfold is_utf8 utf8_state in tt)
clean_name bare (c ∷ s) h = absurd h
clean_name field [] h = absurd h
clean_name field (c ∷ s) h = literal (c ∷ s) h
clean_name union_field [] h = absurd h
clean_name union_field (c ∷ s) h = literal (c ∷ s) h

zone_clean : (zoned : Bool) (zone : List ℕ) → T (zone_fits zoned zone) → Clean zone
unfolding zone_fits
zone_clean true zone h = literal zone h
zone_clean false [] h = literal [] (unfold is_utf8 utf8_state in tt)
zone_clean false (c ∷ zone) h = absurd h

-- ---- types, in a spelling

module _ (spelling : Spelling) where
  clean_shape : (s : Shape) (l : Label) (ks : List Shown) → Clean l.zone → AllClean ks → Clean (shape_text spelling s l ks)
  unfolding shape_text is_utf8 utf8_state utf8_step
  clean_shape leaf l ks z h = literal [] tt
  clean_shape timestamp l ks z h = literal (bytes "(") tt then clean_unit spelling l.number then clean_zone l.zone z then literal (bytes ")") tt
  clean_shape time l ks z h = literal (bytes "(") tt then clean_unit spelling l.number then literal (bytes ")") tt
  clean_shape interval l ks z h = literal (bytes "(") tt then clean_interval l.number then literal (bytes ")") tt
  clean_shape fixed l ks z h = literal (bytes "(") tt then clean_number l.number then literal (bytes ")") tt
  clean_shape list l [] z h = literal [] tt
  clean_shape list l (k ∷ ks) z h = literal (bytes "(") tt then clean_list_field k h.0 then literal (bytes ")") tt
  clean_shape fixed_list l [] z h = literal [] tt
  clean_shape fixed_list l (k ∷ ks) z h = literal (bytes "(") tt then clean_number l.number then literal (bytes " x ") tt then clean_list_field k h.0 then literal (bytes ")") tt
  clean_shape struct l ks z h = literal (bytes "(") tt then clean_struct ks h then literal (bytes ")") tt
  clean_shape union l ks z h = literal (bytes "(") tt then clean_mode l.number then clean_union ks h then literal (bytes ")") tt
  clean_shape dictionary l [] z h = literal [] tt
  clean_shape dictionary l (k ∷ []) z h = literal [] tt
  clean_shape dictionary l (k ∷ v ∷ ks) z h = literal (bytes "(") tt then h.0.text then literal (bytes ", ") tt then h.1.0.text then literal (bytes ")") tt
  clean_shape decimal l ks z h = literal (bytes "(") tt then clean_number l.number then literal (bytes ", ") tt then clean_scale l.scale then literal (bytes ")") tt
  clean_shape mapping l [] z h = literal [] tt
  clean_shape mapping l (k ∷ ks) z h = literal (bytes "(") tt then clean_field k h.0 then literal (bytes ", ") tt then clean_sorted l.number then literal (bytes ")") tt
  clean_shape run_end_encoded l [] z h = literal [] tt
  clean_shape run_end_encoded l (r ∷ []) z h = literal [] tt
  clean_shape run_end_encoded l (r ∷ v ∷ ks) z h = literal (bytes "(") tt then clean_run_ends r v h.0 h.1.0 then literal (bytes ")") tt

  -- ---- trees

  clean_type : (place : Standing) (l : Label) (kids : Forest Label) → RowFits place l kids → AllClean (shown spelling kids) → Clean (type_text spelling l (shown spelling kids))
  unfolding type_text
  clean_type place l kids r h =
      clean_kind l.kind r.kind then clean_shape (shape_of l.kind) l (shown spelling kids) (zone_clean (rules_at l).zoned l.zone r.zone) h

  all_clean : (place : Standing) (f : Forest Label) → T (rows_fit place f) → AllClean (shown spelling f)
  unfolding shown
  all_clean place ∅ h = tt
  all_clean place (node l kids next) h =
      let r = rows_fit_lem place l kids next h in (
        record {
          name = clean_name place l.name r.0.name;
          text = clean_type place l kids r.0 (all_clean (rules_at l).below kids r.1);
        },
        all_clean place next r.2,
      )

  pub display_utf8 : (place : Standing) (f : Forest Label) → T (rows_fit place f) → T (is_utf8 (display spelling f))
  unfolding display shown
  display_utf8 place ∅ h = unfold is_utf8 utf8_state in tt
  display_utf8 place (node l kids next) h = (all_clean place (node l kids next) h).0.text.is

-- ---- what is printed

module _ (spelling : Spelling) (text names table : List ℕ) where
  abbrev tree : Forest Label
  tree = tree_of text names table

  sound-utf8 : T (is_sound text names table) → T (is_utf8 (display spelling tree))
  sound-utf8 h =
      let s = sound_tree text names table h in
      display_utf8 spelling bare tree (subst (λ (f : Forest Label). T (rows_fit bare f)) (sym (sound-labels text names table s)) s.fits)

  pub print-utf8 : (room : ℕ) (s : List ℕ) → print spelling text names table room ≡ done s → T (is_utf8 s)
  unfolding print
  print-utf8 room s e = go (is_sound text names table) (quoted_latin tree) (leb (length (display spelling tree)) (min room 16384)) refl refl e
    where
      go : (a b c : Bool) → is_sound text names table ≡ a → quoted_latin tree ≡ b
          → (if a then (if b then (if c then done (display spelling tree) else refuse 19) else refuse 18) else refuse 17) ≡ done s → T (is_utf8 s)
      go true true true p q e =
          let d : display spelling tree ≡ s = cc in
          subst (λ (t : List ℕ). T (is_utf8 t)) d (sound-utf8 (of_true _ p))
      go true true false p q e = absurd (let z : ◌≡◌ {A = ℕ} 0 1 = cc in omega arith)
      go true false c p q e = absurd (let z : ◌≡◌ {A = ℕ} 0 1 = cc in omega arith)
      go false b c p q e = absurd (let z : ◌≡◌ {A = ℕ} 0 1 = cc in omega arith)

  -- the bytes at the start of the output, as many as the printer answers
  pub output-utf8 : (before : List ℕ) (n : ℕ) → print_answer spelling text names table before ≡ done n → T (is_utf8 (take n (print_bytes spelling text names table before)))
  unfolding print_answer print_bytes
  output-utf8 before n e = go (print spelling text names table (length before)) (print-utf8 (length before)) e
    where
      go : (o : Out (List ℕ)) → ((s : List ℕ) → o ≡ done s → T (is_utf8 s)) → length_of o ≡ done n → T (is_utf8 (take n (written before o)))
      go (refused r) u e = absurd (let z : ◌≡◌ {A = ℕ} 0 1 = cc in omega arith)
      go (done s) u e =
          let size : length s ≡ n = cc in
          rw (sym size, take-append_seam s (drop (length s) before)) (u s refl)
