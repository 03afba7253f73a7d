-- RunEndEncoded's two fields, read back in the long form and in the short one.
use Rattle.std.specs.Prelude.{if◌then◌else◌}
use mathlib.Core.Path.{◌≡◌, refl, sym, ap, ◌∙◌}
use mathlib.Core.Bool.{Bool, true, false, ◌&&◌}
use mathlib.Core.List.{List, ◌∷◌, ◌++◌, append_assoc}
use Prim.Native.Nat.{ℕ, suc, ◌+◌, ◌-◌, ◌≤◌}
use native.Mathlib.Omega.{arith}
use lib.ListN.{drop}
use lib.Dec.{T, eqb}
use Rattle.tokenizer.specs.Text.{bytes, same}
use Rattle.tokenizer.specs.Answer.{Out}
use Rattle.tokenizer.specs.Words.{words}
use Rattle.tokenizer.specs.Token.{is_separator, is_digit, token_at, double_quoted, nullability}
use Rattle.tokenizer.proofs.Basics.{skip, of_true, and_l, and_r}
use Rattle.tokenizer.proofs.Listed.{same_path}
use Rattle.datatype.specs.Tree.{Forest, ∅, node, count, Label, name_of, labels}
use Rattle.parser.specs.Parse.{Tree, run_ends, values, pair, stands, named_run_ends, default_run_ends, run_end_fields}
use Rattle.display_length.specs.Display.{nullity_text, field_text, default_names, run_end_text, type_text, shown}
use Rattle.display_length.specs.declared.words.Spelling.{Spelling}
use Rattle.round_trip.proofs.Tokens.{mark_stop, comma_stop, is_listed_word, is_word_of, word_is}
use Rattle.round_trip.proofs.PlainRows.{FieldRow}
use Rattle.round_trip.proofs.Pieces.{look-here, look-space, stands-is, need-comma, Found, found_word}
use Rattle.round_trip.proofs.Types.{FieldsRead, count-read, row-role, ReadsTree}
use Rattle.round_trip.proofs.Fields.{shown_tree, FieldRead, field-read, DefaultRead, default-read}

-- what is known of the run ends m and the values n
pub record PairRows (m n : Label) : Type 0 where
  pub first : FieldRow m
  pub second : FieldRow n
  pub first_id : m.union_id ≡ 0
  pub second_id : n.union_id ≡ 0
  pub non_null : m.role ≡ 2

module _ (spelling : Spelling) (text : List ℕ) (type : ℕ → ℕ → Out Tree) (m n : Label) (kids ks : Forest Label) (at rows : ℕ) where
  named_step : (t rest : List ℕ) → m.role ≡ 2 → (f : FieldRead text type 0 m kids at rows (44 ∷ t))
      → FieldRead text type 0 n ks (f.tree.got.next + 1) (rows - suc (count kids)) rest
      → FieldsRead text (run_end_fields text type at rows) (node m kids (node n ks ∅)) rest
  unfolding run_end_fields named_run_ends labels
  named_step t rest ro f v =
      record {
        got = record { trees = pair f.tree.got v.tree.got; next = v.tree.got.next };
        reads =
            rw (
              stands-is text double_quoted at (token_at text at) refl ∙ ap (λ (k : ℕ). eqb k double_quoted) f.first,
              f.tree.reads,
              row-role text f.tree.got.row m f.tree.row ∙ ro,
              need-comma text f.tree.got.next t f.tree.after,
              count-read text f.tree.got.kids kids f.tree.below,
              v.tree.reads,
            );
        after = v.tree.after;
        trees = λ j. node (f.tree.row j) (f.tree.below j) (node (v.tree.row j) (v.tree.below j) ∅);
      }

  default-step : (t rest : List ℕ) → m.role ≡ 2 → stands text double_quoted at ≡ false → (f : DefaultRead text type run_ends m kids at rows (44 ∷ t))
      → DefaultRead text type values n ks (f.tree.got.next + 1) (rows - suc (count kids)) rest
      → FieldsRead text (run_end_fields text type at rows) (node m kids (node n ks ∅)) rest
  unfolding run_end_fields default_run_ends labels
  default-step t rest ro nd f v =
      record {
        got = record { trees = pair f.tree.got v.tree.got; next = v.tree.got.next };
        reads =
            rw (
              nd,
              f.role,
              ro,
              f.tree.reads,
              need-comma text f.tree.got.next t f.tree.after,
              count-read text f.tree.got.kids kids f.tree.below,
              v.tree.reads,
            );
        after = v.tree.after;
        trees = λ j. node (f.tree.row j) (f.tree.below j) (node (v.tree.row j) (v.tree.below j) ∅);
      }

  -- the word `non-null` is no string
  no-string : (t : List ℕ) → m.role ≡ 2 → drop at text ≡ nullity_text m ++ t → stands text double_quoted at ≡ false
  unfolding nullity_text is_word_of is_listed_word words is_separator is_digit
  no-string t ro e =
      worded (found_word text nullability 2 at at (bytes "non-null") (32 ∷ t) (word_is nullability 2 (bytes "non-null") tt) tt (look-here text at _ (rw ro at e)))
    where
      worded : Found text nullability 2 at (32 ∷ t) → stands text double_quoted at ≡ false
      worded f = stands-is text double_quoted at f.token f.found ∙ ap (λ (k : ℕ). eqb k double_quoted) f.sort

  module _ (rest : List ℕ) (rm : ReadsTree spelling text type m kids) (rn : ReadsTree spelling text type n ks) (h : PairRows m n) (enough : suc (count kids) + suc (count ks) ≤ rows) where
    abbrev PairRead : Type 0
    PairRead = FieldsRead text (run_end_fields text type at rows) (node m kids (node n ks ∅)) (41 ∷ rest)

    abbrev tm : List ℕ
    tm = type_text spelling m (shown spelling kids)

    abbrev tn : List ℕ
    tn = type_text spelling n (shown spelling ks)

    -- non-null type, [non-null ]type
    short-pair : m.name ≡ bytes "run_ends" → n.name ≡ bytes "values"
        → drop at text ≡ (nullity_text m ++ (tm ++ (bytes ", " ++ (nullity_text n ++ tn)))) ++ (41 ∷ rest) → PairRead
    unfolding name_of
    short-pair a b e = first (e ∙ spread)
      where
        t : List ℕ
        t = nullity_text n ++ (tn ++ (41 ∷ rest))

        spread : (nullity_text m ++ (tm ++ (bytes ", " ++ (nullity_text n ++ tn)))) ++ (41 ∷ rest) ≡ nullity_text m ++ (tm ++ (44 ∷ 32 ∷ t))
        spread =
            append_assoc (nullity_text m) _ (41 ∷ rest)
            ∙ ap (λ (r : List ℕ). nullity_text m ++ r) (append_assoc tm _ (41 ∷ rest) ∙ ap (λ (r : List ℕ). tm ++ (44 ∷ 32 ∷ r)) (append_assoc (nullity_text n) tn (41 ∷ rest)))

        second : stands text double_quoted at ≡ false → DefaultRead text type run_ends m kids at rows (44 ∷ 32 ∷ t) → PairRead
        second nd f =
            let c = f.tree.got.next in
            default-step (32 ∷ t) (41 ∷ rest) h.non_null nd f
            (default-read spelling text type values n ks (c + 1) (c + 1 + 1) (rows - suc (count kids)) (41 ∷ rest) rn h.second h.second_id (mark_stop rest) (sym b) (omega arith)
            (look-space text (c + 1) t (skip 1 c text (44 ∷ 32 ∷ t) f.tree.after)))

        first : drop at text ≡ nullity_text m ++ (tm ++ (44 ∷ 32 ∷ t)) → PairRead
        first e' =
            second (no-string (tm ++ (44 ∷ 32 ∷ t)) h.non_null e')
            (default-read spelling text type run_ends m kids at at rows (44 ∷ 32 ∷ t) rm h.first h.first_id (comma_stop (32 ∷ t)) (sym a) (omega arith)
            (look-here text at (nullity_text m ++ (tm ++ (44 ∷ 32 ∷ t))) e'))

    -- "name": non-null type, "name": [non-null ]type
    long-pair : drop at text ≡ (field_text (shown_tree spelling m kids) ++ (bytes ", " ++ field_text (shown_tree spelling n ks))) ++ (41 ∷ rest) → PairRead
    long-pair e =
        second (field-read spelling text type 0 m kids at at rows (44 ∷ 32 ∷ t) rm h.first (sym h.first_id) (comma_stop (32 ∷ t)) (omega arith)
        (look-here text at _ (e ∙ append_assoc (field_text (shown_tree spelling m kids)) _ (41 ∷ rest))))
      where
        t : List ℕ
        t = field_text (shown_tree spelling n ks) ++ (41 ∷ rest)

        second : FieldRead text type 0 m kids at rows (44 ∷ 32 ∷ t) → PairRead
        second f =
            let c = f.tree.got.next in
            named_step (32 ∷ t) (41 ∷ rest) h.non_null f
            (field-read spelling text type 0 n ks (c + 1) (c + 1 + 1) (rows - suc (count kids)) (41 ∷ rest) rn h.second (sym h.second_id) (mark_stop rest) (omega arith)
            (look-space text (c + 1) t (skip 1 c text (44 ∷ 32 ∷ t) f.tree.after)))

    pub pair_read : drop at text ≡ run_end_text (shown_tree spelling m kids) (shown_tree spelling n ks) ++ (41 ∷ rest) → PairRead
    unfolding run_end_text default_names
    pair_read = go (same m.name (bytes "run_ends") && same n.name (bytes "values")) refl
      where
        go : (b : Bool) → (same m.name (bytes "run_ends") && same n.name (bytes "values")) ≡ b
            → drop at text ≡ (if b then nullity_text m ++ (tm ++ (bytes ", " ++ (nullity_text n ++ tn))) else (field_text (shown_tree spelling m kids) ++ (bytes ", " ++ field_text (shown_tree spelling n ks)))) ++ (41 ∷ rest)
            → PairRead
        go true q e =
            let t : T (same m.name (bytes "run_ends") && same n.name (bytes "values")) = of_true _ q in
            short-pair (same_path m.name (bytes "run_ends") (and_l (same m.name (bytes "run_ends")) (same n.name (bytes "values")) t))
            (same_path n.name (bytes "values") (and_r (same m.name (bytes "run_ends")) (same n.name (bytes "values")) t)) e
        go false q e = long-pair e
