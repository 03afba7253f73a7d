-- Whether needs are met, over the one column of each name; and the answers, by what refuses first.
use Rattle.std.specs.declared.option.Option.{Option}
use Rattle.std.specs.declared.option.Option.TheVariants.{None, Some}
use Rattle.std.specs.List.{list_all}
use Rattle.std.specs.Prelude.{if◌then◌else◌}
use mathlib.Core.Path.{◌≡◌, refl}
use mathlib.Core.Bool.{Bool, true, false, not, ◌&&◌}
use mathlib.Core.List.{List, [], ◌∷◌}
use Prim.Native.Nat.{ℕ, suc, ◌+◌, ◌≤◌, ◌<◌}
use native.Mathlib.Omega.{arith}
use lib.ListN.{length, get_or, take, drop, length-take, length-drop}
use lib.Seq.{drop-cons}
use lib.Dec.{leb, eqb}
use borrow.Author.Tests.{lt-ltb, le-ltb}
use Rattle.std.proofs.lemmas.List.{drop_all}
use Rattle.std.proofs.lemmas.Bool.Decides.{nat_tests}
use Rattle.tokenizer.specs.Text.{is_empty}
use Rattle.tokenizer.specs.Answer.{Refusal, refused, done, refuse}
use Rattle.datatype.specs.Tree.{Label, part, zone_of, label_of}
use Rattle.datatype.specs.Table.{word_at}
use Rattle.datatype.specs.Table.{row_at}
use Rattle.row_table.specs.declared.nodes.Node.{Node}
use Rattle.row_table.specs.Nodes.{label_in}
use Rattle.needs.specs.declared.Need.{Need}
use Rattle.needs.specs.Needs.{need_name, are_named, fields_named, only, role_allowed, zone_allowed, is_needed, is_needed_one, need_met, first_unmet, columns_of, need_of, needs_of}
use Rattle.needs.specs.Internal.Columns.{said}

-- ---- one need

pub empty_is : {A : Type 0} (s : List A) → is_empty s ≡ eqb (length s) 0
empty_is [] = refl
empty_is (x ∷ s) = grind (arith, nat_tests)

module _ (kind number scale : ℕ) (null_allowed zoned : Bool) where
  -- a column is as needed, by the words of its row
  pub needed_is : (n : Node) → is_needed kind number scale null_allowed zoned (label_in n)
      ≡ (let table = n.whole.now.tree.rows.now in
      eqb (word_at table n.at 0) kind && eqb (word_at table n.at 4) number && eqb (word_at table n.at 5) scale && role_allowed null_allowed (word_at table n.at 2) && zone_allowed zoned (zone_of n.whole.now.tree.text.now (word_at table n.at 9) (word_at table n.at 10)))
  unfolding is_needed label_of row_at
  needed_is n = refl

  module _ (name : List ℕ) (fields : List Label) (found : Option Node) (so : said found ≡ only (fields_named name fields)) where
    pub met_none : found ≡ None → false ≡ need_met kind number scale null_allowed zoned name fields
    unfolding need_met
    met_none e = rw (← so, e)

    pub met_one : (n : Node) → found ≡ Some n → need_met kind number scale null_allowed zoned name fields ≡ is_needed kind number scale null_allowed zoned (label_in n)
    unfolding need_met
    met_one n e = rw (← so, e)

-- where a need is met, one field has its name, and that is as needed
pub met_alone : (kind number scale : ℕ) (null_allowed zoned : Bool) (name : List ℕ) (fields : List Label) → need_met kind number scale null_allowed zoned name fields ≡ true
    → (l : Label) × (fields_named name fields ≡ l ∷ []) × (is_needed kind number scale null_allowed zoned l ≡ true)
unfolding need_met
met_alone kind number scale null_allowed zoned name fields = go (fields_named name fields) refl
  where
    go : (ls : List Label) → fields_named name fields ≡ ls → is_needed_one kind number scale null_allowed zoned (only ls) ≡ true → (l : Label) × (fields_named name fields ≡ l ∷ []) × (is_needed kind number scale null_allowed zoned l ≡ true)
    go [] e h = absurd (let z : ◌≡◌ {A = Bool} false true = h in cc)
    go (l ∷ []) e h = (l, e, h)
    go (l ∷ m ∷ ls) e h = absurd (let z : ◌≡◌ {A = Bool} false true = h in cc)

-- ---- all needs

-- a need has a name exactly where the part of the text is not empty
pub part_some : (s : List ℕ) (start size : ℕ) → not (eqb (length (part s start size)) 0) ≡ (leb 1 size && leb (start + size) (length s))
part_some s start size = go (leb (start + size) (length s)) refl
  where
    go : (b : Bool) → leb (start + size) (length s) ≡ b → not (eqb (length (if b then take size (drop start s) else [])) 0) ≡ (leb 1 size && b)
    go true e = grind (arith, nat_tests, length-take size (drop start s), length-drop start s)
    go false e = grind (arith, nat_tests)

pub named_all : (text : List ℕ) (needs : List Need) → list_all (λ n. not (eqb (length (need_name text n)) 0)) needs ≡ are_named text needs
unfolding are_named
named_all text [] = refl
named_all text (n ∷ ns) = rw (part_some text n.start n.size, named_all text ns)

-- what the code takes for a need past the end
abbrev pub no_need : Need
no_need = record { start = 0; size = 0; kind = 0; number = 0; scale = 0; null_allowed = false; zoned = false }

module _ (text : List ℕ) (fields : List Label) (i : ℕ) (needs : List Need) where
  pub unmet_end : length needs ≤ i → first_unmet text fields i (drop i needs) ≡ None
  unfolding first_unmet
  unmet_end h = rw (drop_all i needs h)

  pub unmet_step : i < length needs
      → first_unmet text fields i (drop i needs)
      ≡ (let n = get_or needs i no_need in
      if need_met n.kind n.number n.scale n.null_allowed n.zoned (need_name text n) fields then first_unmet text fields (i + 1) (drop (i + 1) needs) else Some i)
  unfolding first_unmet
  unmet_step h =
      let s : suc i ≡ i + 1 = omega arith in
      rw (← s, drop-cons needs i no_need h)

-- ---- the answers

module _ (text names table : List ℕ) (r : Refusal) (is : columns_of text names table ≡ refused r) where
  pub need_refused : (kind number scale : ℕ) (null_allowed zoned : Bool) (name : List ℕ) → need_of text names table kind number scale null_allowed zoned name ≡ refused r
  unfolding need_of
  need_refused kind number scale null_allowed zoned name = rw is

  pub needs_refused : (words : List ℕ) (needs : List Need) → needs_of text names table words needs ≡ refused r
  unfolding needs_of
  needs_refused words needs = rw is

module _ (text names table : List ℕ) (fields : List Label) (is : columns_of text names table ≡ done fields) where
  module _ (kind number scale : ℕ) (null_allowed zoned : Bool) (name : List ℕ) (b : Bool) (test : b ≡ eqb (length name) 0) where
    pub need_unnamed : b ≡ true → need_of text names table kind number scale null_allowed zoned name ≡ refuse 27
    unfolding need_of
    need_unnamed e = rw (is, empty_is name, ← test, e)

    pub need_done : b ≡ false → need_of text names table kind number scale null_allowed zoned name ≡ done (need_met kind number scale null_allowed zoned name fields)
    unfolding need_of
    need_done e = rw (is, empty_is name, ← test, e)

  module _ (words : List ℕ) (needs : List Need) where
    pub needs_many : 32 < length needs → needs_of text names table words needs ≡ refuse 26
    unfolding needs_of
    needs_many h = rw (is, lt-ltb 32 (length needs) h)

    module _ (l : length needs ≤ 32) (named : Bool) (test : named ≡ are_named words needs) where
      pub needs_unnamed : named ≡ false → needs_of text names table words needs ≡ refuse 27
      unfolding needs_of
      needs_unnamed e = rw (is, le-ltb 32 (length needs) l, ← test, e)

      pub needs_done : named ≡ true → needs_of text names table words needs ≡ done (first_unmet words fields 0 needs)
      unfolding needs_of
      needs_done e = rw (is, le-ltb 32 (length needs) l, ← test, e)

pub ruleset met_steps = (met_none, met_one)

pub ruleset unmet_steps = (unmet_end, unmet_step)

pub ruleset meets_steps = (need_refused, need_unnamed, need_done)

pub ruleset fits_steps = (needs_refused, needs_many, needs_unnamed, needs_done)
