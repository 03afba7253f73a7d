-- The answer over all needs, need by need, each asked alone:
--   no-needs      with no needs it is yes
--   yes-each      where it is yes, each need is met
--   each-yes      where each need is met it is yes, if there are no more than 32
--   first-fails   where it is a need, that need is not met, and each before it is
use Rattle.std.specs.declared.option.Option.{Option}
use Rattle.std.specs.declared.option.Option.TheVariants.{None, Some}
use Rattle.std.specs.Prelude.{if◌then◌else◌}
use mathlib.Core.Path.{◌≡◌, refl, sym, ap, ◌∙◌}
use mathlib.Core.Bool.{Bool, true, false, not}
use mathlib.Core.List.{List, [], ◌∷◌}
use Prim.Native.Nat.{ℕ, zero, suc, ◌+◌, ◌-◌, ◌≤◌, ◌<◌}
use native.Mathlib.Omega.{arith}
use lib.ListN.{length, get_or}
use lib.Dec.{ltb, eqb}
use Rattle.std.proofs.lemmas.Bool.Decides.{nat_tests}
use Rattle.tokenizer.specs.Text.{is_empty}
use Rattle.tokenizer.specs.Answer.{Out, refused, done, refuse}
use Rattle.datatype.specs.Tree.{Label}
use Rattle.needs.specs.declared.Need.{Need}
use Rattle.needs.specs.Needs.{need_name, are_named, need_met, first_unmet, columns_of, need_of, needs_of}
use Rattle.needs.proofs.NeedLaws.{no_need, empty_is, part_some, needs_done}

-- need j
abbrev pub need_at : List Need → ℕ → Need
need_at needs j = get_or needs j no_need

-- ---- the first that is not met

module _ (text : List ℕ) (fields : List Label) where
  abbrev met : Need → Bool
  met n = need_met n.kind n.number n.scale n.null_allowed n.zoned (need_name text n) fields

  none_unmet : (i : ℕ) (needs : List Need) → first_unmet text fields i needs ≡ None → (j : ℕ) → j < length needs → met (need_at needs j) ≡ true
  unfolding first_unmet
  none_unmet i [] e j h = absurd (omega arith)
  none_unmet i (n ∷ ns) e j h = go (met n) refl e (λ f k l. none_unmet (suc i) ns f k l) j h
    where
      go : (b : Bool) → met n ≡ b → (if b then first_unmet text fields (suc i) ns else Some i) ≡ None
          → (first_unmet text fields (suc i) ns ≡ None → (k : ℕ) → k < length ns → met (need_at ns k) ≡ true)
          → (j : ℕ) → j < length (n ∷ ns) → met (need_at (n ∷ ns) j) ≡ true
      go true m e later zero h = m
      go true m e later (suc j) h = later e j (omega arith)
      go false m e later j h = absurd (let z : ◌≡◌ {A = Option ℕ} (Some i) None = e in cc)

  all_met : (i : ℕ) (needs : List Need) → ((j : ℕ) → j < length needs → met (need_at needs j) ≡ true) → first_unmet text fields i needs ≡ None
  unfolding first_unmet
  all_met i [] each = refl
  all_met i (n ∷ ns) each = rw (each 0 (omega arith)) (all_met (suc i) ns (λ j h. each (suc j) (omega arith)))

  -- need k, of needs from need i on
  record First (i k : ℕ) (needs : List Need) : Type 0 where
    from : i ≤ k
    within : k < i + length needs
    fails : met (need_at needs (k - i)) ≡ false
    before : (j : ℕ) → j < k - i → met (need_at needs j) ≡ true

  first_one : (i k : ℕ) (n : Need) (ns : List Need) → met n ≡ false → i ≡ k → First i k (n ∷ ns)
  first_one i k n ns m e =
      let z : k - i ≡ 0 = omega arith in
      record { from = omega arith; within = omega arith; fails = rw z m; before = λ j h. absurd (omega arith) }

  first_later : (i k : ℕ) (n : Need) (ns : List Need) → met n ≡ true → First (suc i) k ns → First i k (n ∷ ns)
  first_later i k n ns m f =
      let a = f.from in
      let b = f.within in
      let z : k - i ≡ suc (k - suc i) = omega arith in
      record { from = omega arith; within = omega arith; fails = rw z f.fails; before = λ j h. behind j (omega arith) }
    where
      behind : (j : ℕ) → j < suc (k - suc i) → met (need_at (n ∷ ns) j) ≡ true
      behind zero h = m
      behind (suc j) h = f.before j (omega arith)

  first_unmet_is : (i k : ℕ) (needs : List Need) → first_unmet text fields i needs ≡ Some k → First i k needs
  unfolding first_unmet
  first_unmet_is i k [] e = absurd (let z : ◌≡◌ {A = Option ℕ} None (Some k) = e in cc)
  first_unmet_is i k (n ∷ ns) e = go (met n) refl e (λ f. first_unmet_is (suc i) k ns f)
    where
      go : (b : Bool) → met n ≡ b → (if b then first_unmet text fields (suc i) ns else Some i) ≡ Some k → (first_unmet text fields (suc i) ns ≡ Some k → First (suc i) k ns) → First i k (n ∷ ns)
      go true m e later = first_later i k n ns m (later e)
      go false m e later = first_one i k n ns m cc

named_at : (text : List ℕ) (needs : List Need) → are_named text needs ≡ true → (j : ℕ) → j < length needs → is_empty (need_name text (need_at needs j)) ≡ false
unfolding are_named
named_at text [] e j h = absurd (omega arith)
named_at text (n ∷ ns) e zero h = let p = part_some text n.start n.size in empty_is (need_name text n) ∙ grind (arith, nat_tests)
named_at text (n ∷ ns) e (suc j) h = named_at text ns (grind (arith, nat_tests)) j (omega arith)

all_named : (text : List ℕ) (needs : List Need) → ((j : ℕ) → j < length needs → is_empty (need_name text (need_at needs j)) ≡ false) → are_named text needs ≡ true
unfolding are_named
all_named text [] each = refl
all_named text (n ∷ ns) each =
    let p = part_some text n.start n.size in
    let e : eqb (length (need_name text n)) 0 ≡ false = sym (empty_is (need_name text n)) ∙ each 0 (omega arith) in
    rw (← p, e) (all_named text ns (λ j h. each (suc j) (omega arith)))

-- ---- the answers

module _ (text names table words : List ℕ) where
  -- a need asked alone
  abbrev pub alone : Need → Out Bool
  alone n = need_of text names table n.kind n.number n.scale n.null_allowed n.zoned (need_name words n)

  module _ (needs : List Need) where
    -- what an answer tells
    record Answered (o : Option ℕ) : Type 0 where
      fields : List Label
      columns : columns_of text names table ≡ done fields
      named : are_named words needs ≡ true
      first : first_unmet words fields 0 needs ≡ o

    answered : (o : Option ℕ) → needs_of text names table words needs ≡ done o → Answered o
    unfolding needs_of
    answered o = by_columns (columns_of text names table) refl
      where
        clash : {A : Type 0} (k : ℕ) → refuse k ≡ done o → A
        clash k e = absurd (let z : ◌≡◌ {A = ℕ} 0 1 = cc in omega arith)

        by_names : (fields : List Label) → columns_of text names table ≡ done fields → (b : Bool) → are_named words needs ≡ b
            → (if not b then refuse 27 else done (first_unmet words fields 0 needs)) ≡ done o → Answered o
        by_names fields c true n e = record { fields = fields; columns = c; named = n; first = cc }
        by_names fields c false n e = clash 27 e

        by_count : (fields : List Label) → columns_of text names table ≡ done fields → (b : Bool)
            → (if b then refuse 26 else if not (are_named words needs) then refuse 27 else done (first_unmet words fields 0 needs)) ≡ done o → Answered o
        by_count fields c true e = clash 26 e
        by_count fields c false e = by_names fields c (are_named words needs) refl e

        by_columns : (c : Out (List Label)) → columns_of text names table ≡ c → needs_of text names table words needs ≡ done o → Answered o
        by_columns (refused r) c e = absurd (let z : ◌≡◌ {A = ℕ} 0 1 = cc in omega arith)
        by_columns (done fields) c e = by_count fields c (ltb 32 (length needs)) (rw c at e)

    alone_is : (o : Option ℕ) (a : Answered o) (j : ℕ) → j < length needs → (b : Bool) → met words a.fields (need_at needs j) ≡ b → alone (need_at needs j) ≡ done b
    unfolding need_of
    alone_is o a j h b m = rw (a.columns, named_at words needs a.named j h, m)

    pub yes-each : needs_of text names table words needs ≡ done None → (j : ℕ) → j < length needs → alone (need_at needs j) ≡ done true
    yes-each e j h = let a = answered None e in alone_is None a j h true (none_unmet words a.fields 0 needs a.first j h)

    module _ (fields : List Label) (is : columns_of text names table ≡ done fields) where
      -- what is told by a need that is met
      alone_told : (n : Need) → alone n ≡ done true → (is_empty (need_name words n) ≡ false) × (met words fields n ≡ true)
      unfolding need_of
      alone_told n e = go (is_empty (need_name words n)) refl (rw is at e)
        where
          go : (b : Bool) → is_empty (need_name words n) ≡ b → (if b then refuse 27 else done (met words fields n)) ≡ done true → (is_empty (need_name words n) ≡ false) × (met words fields n ≡ true)
          go true p h = absurd (let z : ◌≡◌ {A = ℕ} 0 1 = cc in omega arith)
          go false p h = (p, cc)

      pub each-yes : length needs ≤ 32 → ((j : ℕ) → j < length needs → alone (need_at needs j) ≡ done true) → needs_of text names table words needs ≡ done None
      each-yes l each =
          needs_done text names table fields is words needs l true (sym (all_named words needs (λ j h. (alone_told (need_at needs j) (each j h)).0))) refl
          ∙ ap done (all_met words fields 0 needs (λ j h. (alone_told (need_at needs j) (each j h)).1))

    module _ (k : ℕ) (e : needs_of text names table words needs ≡ done (Some k)) where
      found : First words ((answered (Some k) e).fields) 0 k needs
      found = let a = answered (Some k) e in first_unmet_is words a.fields 0 k needs a.first

      pub first-within : k < length needs
      first-within = let w = found.within in omega arith

      pub first-fails : alone (need_at needs k) ≡ done false
      first-fails = let a = answered (Some k) e in let z : k - 0 ≡ k = omega arith in alone_is (Some k) a k first-within false (rw z at found.fails)

      pub first-before : (j : ℕ) → j < k → alone (need_at needs j) ≡ done true
      first-before j h = let a = answered (Some k) e in let w = first-within in alone_is (Some k) a j (omega arith) true (found.before j (omega arith))

  pub no-needs : (fields : List Label) → columns_of text names table ≡ done fields → needs_of text names table words [] ≡ done None
  unfolding needs_of are_named first_unmet
  no-needs fields e = rw e
