-- What it means that a printed type is read back, and a type behind an optional nullability word.
use Rattle.std.specs.Prelude.{if◌then◌else◌}
use mathlib.Core.Path.{◌≡◌, refl, sym, ap, ◌∙◌, subst}
use mathlib.Core.Bool.{Bool, true, false, ◌||◌}
use mathlib.Core.List.{List, [], ◌∷◌, ◌++◌, map, append_assoc}
use Prim.Native.Nat.{ℕ, suc, ◌+◌, ◌≤◌, ◌<◌}
use lib.ListN.{length, drop}
use lib.Dec.{T, eqb, eqb→eq, leb-zero}
use Rattle.tokenizer.specs.Text.{bytes}
use Rattle.tokenizer.specs.Answer.{Out, done}
use Rattle.tokenizer.specs.Words.{words}
use Rattle.tokenizer.specs.Token.{is_separator, is_digit, type_word, nullability}
use Rattle.tokenizer.proofs.Basics.{of_true}
use Rattle.datatype.specs.Kind.{Shape, leaf, timestamp, time, interval, fixed, list, fixed_list, struct, union, dictionary, decimal, mapping, run_end_encoded, kinds, shape_of}
use Rattle.datatype.specs.Tree.{Forest, ∅, node, count, roots, Row, Label, name_list, name_of, zone_of, label_of, labels}
use Rattle.row_table.specs.Sound.{roles_of, ids_of}
use Rattle.unchecked_rows.proofs.RowList.{count_labels}
use Rattle.parser.specs.Parse.{Name, Tree, Fields, bare_row, field_row, stands, role_at, after_role}
use Rattle.display_length.specs.Display.{Shown, kind_word, nullity_text, shape_text, type_text, shown}
use Rattle.display_length.specs.declared.words.Spelling.{Spelling}
use Rattle.round_trip.proofs.Tokens.{Stop, is_listed_word, is_word_of, word_is, kind_word_lem}
use Rattle.round_trip.proofs.PlainRows.{bare_label}
use Rattle.round_trip.proofs.Pieces.{Look, look-space, Found, found_word}

-- what stands behind a kind's word begins with a mark, or is nothing
shape_stop : (spelling : Spelling) (s : Shape) (l : Label) (ks : List Shown) (rest : List ℕ) → Stop rest → Stop (shape_text spelling s l ks ++ rest)
unfolding shape_text is_separator
shape_stop spelling leaf l ks rest h = h
shape_stop spelling timestamp l ks rest h = tt
shape_stop spelling time l ks rest h = tt
shape_stop spelling interval l ks rest h = tt
shape_stop spelling fixed l ks rest h = tt
shape_stop spelling list l [] rest h = h
shape_stop spelling list l (k ∷ ks) rest h = tt
shape_stop spelling fixed_list l [] rest h = h
shape_stop spelling fixed_list l (k ∷ ks) rest h = tt
shape_stop spelling struct l ks rest h = tt
shape_stop spelling union l ks rest h = tt
shape_stop spelling dictionary l [] rest h = h
shape_stop spelling dictionary l (k ∷ []) rest h = h
shape_stop spelling dictionary l (k ∷ v ∷ ks) rest h = tt
shape_stop spelling decimal l ks rest h = tt
shape_stop spelling mapping l [] rest h = h
shape_stop spelling mapping l (k ∷ ks) rest h = tt
shape_stop spelling run_end_encoded l [] rest h = h
shape_stop spelling run_end_encoded l (r ∷ []) rest h = h
shape_stop spelling run_end_encoded l (r ∷ v ∷ ks) rest h = tt

module _ (text : List ℕ) where
  -- a reader's answer is a tree that says l over kids, behind which `rest` stands
  pub record TreeRead (o : Out Tree) (l : Label) (kids : Forest Label) (rest : List ℕ) : Type 0 where
    pub got : Tree
    pub reads : o ≡ done got
    pub after : drop got.next text ≡ rest
    pub row : label_of text name_list got.row ≡ l
    pub below : labels text name_list got.kids ≡ kids

  -- the same for the fields of a type
  pub record FieldsRead (o : Out Fields) (kids : Forest Label) (rest : List ℕ) : Type 0 where
    pub got : Fields
    pub reads : o ≡ done got
    pub after : drop got.next text ≡ rest
    pub trees : labels text name_list got.trees ≡ kids

  pub count-read : (f : Forest Row) (g : Forest Label) → labels text name_list f ≡ g → count f ≡ count g
  count-read f g e = sym (count_labels text name_list f) ∙ ap count e

  -- a row's own words are what its label says
  pub row-kind : (r : Row) (l : Label) → label_of text name_list r ≡ l → r.kind ≡ l.kind
  unfolding label_of
  row-kind r l e = ap (λ (x : Label). x.kind) e

  pub row-role : (r : Row) (l : Label) → label_of text name_list r ≡ l → r.role ≡ l.role
  unfolding label_of
  row-role r l e = ap (λ (x : Label). x.role) e

  -- and so are the roles and ids of rows side by side
  roles-labels : (f : Forest Row) → map (λ r. r.role) (roots f) ≡ roles_of (roots (labels text name_list f))
  unfolding labels label_of
  roles-labels ∅ = refl
  roles-labels (node r k n) = ap (λ (t : List ℕ). r.role ∷ t) (roles-labels n)

  pub roles-read : (f : Forest Row) (g : Forest Label) → labels text name_list f ≡ g → map (λ r. r.role) (roots f) ≡ roles_of (roots g)
  roles-read f g e = roles-labels f ∙ ap (λ (h : Forest Label). roles_of (roots h)) e

  ids-labels : (f : Forest Row) → map (λ r. r.union_id) (roots f) ≡ ids_of (roots (labels text name_list f))
  unfolding labels label_of
  ids-labels ∅ = refl
  ids-labels (node r k n) = ap (λ (t : List ℕ). r.union_id ∷ t) (ids-labels n)

  pub ids-read : (f : Forest Row) (g : Forest Label) → labels text name_list f ≡ g → map (λ r. r.union_id) (roots f) ≡ ids_of (roots g)
  ids-read f g e = ids-labels f ∙ ap (λ (h : Forest Label). ids_of (roots h)) e

module _ (spelling : Spelling) (text : List ℕ) where
  -- the word of a type stands at a place, and behind it the rest of its printed text
  abbrev pub Begins : ℕ → Label → Forest Label → List ℕ → Type 0
  Begins at l kids rest = Found text type_word l.kind at (shape_text spelling (shape_of l.kind) l (shown spelling kids) ++ rest)

  -- a reader reads a tree back wherever its printed text begins, with rows enough
  abbrev pub ReadsTree : (ℕ → ℕ → Out Tree) → Label → Forest Label → Type 0
  ReadsTree type l kids =
      (at rows : ℕ) (rest : List ℕ) → Begins at l kids rest → suc (count kids) ≤ rows → TreeRead text (type at rows) (bare_label l) kids rest

  abbrev pub ReadsAll : (ℕ → ℕ → Out Tree) → Forest Label → Type 0
  ReadsAll type ∅ = Unit {0}
  ReadsAll type (node l kids next) = ReadsTree type l kids × ReadsAll type next

  pub begins : (l : Label) (kids : Forest Label) (at p : ℕ) (rest : List ℕ) → l.kind < kinds → Stop rest
      → Look text at p (type_text spelling l (shown spelling kids) ++ rest) → Begins at l kids rest
  unfolding type_text
  begins l kids at p rest lt st k =
      let w : List ℕ = kind_word l.kind in
      let tail : List ℕ = shape_text spelling (shape_of l.kind) l (shown spelling kids) in
      found_word text type_word l.kind at p w (tail ++ rest) (kind_word_lem l.kind lt) (shape_stop spelling (shape_of l.kind) l (shown spelling kids) rest st)
      (rw (append_assoc w tail rest) at k)

  -- ---- nullability, and then a type

  pub record RoleRead (l : Label) (kids : Forest Label) (at : ℕ) (rest : List ℕ) : Type 0 where
    pub role : role_at text at ≡ l.role
    pub type : Begins (after_role text at) l kids rest

  role-word : (l : Label) (kids : Forest Label) (at : ℕ) (rest : List ℕ) → l.kind < kinds → Stop rest → l.role ≡ 2
      → Found text nullability 2 at (32 ∷ (type_text spelling l (shown spelling kids) ++ rest)) → RoleRead l kids at rest
  unfolding role_at after_role stands
  role-word l kids at rest lt st ro f =
      record {
        role = rw (f.found, f.sort, f.value) (sym ro);
        type = rw (f.found, f.sort)
            (begins l kids f.token.next (f.token.next + 1) rest lt st (look-space text f.token.next (type_text spelling l (shown spelling kids) ++ rest) f.after));
      }

  role-none : (l : Label) (kids : Forest Label) (at : ℕ) (rest : List ℕ) → l.role ≡ 1 → Begins at l kids rest → RoleRead l kids at rest
  unfolding role_at after_role stands
  role-none l kids at rest ro b = record { role = rw (b.found, b.sort) (sym ro); type = rw (b.found, b.sort) b }

  or_left : (a b : Bool) → T (a || b) → b ≡ false → T a
  or_left true b t e = tt
  or_left false b t e = subst T e t

  pub role-read : (l : Label) (kids : Forest Label) (at p : ℕ) (rest : List ℕ) → l.kind < kinds → Stop rest → T (eqb l.role 1 || eqb l.role 2)
      → Look text at p (nullity_text l ++ (type_text spelling l (shown spelling kids) ++ rest)) → RoleRead l kids at rest
  unfolding nullity_text is_word_of is_listed_word words is_separator is_digit
  role-read l kids at p rest lt st ro = go (eqb l.role 2) refl
    where
      go : (b : Bool) → eqb l.role 2 ≡ b → Look text at p ((if b then bytes "non-null " else []) ++ (type_text spelling l (shown spelling kids) ++ rest)) → RoleRead l kids at rest
      go true e k =
          role-word l kids at rest lt st (eqb→eq l.role 2 (of_true _ e))
          (found_word text nullability 2 at p (bytes "non-null") (32 ∷ (type_text spelling l (shown spelling kids) ++ rest)) (word_is nullability 2 (bytes "non-null") tt) tt k)
      go false e k = role-none l kids at rest (eqb→eq l.role 1 (or_left (eqb l.role 1) (eqb l.role 2) ro e)) (begins l kids at p rest lt st k)

-- ---- rows

module _ (text : List ℕ) where
  pub zone-none : zone_of text 0 0 ≡ []
  unfolding zone_of
  zone-none = rw (leb-zero (length text))

  pub bare-row : (l : Label) (param scale start size : ℕ) → param ≡ l.number → scale ≡ l.scale → zone_of text start size ≡ l.zone
      → label_of text name_list (bare_row l.kind param scale start size) ≡ bare_label l
  unfolding label_of name_of
  bare-row l param scale start size p s z = λ j. record { kind = l.kind; role = 0; union_id = 0; number = p j; scale = s j; name = []; zone = z j }

  pub as_field : (l : Label) (r : Row) (role id : ℕ) (n : Name) → label_of text name_list r ≡ bare_label l → role ≡ l.role → id ≡ l.union_id
      → name_of text name_list n.home n.start n.size ≡ l.name → label_of text name_list (field_row role id n r) ≡ l
  unfolding label_of
  as_field l r role id n h e i p =
      λ j. record { kind = (h j).kind; role = e j; union_id = i j; number = (h j).number; scale = (h j).scale; name = p j; zone = (h j).zone }

  -- a type that is no field and has no zone, over children that were read
  pub bare-tree : (l : Label) (kids : Forest Label) (o : Out Tree) (param scale : ℕ) (f : Forest Row) (next : ℕ) (rest : List ℕ) → l.zone ≡ []
      → param ≡ l.number → scale ≡ l.scale → labels text name_list f ≡ kids
      → o ≡ done (record { row = bare_row l.kind param scale 0 0; kids = f; next = next }) → drop next text ≡ rest → TreeRead text o (bare_label l) kids rest
  bare-tree l kids o param scale f next rest z p s b e d =
      record {
        got = record { row = bare_row l.kind param scale 0 0; kids = f; next = next };
        reads = e;
        after = d;
        row = bare-row l param scale 0 0 p s (zone-none ∙ sym z);
        below = b;
      }
