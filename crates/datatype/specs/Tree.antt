-- Trees, rows and what a tree says (document 01, 'The row table').
use Rattle.std.specs.Prelude.{List, [], ◌∷◌, ℕ, zero, suc, ◌+◌, max, length, take, drop, nat_le, if◌then◌else◌}
use Rattle.tokenizer.specs.Text.{bytes}

-- A run of trees side by side: the first tree's root, the run of its children, and the run of its later siblings.
-- A tree is a run of one. Parents stand before children, and children in order: the order of the rows.
pub data Forest (A : Type 0) : Type 0 where
  ∅ : Forest A
  node : (root : A) (children siblings : Forest A) → Forest A

module _ {A : Type 0} where
  -- how many rows
  abbrev pub count : Forest A → ℕ
  count ∅ = 0
  count (node a kids next) = suc (count kids) + count next

  -- the roots of the trees that stand side by side
  abbrev pub roots : Forest A → List A
  roots ∅ = []
  roots (node a kids next) = a ∷ roots next

  -- how many levels; the root's level is 1
  abbrev pub depth : Forest A → ℕ
  depth ∅ = 0
  depth (node a kids next) = max (suc (depth kids)) (depth next)

abbrev pub map_forest : {A B : Type 0} → (A → B) → Forest A → Forest B
map_forest f ∅ = ∅
map_forest f (node a kids next) = node (f a) (map_forest f kids) (map_forest f next)

-- A row's words, but for word 1, the rows in its subtree, which the tree's shape gives.
pub record Row : Type 0 where
  -- word 0
  pub kind : ℕ
  -- word 2: 0 bare, 1 nullable field, 2 non-null field
  pub role : ℕ
  -- word 3: union id
  pub union_id : ℕ
  -- word 4: unit, interval unit, length, precision, mode, or sorted
  pub number : ℕ
  -- word 5: scale plus 128
  pub scale : ℕ
  -- word 6: the name's home: 0 none, 1 the text, 2 the name list
  pub home : ℕ
  -- words 7 and 8: where the name starts, and its length
  pub name_start : ℕ
  pub name_length : ℕ
  -- words 9 and 10: where the zone starts in the text, and its length
  pub zone_start : ℕ
  pub zone_length : ℕ
  -- word 11: the parent's row number, 0 for the root
  pub parent : ℕ

-- What a row says: words 0 and 2 to 5, the bytes of its name, and the bytes of its zone.
pub record Label : Type 0 where
  pub kind : ℕ
  pub role : ℕ
  pub union_id : ℕ
  pub number : ℕ
  pub scale : ℕ
  pub name : List ℕ
  pub zone : List ℕ

-- The name list: `item`, `run_ends` and `values`, end to end.
abbrev pub name_list : List ℕ
name_list = bytes "itemrun_endsvalues"

-- A part of a list, empty where it runs past the end.
abbrev pub part : List ℕ → ℕ → ℕ → List ℕ
part s start size = if nat_le (start + size) (length s) then take size (drop start s) else []

-- A name handed back as a part of the text or of the name list, empty where home, start and length do not fit.
unfoldable pub name_of : List ℕ → List ℕ → ℕ → ℕ → ℕ → List ℕ
name_of text names zero start size = []
name_of text names (suc zero) start size = part text start size
name_of text names (suc (suc zero)) start size = part names start size
name_of text names (suc (suc (suc home))) start size = []

-- A zone is a part of the text.
unfoldable pub zone_of : List ℕ → ℕ → ℕ → List ℕ
zone_of text start size = part text start size

unfoldable pub label_of : List ℕ → List ℕ → Row → Label
label_of text names r =
    record {
      kind = r.kind;
      role = r.role;
      union_id = r.union_id;
      number = r.number;
      scale = r.scale;
      name = name_of text names r.home r.name_start r.name_length;
      zone = zone_of text r.zone_start r.zone_length;
    }

-- What a run of trees over a text and a name list says.
unfoldable pub labels : List ℕ → List ℕ → Forest Row → Forest Label
labels text names f = map_forest (label_of text names) f
