-- More rows and bytes lent change nothing of what is read.
use Rattle.std.specs.Prelude.{if◌then◌else◌}
use mathlib.Core.Path.{◌≡◌, refl, sym, ap, subst, ◌∙◌}
use mathlib.Core.Bool.{Bool, true, false}
use mathlib.Core.List.{List, [], ◌∷◌}
use Prim.Native.Nat.{ℕ, zero, suc, ◌+◌, ◌-◌, ◌≤◌, min}
use native.Mathlib.Omega.{arith}
use borrow.Author.Tests.{le-leb}
use lib.ListN.{length, drop}
use Rattle.tokenizer.specs.Text.{is_empty}
use Rattle.tokenizer.specs.Answer.{Out, refused, done, refuse, ◌>>=◌}
use Rattle.datatype.specs.Tree.{Forest, ∅, node, Label, name_list}
use Rattle.datatype.specs.Table.{rows_lent, table_of}
use Rattle.row_table.specs.Sound.{is_sound}
use Rattle.packing.specs.Packed.{packed_text, packed}
use Rattle.archive.specs.Archive.{Room, Head, Read, Strings, room_left, string_at, strings_at, whole_record, kind_at, record_at, records_at, tree_at, unarchived}
use Rattle.archive.proofs.Holds.{Holds, holds_test, holds_done}

-- The second answer is the first one's, seen by a view, where that is no refusal.
abbrev Stays : {A : Type 0} → (A → A) → Out A → Out A → Type 0
Stays view o p = Holds (λ a. p ≡ done (view a)) o

stays_same : {A : Type 0} (o : Out A) → Stays (λ a. a) o o
stays_same (refused r) = tt
stays_same (done a) = refl

stays_then : {A B : Type 0} (f : A → A) (g : B → B) (o p : Out A) (next next' : A → Out B) → Stays f o p → ((a : A) → Stays g (next a) (next' (f a))) → Stays g (o >>= next) (p >>= next')
stays_then f g (refused r) p next next' h k = tt
stays_then f g (done a) p next next' h k = subst (λ q. Stays g (next a) (q >>= next')) (sym h) (k a)

stays_if : {A : Type 0} (f : A → A) (b : Bool) (o p : Out A) (r : Out A) → Stays f o p → Stays f r r → Stays f (if b then o else r) (if b then p else r)
stays_if f true o p r h k = h
stays_if f false o p r h k = k

module _ (n k : ℕ) where
  abbrev more : Room → Room
  more r = record { rows = r.rows + n; bytes = r.bytes + k }

  left-more : (m a b : ℕ) → Stays (λ (left : ℕ). left + b) (room_left m a) (room_left m (a + b))
  left-more m a b = holds_test (λ (left : ℕ). room_left m (a + b) ≡ done (left + b)) m a (done (a - m)) (refuse 28) (λ h. let e : a + b - m ≡ a - m + b = omega arith in rw (le-leb m (a + b) (omega arith)) (ap done e)) tt

  abbrev strings-view : Strings → Strings
  strings-view p = record { name = p.name; zone = p.zone; rest = p.rest; left = p.left + k }

  strings-more : (s : List ℕ) (room : ℕ) → Stays strings-view (strings_at s room) (strings_at s (room + k))
  unfolding strings_at
  strings-more s room =
      stays_then (λ a. a) strings-view (string_at s) (string_at s) _ _ (stays_same (string_at s)) λ name.
      stays_then (λ left. left + k) strings-view (room_left (length name.value) room) (room_left (length name.value) (room + k)) _ _ (left-more (length name.value) room k) λ bytes.
      stays_then (λ a. a) strings-view (string_at name.rest) (string_at name.rest) _ _ (stays_same (string_at name.rest)) λ zone.
      stays_then (λ left. left + k) strings-view (room_left (length zone.value) bytes) (room_left (length zone.value) (bytes + k)) _ _ (left-more (length zone.value) bytes k) λ left.
      refl

  abbrev head-view : Head → Head
  head-view h = record { label = h.label; below = h.below; behind = h.behind; room = more h.room }

  record-more : (s : List ℕ) (room : Room) → Stays head-view (record_at s room) (record_at s (more room))
  unfolding record_at
  record-more s room =
      stays_then (λ a. a) head-view (whole_record s) (whole_record s) _ _ (stays_same (whole_record s)) λ r.
      stays_then (λ a. a) head-view (kind_at (drop 4 r.value)) (kind_at (drop 4 r.value)) _ _ (stays_same (kind_at (drop 4 r.value))) λ kind.
      stays_then (λ left. left + n) head-view (room_left 1 room.rows) (room_left 1 (room.rows + n)) _ _ (left-more 1 room.rows n) λ rows.
      stays_then strings-view head-view (strings_at (drop 9 (drop 4 r.value)) room.bytes) (strings_at (drop 9 (drop 4 r.value)) (room.bytes + k)) _ _ (strings-more (drop 9 (drop 4 r.value)) room.bytes) λ p.
      refl

  abbrev read-view : Read → Read
  read-view t = record { trees = t.trees; room = more t.room }

  records-more : (m : ℕ) (s : List ℕ) (room : Room) → Stays read-view (records_at m s room) (records_at m s (more room))
  unfolding records_at
  records-more zero s room = refl
  records-more (suc m) [] room = refl
  records-more (suc m) (b ∷ s) room =
      stays_then head-view read-view (record_at (b ∷ s) room) (record_at (b ∷ s) (more room)) _ _ (record-more (b ∷ s) room) λ h.
      stays_then read-view read-view (records_at m h.below h.room) (records_at m h.below (more h.room)) _ _ (records-more m h.below h.room) λ kids.
      stays_then read-view read-view (records_at m h.behind kids.room) (records_at m h.behind (more kids.room)) _ _ (records-more m h.behind kids.room) λ next.
      refl

  tree-more : (image : List ℕ) (room : Room) → Stays (λ (f : Forest Label). f) (tree_at image room) (tree_at image (more room))
  unfolding tree_at
  tree-more image room =
      stays_then head-view (λ (f : Forest Label). f) (record_at image room) (record_at image (more room)) _ _ (record-more image room) λ h.
      stays_then read-view (λ (f : Forest Label). f) (records_at (length image) h.below h.room) (records_at (length image) h.below (more h.room)) _ _ (records-more (length image) h.below h.room) λ kids.
      stays_same (if is_empty h.behind then done (node h.label kids.trees ∅) else refuse 30)

pub unarchived-more : (image : List ℕ) (words bytes words' bytes' : ℕ) → words ≤ words' → bytes ≤ bytes' → (f : Forest Label) → unarchived image words bytes ≡ done f → unarchived image words' bytes' ≡ done f
unfolding unarchived rows_lent
unarchived-more image words bytes words' bytes' h l f e =
    ap (λ (r : Room). tree_at image r >>= judged) room-is
    ∙ holds_done (λ (f : Forest Label). (tree_at image (more n k room) >>= judged) ≡ done f) (tree_at image room >>= judged) f
    (stays_then (λ (f : Forest Label). f) (λ (f : Forest Label). f) (tree_at image room) (tree_at image (more n k room)) _ _ (tree-more n k image room) λ f. stays_same (judged f)) e
  where
    room : Room
    room = record { rows = rows_lent words; bytes = min bytes 16384 }

    n : ℕ
    n = rows_lent words' - rows_lent words

    k : ℕ
    k = min bytes' 16384 - min bytes 16384

    judged : Forest Label → Out (Forest Label)
    judged f = if is_sound (packed_text f) name_list (table_of (packed f)) then done f else refuse 17

    room-is : ◌≡◌ {A = Room} (record { rows = rows_lent words'; bytes = min bytes' 16384 }) (more n k room)
    room-is =
        let r : rows_lent words' ≡ rows_lent words + n = omega arith in
        let b : min bytes' 16384 ≡ min bytes 16384 + k = omega arith in
        λ j. record { rows = r j; bytes = b j }
