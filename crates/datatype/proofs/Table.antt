-- Tables and trees: a table that the view takes apart is put together again word for word, and the other way round.
use Rattle.std.specs.Prelude.{if◌then◌else◌}
use mathlib.Core.Path.{◌≡◌, refl, ap, ◌∙◌}
use mathlib.Core.Bool.{Bool, true, false, ◌&&◌}
use mathlib.Core.List.{List, [], ◌∷◌, ◌++◌}
use mathlib.Core.Option.{Option, none, some}
use Prim.Native.Nat.{ℕ, zero, suc, ◌*◌, ◌-◌, ◌≤◌}
use native.Mathlib.Omega.{arith}
use lib.ListN.{length, take, drop, length-append, length-take, length-drop, take-append-drop}
use lib.Seq.{drop-cons, take_at, drop_at, length-take-le}
use lib.Dec.{T, leb, leb→le}
use borrow.Author.Tests.{le-leb}
use Rattle.tokenizer.proofs.Basics.{and_l, and_r}
use Rattle.datatype.specs.Tree.{Forest, ∅, node, count, Row}
use Rattle.datatype.specs.Table.{row_words, words_of, row_of, rows_word, table_of, join, view_with, view_of}

pub length_table : (f : Forest Row) → length (table_of f) ≡ row_words * count f
unfolding table_of words_of
length_table ∅ = refl
length_table (node r k n) =
    let hk = length_table k in
    let hn = length_table n in
    omega (arith, length-append (table_of k) (table_of n))

-- ---- from a tree to its table and back

-- at a row whose subtree is in the table the view goes on with both parts
pub view_row : (m : ℕ) (r : Row) (kids next : Forest Row)
    → view_with (suc m) (table_of (node r kids next)) ≡ join r (view_with m (table_of kids)) (view_with m (table_of next))
unfolding view_with table_of words_of row_of
view_row m r kids next =
    let e : row_words * (suc (count kids) - 1) ≡ length (table_of kids) = omega (arith, length_table kids) in
    rw (
      e,
      le-leb 1 (suc (count kids)) (omega arith),
      le-leb (row_words * suc (count kids)) (length (table_of (node r kids next))) (omega (arith, length_table kids, length-append (table_of kids) (table_of next))),
      take_at (table_of kids) (table_of next) (length (table_of kids)) refl,
      drop_at (table_of kids) (table_of next) (length (table_of kids)) refl,
    )

view_table_with : (f : Forest Row) (m : ℕ) → count f ≤ m → view_with m (table_of f) ≡ some f
unfolding view_with table_of
view_table_with ∅ zero h = refl
view_table_with ∅ (suc m) h = refl
view_table_with (node r k n) zero h = absurd (omega arith)
view_table_with (node r k n) (suc m) h = view_row m r k n ∙ rw (view_table_with k m (omega arith), view_table_with n m (omega arith))

-- a tree's table is taken apart into the tree
pub view_table : (f : Forest Row) → view_of (table_of f) ≡ some f
unfolding view_of
view_table f = view_table_with f (length (table_of f)) (omega (arith, length_table f))

-- ---- from a table to its tree and back

-- a row taken from a list and what stands behind it are the list
pub row_words_lem : (ws : List ℕ) → row_words ≤ length ws → words_of (row_of ws) (rows_word ws) ++ drop row_words ws ≡ ws
unfolding words_of row_of
row_words_lem ws h =
    rw (
      ← drop-cons ws 11 0 (omega arith),
      ← drop-cons ws 10 0 (omega arith),
      ← drop-cons ws 9 0 (omega arith),
      ← drop-cons ws 8 0 (omega arith),
      ← drop-cons ws 7 0 (omega arith),
      ← drop-cons ws 6 0 (omega arith),
      ← drop-cons ws 5 0 (omega arith),
      ← drop-cons ws 4 0 (omega arith),
      ← drop-cons ws 3 0 (omega arith),
      ← drop-cons ws 2 0 (omega arith),
      ← drop-cons ws 1 0 (omega arith),
      ← drop-cons ws 0 0 (omega arith),
    )

-- what a list of words that views as a run is taken apart into
record Viewed (m : ℕ) (ws : List ℕ) (f : Forest Row) : Type 0 where
  kids : Forest Row
  next : Forest Row
  is : f ≡ node (row_of ws) kids next
  some-rows : 1 ≤ rows_word ws
  long : row_words * rows_word ws ≤ length ws
  first : view_with m (take (row_words * (rows_word ws - 1)) (drop row_words ws)) ≡ some kids
  rest : view_with m (drop (row_words * (rows_word ws - 1)) (drop row_words ws)) ≡ some next

join_some : (r : Row) (a b : Option (Forest Row)) (f : Forest Row) → join r a b ≡ some f → (k n : Forest Row) × (f ≡ node r k n) × (a ≡ some k) × (b ≡ some n)
join_some r none b f e = absurd (let z : ◌≡◌ {A = ℕ} 0 1 = cc in omega arith)
join_some r (some k) none f e = absurd (let z : ◌≡◌ {A = ℕ} 0 1 = cc in omega arith)
join_some r (some k) (some n) f e = (k, n, cc, refl, refl)

if_some : (b : Bool) (x : Option (Forest Row)) (f : Forest Row) → (if b then x else none) ≡ some f → T b × (x ≡ some f)
if_some true x f e = (tt, e)
if_some false x f e = absurd (let z : ◌≡◌ {A = ℕ} 0 1 = cc in omega arith)

viewed : (m w : ℕ) (ws : List ℕ) (f : Forest Row) → view_with (suc m) (w ∷ ws) ≡ some f → Viewed m (w ∷ ws) f
unfolding view_with
viewed m w ws f e =
    let rows = rows_word (w ∷ ws) in
    let behind = drop row_words (w ∷ ws) in
    let below = view_with m (take (row_words * (rows - 1)) behind) in
    let beyond = view_with m (drop (row_words * (rows - 1)) behind) in
    let test = leb 1 rows in
    let fits = leb (row_words * rows) (length (w ∷ ws)) in
    let c = if_some (test && fits) (join (row_of (w ∷ ws)) below beyond) f e in
    let j = join_some (row_of (w ∷ ws)) below beyond f c.1 in
    record {
      kids = j.0;
      next = j.1;
      is = j.2;
      some-rows = leb→le 1 rows (and_l test fits c.0);
      long = leb→le (row_words * rows) (length (w ∷ ws)) (and_r test fits c.0);
      first = j.3;
      rest = j.4;
    }

put_together : (m : ℕ) (ws : List ℕ) (f : Forest Row) → ((t : List ℕ) (g : Forest Row) → view_with m t ≡ some g → table_of g ≡ t) → Viewed m ws f → table_of f ≡ ws
unfolding table_of
put_together m ws f ih v =
    let lo : 1 ≤ rows_word ws = v.some-rows in
    let hi : row_words * rows_word ws ≤ length ws = v.long in
    let behind = drop row_words ws in
    let size = row_words * (rows_word ws - 1) in
    let fits : size ≤ length behind = omega (arith, length-drop row_words ws) in
    let k : table_of v.kids ≡ take size behind = ih (take size behind) v.kids v.first in
    let n : table_of v.next ≡ drop size behind = ih (drop size behind) v.next v.rest in
    let rows : suc (count v.kids) ≡ rows_word ws = omega (arith, length_table v.kids, ap length k, length-take-le size behind fits) in
    rw (v.is, rows, k, n, take-append-drop size behind) (row_words_lem ws (omega arith))

table_view_with : (m : ℕ) (t : List ℕ) (f : Forest Row) → view_with m t ≡ some f → table_of f ≡ t
unfolding view_with table_of
table_view_with zero [] f e = let z : f ≡ ∅ = cc in ap table_of z
table_view_with zero (w ∷ ws) f e = absurd (let z : ◌≡◌ {A = ℕ} 0 1 = cc in omega arith)
table_view_with (suc m) [] f e = let z : f ≡ ∅ = cc in ap table_of z
table_view_with (suc m) (w ∷ ws) f e = put_together m (w ∷ ws) f (λ t g. table_view_with m t g) (viewed m w ws f e)

-- a table that is taken apart is the table of the tree
pub table_view : (t : List ℕ) (f : Forest Row) → view_of t ≡ some f → table_of f ≡ t
unfolding view_of
table_view t f = table_view_with (length t) t f

-- ---- the number that only falls in a view never decides it

pub view_enough : (m n : ℕ) (t : List ℕ) → length t ≤ m → length t ≤ n → view_with m t ≡ view_with n t
unfolding view_with
view_enough zero zero [] p q = refl
view_enough zero zero (w ∷ ws) p q = refl
view_enough zero (suc n) [] p q = refl
view_enough zero (suc n) (w ∷ ws) p q = absurd (omega arith)
view_enough (suc m) zero [] p q = refl
view_enough (suc m) zero (w ∷ ws) p q = absurd (omega arith)
view_enough (suc m) (suc n) [] p q = refl
view_enough (suc m) (suc n) (w ∷ ws) p q =
    let behind = drop row_words (w ∷ ws) in
    let size = row_words * (rows_word (w ∷ ws) - 1) in
    let short : length behind ≤ m = omega (arith, length-drop row_words (w ∷ ws)) in
    let short' : length behind ≤ n = omega (arith, length-drop row_words (w ∷ ws)) in
    rw (
      view_enough m n (take size behind) (omega (arith, length-take size behind)) (omega (arith, length-take size behind)),
      view_enough m n (drop size behind) (omega (arith, length-drop size behind)) (omega (arith, length-drop size behind)),
    )
