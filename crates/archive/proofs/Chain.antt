-- Reading records along a chain of stretches.
--   apart            where a record's children and what is behind it stand
--   records-enough   the number that falls never decides an answer
--   chain-push, ..   a stretch that begins with a record is its children's stretch and the one behind it
use mathlib.Core.Path.{◌≡◌, refl, sym, ap, subst, ◌∙◌}
use mathlib.Core.List.{List, [], ◌∷◌}
use Prim.Native.Nat.{ℕ, zero, suc, ◌+◌, ◌-◌, ◌≤◌, ◌<◌}
use native.Mathlib.Omega.{arith}
use native.Mathlib.Decide.{dec_lt}
use Rattle.std.proofs.lemmas.List.{length-set, length-take-le, length-drop, take-take, drop-drop, drop-take, get_or-set_same, get_or-set_other}
use lib.ListN.{length, take, drop, set, get_or}
use Rattle.std.specs.Int.{Width, w16, w32, byte_len}
use Rattle.tokenizer.specs.Answer.{Refusal, Out, refused, done, refuse, ◌>>=◌}
use Rattle.datatype.specs.Tree.{Forest, node, Label}
use Rattle.archive.specs.Archive.{record_bytes, Room, Taken, Head, Read, number_at, part_at, room_left, string_at, Strings, strings_at, whole_record, kind_at, record_at, records_at}
use Rattle.archive.specs.declared.record.Room.{Room as Left}
use Rattle.archive.specs.declared.record.Head.{Head as Parted}
use Rattle.archive.specs.Internal.Said.{room_said, head_said}
use Rattle.archive.proofs.Holds.{Holds, holds_then, holds_any, holds_map, holds_test, holds_done, same_bind}
use Rattle.archive.specs.Internal.Chain.{left_of, chain_left, between, stretches}

-- ---- a record taken apart

-- Its first n bytes; its children's behind k of these.
pub record Apart (s : List ℕ) (room : Room) (h : Head) : Type 0 where
  pub n : ℕ
  pub k : ℕ
  pub long : 17 ≤ k
  pub inside : k ≤ n
  pub within : n ≤ length s
  pub is-below : h.below ≡ drop k (take n s)
  pub is-behind : h.behind ≡ drop n s
  pub fewer : suc h.room.rows ≤ room.rows

record Numbered (size : ℕ) (s : List ℕ) (t : Taken ℕ) : Type 0 where
  whole : size ≤ length s
  is-rest : t.rest ≡ drop size s

record Parts (m : ℕ) (s : List ℕ) (t : Taken (List ℕ)) : Type 0 where
  within : m ≤ length s
  is-value : t.value ≡ take m s
  is-rest : t.rest ≡ drop m s

-- A string: its length is whole, and it is within the bytes.
record Strung (s : List ℕ) (t : Taken (List ℕ)) : Type 0 where
  m : ℕ
  room : 2 + m ≤ length s
  is-rest : t.rest ≡ drop (2 + m) s

record Whole (s : List ℕ) (t : Taken (List ℕ)) : Type 0 where
  n : ℕ
  long : 17 ≤ n
  parts : Parts n s t

parted : (m : ℕ) (s : List ℕ) → Holds (Parts m s) (part_at m s)
parted m s = holds_test (Parts m s) m (length s) _ _ (λ h. record { within = h; is-value = refl; is-rest = refl }) tt

numbered : (w : Width) (s : List ℕ) → Holds (Numbered (byte_len w) s) (number_at w s)
numbered w s = holds_test (Numbered (byte_len w) s) (byte_len w) (length s) _ _ (λ h. record { whole = h; is-rest = refl }) tt

strung : (s : List ℕ) → Holds (Strung s) (string_at s)
unfolding string_at
strung s =
    holds_then (Numbered 2 s) (Strung s) (number_at w16 s) _ (numbered w16 s) λ n a.
    holds_map (Parts n.value n.rest) (Strung s) (part_at n.value n.rest)
    (λ t p. record {
      m = n.value;
      room = let q = p.within in let r = a.whole in omega (arith, ap length a.is-rest, length-drop 2 s);
      is-rest = p.is-rest ∙ ap (drop n.value) a.is-rest ∙ drop-drop n.value 2 s;
    })
    (parted n.value n.rest)

whole : (s : List ℕ) → Holds (Whole s) (whole_record s)
unfolding whole_record
whole s =
    holds_then (Numbered 4 s) (Whole s) (number_at w32 s) _ (numbered w32 s) λ n a.
    holds_test (Whole s) record_bytes n.value (part_at n.value s) (refuse 30)
    (λ h. holds_map (Parts n.value s) (Whole s) (part_at n.value s) (λ t p. record { n = n.value; long = h; parts = p }) (parted n.value s))
    tt

-- where a record's parts stand, from those of its own bytes
record Places (s : List ℕ) (below behind : List ℕ) : Type 0 where
  n : ℕ
  k : ℕ
  long : 17 ≤ k
  inside : k ≤ n
  within : n ≤ length s
  is-below : below ≡ drop k (take n s)
  is-behind : behind ≡ drop n s

-- a name and a zone take four bytes at least
record Named (s : List ℕ) (p : Strings) : Type 0 where
  m : ℕ
  room : 4 + m ≤ length s
  is-rest : p.rest ≡ drop (4 + m) s

named : (s : List ℕ) (room : ℕ) → Holds (Named s) (strings_at s room)
unfolding strings_at
named s room =
    holds_then (Strung s) (Named s) (string_at s) _ (strung s) λ name a.
    holds_then (λ (n : ℕ). Unit {0}) (Named s) (room_left (length name.value) room) _ (holds_any (room_left (length name.value) room)) λ bytes v.
    holds_then (Strung name.rest) (Named s) (string_at name.rest) _ (strung name.rest) λ zone z.
    holds_then (λ (n : ℕ). Unit {0}) (Named s) (room_left (length zone.value) bytes) _ (holds_any (room_left (length zone.value) bytes)) λ left x.
    record {
      m = a.m + z.m;
      room = let q = a.room in let t = z.room in omega (arith, ap length a.is-rest, length-drop (2 + a.m) s);
      is-rest = z.is-rest ∙ ap (drop (2 + z.m)) a.is-rest ∙ drop-drop (2 + z.m) (2 + a.m) s ∙ ap (λ (i : ℕ). drop i s) (omega arith);
    }

places : (s : List ℕ) (r : Taken (List ℕ)) (w : Whole s r) (p : Strings) → Named (drop 9 (drop 4 r.value)) p → Places s p.rest r.rest
places s r w p a =
    let v = w.parts in
    let h = v.within in
    let own : length r.value ≡ w.n = ap length v.is-value ∙ length-take-le w.n s h in
    let q = a.room in
    let l = w.long in
    record {
      n = w.n;
      k = 17 + a.m;
      long = omega arith;
      inside = omega (arith, own, length-drop 4 r.value, length-drop 9 (drop 4 r.value));
      within = h;
      is-below =
          a.is-rest
          ∙ ap (drop (4 + a.m)) (drop-drop 9 4 r.value)
          ∙ drop-drop (4 + a.m) 13 r.value
          ∙ ap (λ (i : ℕ). drop i r.value) (omega arith)
          ∙ ap (drop (17 + a.m)) v.is-value;
      is-behind = v.is-rest;
    }

one-less : (n : ℕ) → Holds (λ (left : ℕ). suc left ≤ n) (room_left 1 n)
one-less n = holds_test (λ (left : ℕ). suc left ≤ n) 1 n (done (n - 1)) (refuse 28) (λ h. omega arith) tt

pub apart : (s : List ℕ) (room : Room) → Holds (Apart s room) (record_at s room)
unfolding record_at
apart s room =
    holds_then (Whole s) (Apart s room) (whole_record s) _ (whole s) λ r w.
    holds_then (λ (k : ℕ). Unit {0}) (Apart s room) (kind_at (drop 4 r.value)) _ (holds_any (kind_at (drop 4 r.value))) λ kind u.
    holds_then (λ (n : ℕ). suc n ≤ room.rows) (Apart s room) (room_left 1 room.rows) _ (one-less room.rows) λ rows v.
    holds_then (Named (drop 9 (drop 4 r.value))) (Apart s room) (strings_at (drop 9 (drop 4 r.value)) room.bytes) _ (named (drop 9 (drop 4 r.value)) room.bytes) λ p a.
    (let x = places s r w p a in
    record { n = x.n; k = x.k; long = x.long; inside = x.inside; within = x.within; is-below = x.is-below; is-behind = x.is-behind; fewer = v })

-- a record's children, and what stands behind it, are shorter
pub below-short : (s : List ℕ) (room : Room) (h : Head) → Apart s room h → length h.below + 17 ≤ length s
below-short s room h a =
    let i = a.inside in let w = a.within in let l = a.long in
    omega (arith, ap length a.is-below, length-drop a.k (take a.n s), length-take-le a.n s w)

pub behind-short : (s : List ℕ) (room : Room) (h : Head) → Apart s room h → length h.behind + 17 ≤ length s
behind-short s room h a =
    let i = a.inside in let w = a.within in let l = a.long in
    omega (arith, ap length a.is-behind, length-drop a.n s)

-- ---- the number that falls

pub records-enough : (m n : ℕ) (s : List ℕ) (room : Room) → length s ≤ m → length s ≤ n → records_at m s room ≡ records_at n s room
unfolding records_at
records-enough zero zero s room h k = refl
records-enough zero (suc n) [] room h k = refl
records-enough zero (suc n) (b ∷ s) room h k = absurd (omega arith)
records-enough (suc m) zero [] room h k = refl
records-enough (suc m) zero (b ∷ s) room h k = absurd (omega arith)
records-enough (suc m) (suc n) [] room h k = refl
records-enough (suc m) (suc n) (b ∷ s) room h k =
    same_bind (Apart (b ∷ s) room) (record_at (b ∷ s) room) _ _ (apart (b ∷ s) room) λ x a.
    (ap (λ (o : Out Read). o >>= (λ kids. records_at m x.behind kids.room >>= (λ next. done (record { trees = node x.label kids.trees next.trees; room = next.room })))) (records-enough m n x.below x.room (omega (arith, below-short (b ∷ s) room x a)) (omega (arith, below-short (b ∷ s) room x a)))
    ∙ same_bind (λ (kids : Read). Unit {0}) (records_at n x.below x.room) _ _ (any (records_at n x.below x.room)) λ kids u.
    ap (λ (o : Out Read). o >>= (λ next. done (record { trees = node x.label kids.trees next.trees; room = next.room }))) (records-enough m n x.behind kids.room (omega (arith, behind-short (b ∷ s) room x a)) (omega (arith, behind-short (b ∷ s) room x a))))
  where
    any : (o : Out Read) → Holds (λ (r : Read). Unit {0}) o
    any (refused r) = tt
    any (done r) = tt

-- ---- a chain of stretches

left-two : (o : Out Read) (next : Room → Out Read) (t : Read → Read → Forest Label) (c : Room → Out Room)
    → (left_of (o >>= (λ k. next k.room >>= (λ n. done (record { trees = t k n; room = n.room })))) >>= c) ≡ (left_of o >>= (λ r. left_of (next r) >>= c))
left-two (refused r) next t c = refl
left-two (done k) next t c = go (next k.room)
  where
    go : (o : Out Read) → (left_of (o >>= (λ n. done (record { trees = t k n; room = n.room }))) >>= c) ≡ (left_of o >>= c)
    go (refused r) = refl
    go (done n) = refl

pub chain-done : (f : ℕ) (room : Room) → chain_left f [] room ≡ done room
unfolding chain_left
chain-done f room = refl

then-done : (o : Out Room) → (o >>= (λ r. done r)) ≡ o
then-done (refused r) = refl
then-done (done r) = refl

pub chain-one : (f : ℕ) (s : List ℕ) (room : Room) → chain_left f (s ∷ []) room ≡ left_of (records_at f s room)
unfolding chain_left
chain-one f s room = then-done (left_of (records_at f s room))

pub chain-pop : (f : ℕ) (ss : List (List ℕ)) (room : Room) → chain_left f ([] ∷ ss) room ≡ chain_left f ss room
unfolding chain_left records_at
chain-pop zero ss room = refl
chain-pop (suc f) ss room = refl

pub chain-lost : (f : ℕ) (b : ℕ) (s : List ℕ) (ss : List (List ℕ)) (room : Room) (r : Refusal) → length (b ∷ s) ≤ f → record_at (b ∷ s) room ≡ refused r → chain_left f ((b ∷ s) ∷ ss) room ≡ refused r
unfolding chain_left records_at
chain-lost zero b s ss room r h e = absurd (omega arith)
chain-lost (suc f) b s ss room r h e = rw e refl

records-step : (f : ℕ) (b : ℕ) (s : List ℕ) (room : Room) (h : Head) → record_at (b ∷ s) room ≡ done h
    → records_at (suc f) (b ∷ s) room ≡ (records_at f h.below h.room >>= (λ kids. records_at f h.behind kids.room >>= (λ next. done (record { trees = node h.label kids.trees next.trees; room = next.room }))))
unfolding records_at
records-step f b s room h e = rw e refl

pub chain-push : (f : ℕ) (b : ℕ) (s : List ℕ) (ss : List (List ℕ)) (room : Room) (h : Head) → length (b ∷ s) ≤ f → record_at (b ∷ s) room ≡ done h
    → chain_left f ((b ∷ s) ∷ ss) room ≡ chain_left f (h.below ∷ h.behind ∷ ss) h.room
unfolding chain_left
chain-push zero b s ss room h l e = absurd (omega arith)
chain-push (suc f) b s ss room h l e =
    ap (λ (o : Out Read). left_of o >>= (λ r. chain_left (suc f) ss r)) (records-step f b s room h e)
    ∙ left-two (records_at f h.below h.room) (λ r. records_at f h.behind r) (λ k n. node h.label k.trees n.trees) (λ r. chain_left (suc f) ss r)
    ∙ (λ j. left_of (records-enough f (suc f) h.below h.room short-below (omega (arith, short-below)) j) >>= (λ r. left_of (records-enough f (suc f) h.behind r short-behind (omega (arith, short-behind)) j) >>= (λ q. chain_left (suc f) ss q)))
  where
    a : Apart (b ∷ s) room h
    a = holds_done (Apart (b ∷ s) room) (record_at (b ∷ s) room) h (apart (b ∷ s) room) e

    short-below : length h.below ≤ f
    short-below = omega (arith, below-short (b ∷ s) room h a)

    short-behind : length h.behind ≤ f
    short-behind = omega (arith, behind-short (b ∷ s) room h a)

-- ---- the loop of `scan`

between-part : (image : List ℕ) (at end i j : ℕ) → i ≤ j → j ≤ end - at → drop i (take j (between image at end)) ≡ between image (at + i) (at + j)
between-part image at end i j h k =
    ap (drop i) (take-take j (end - at) (drop at image) k)
    ∙ ap (λ (n : ℕ). drop i (take n (drop at image))) m
    ∙ drop-take i (j - i) (drop at image)
    ∙ (λ x. take (n x) (drop-drop i at image x))
  where
    m : j ≡ i + (j - i)
    m = omega arith

    n : j - i ≡ at + j - (at + i)
    n = omega arith

between-rest : (image : List ℕ) (at end n : ℕ) → n ≤ end - at → drop n (between image at end) ≡ between image (at + n) end
between-rest image at end n h =
    ap (λ (k : ℕ). drop n (take k (drop at image))) m
    ∙ drop-take n (end - at - n) (drop at image)
    ∙ (λ x. take (k x) (drop-drop n at image x))
  where
    m : end - at ≡ n + (end - at - n)
    m = omega arith

    k : end - at - n ≡ end - (at + n)
    k = omega arith

pub between-long : (image : List ℕ) (at end : ℕ) → end ≤ length image → length (between image at end) ≡ end - at
between-long image at end h = length-take-le (end - at) (drop at image) (omega (arith, length-drop at image))

between-none : (image : List ℕ) (at : ℕ) → between image at at ≡ []
between-none image at = ap (λ (n : ℕ). take n (drop at image)) z
  where
    z : at - at ≡ 0
    z = omega arith

-- the ends of open records lie in one another, and in the image
pub Inside : ℕ → List ℕ → ℕ → ℕ → Type 0
Inside long ends zero at = at ≤ long
Inside long ends (suc d) at = (at ≤ get_or ends d 0) × Inside long ends d (get_or ends d 0)

stretch-first : (image ends : List ℕ) (d at : ℕ) → stretches image ends (suc d) at ≡ between image at (get_or ends d 0) ∷ stretches image ends d (get_or ends d 0)
unfolding stretches
stretch-first image ends d at = refl

module _ (ends : List ℕ) (i e : ℕ) where
  other : (d : ℕ) → suc d ≤ i → get_or (set ends i e) d 0 ≡ get_or ends d 0
  other d h = get_or-set_other ends i d e 0 (λ x. omega (arith, x))

  stretches_same : (image : List ℕ) (d at : ℕ) → d ≤ i → stretches image (set ends i e) d at ≡ stretches image ends d at
  unfolding stretches
  stretches_same image zero at h = refl
  stretches_same image (suc d) at h = rw (other d h) (ap (λ (l : List (List ℕ)). between image at (get_or ends d 0) ∷ l) (stretches_same image d (get_or ends d 0) (omega arith)))

  inside_same : (long d at : ℕ) → d ≤ i → Inside long ends d at → Inside long (set ends i e) d at
  unfolding Inside
  inside_same long zero at h p = p
  inside_same long (suc d) at h p = rw (other d h) ((p.0, inside_same long d (get_or ends d 0) (omega arith) p.1))

inside-image : (long : ℕ) (ends : List ℕ) (d at : ℕ) → Inside long ends d at → at ≤ long
unfolding Inside
inside-image long ends zero at p = p
inside-image long ends (suc d) at p = let a = p.0 in let b = inside-image long ends d (get_or ends d 0) p.1 in omega arith

-- What the loop keeps: reading the chain that is left gives what the whole gives.
pub record Goes (image : List ℕ) (total : Out Room) (ends : List ℕ) (deep at : ℕ) (room : Left) : Type 0 where
  pub same : chain_left (length image) (stretches image ends deep at) (room_said room) ≡ total
  pub inside : Inside (length image) ends deep at
  pub few : deep + room.rows ≤ 1024
  pub size : length ends ≡ 1024

pub scan-start : (image ends : List ℕ) (start end : ℕ) (room : Left) → start ≤ end → end ≤ length image → room.rows < 1024 → length ends ≡ 1024 → get_or ends 0 0 ≡ end
    → Goes image (left_of (records_at (length image) (between image start end) (room_said room))) ends 1 start room
unfolding stretches Inside
scan-start image ends start end room h k l z e = record {
  same = rw e (chain-one (length image) (between image start end) (room_said room));
  inside = rw e (h, k);
  few = omega arith;
  size = z;
}

pub scan-done : (image : List ℕ) (total : Out Room) (ends : List ℕ) (deep at : ℕ) (room : Left) → Goes image total ends deep at room → deep ≡ 0 → total ≡ done (room_said room)
unfolding stretches
scan-done image total ends deep at room g e = sym g.same ∙ ap (λ (d : ℕ). chain_left (length image) (stretches image ends d at) (room_said room)) e ∙ chain-done (length image) (room_said room)

module _ (image : List ℕ) (total : Out Room) (ends : List ℕ) (d at : ℕ) (room : Left) (g : Goes image total ends (suc d) at room) where
  abbrev end : ℕ
  end = get_or ends d 0

  abbrev own : List ℕ
  own = between image at end

  abbrev later : List (List ℕ)
  later = stretches image ends d end

  chain : chain_left (length image) (own ∷ later) (room_said room) ≡ total
  unfolding stretches
  chain = g.same

  inside : (at ≤ end) × Inside (length image) ends d end
  unfolding Inside
  inside = g.inside

  within : end ≤ length image
  within = inside-image (length image) ends d end inside.1

  pop : at ≡ end → Goes image total ends d at room
  pop e = record {
    same =
        (λ j. chain_left (length image) (stretches image ends d (e j)) (room_said room))
        ∙ sym (chain-pop (length image) later (room_said room))
        ∙ ap (λ (s : List ℕ). chain_left (length image) (s ∷ later) (room_said room)) (sym (ap (λ (x : ℕ). between image x end) e ∙ between-none image end))
        ∙ chain;
    inside = subst (λ (x : ℕ). Inside (length image) ends d x) (sym e) inside.1;
    few = let f = g.few in omega arith;
    size = g.size;
  }

  long : length own ≡ end - at
  long = between-long image at end within

  module _ (differ : at ≡ end → ⊥) where
    some : 1 ≤ length own
    some = let a = inside.0 in elim (dec_lt at end) [ yes h ↦ omega (arith, long) | no h ↦ absurd (differ (omega arith)) ]

    few-bytes : length own ≤ length image
    few-bytes = omega (arith, long, within)

    lost : (r : Refusal) → record_at own (room_said room) ≡ refused r → total ≡ refused r
    lost r e = sym chain ∙ go own some few-bytes e
      where
        go : (s : List ℕ) → 1 ≤ length s → length s ≤ length image → record_at s (room_said room) ≡ refused r → chain_left (length image) (s ∷ later) (room_said room) ≡ refused r
        go [] h k e = absurd (omega arith)
        go (b ∷ s) h k e = chain-lost (length image) b s later (room_said room) r k e

    module _ (h : Parted) (e : record_at own (room_said room) ≡ done (head_said h)) where
      parts : Apart own (room_said room) (head_said h)
      parts = holds_done (Apart own (room_said room)) (record_at own (room_said room)) (head_said h) (apart own (room_said room)) e

      pushed : chain_left (length image) (h.below.now ∷ h.behind.now ∷ later) (room_said h.room) ≡ total
      pushed = sym (go own some few-bytes e) ∙ chain
        where
          go : (s : List ℕ) → 1 ≤ length s → length s ≤ length image → record_at s (room_said room) ≡ done (head_said h)
              → chain_left (length image) (s ∷ later) (room_said room) ≡ chain_left (length image) (h.below.now ∷ h.behind.now ∷ later) (room_said h.room)
          go [] h k e = absurd (omega arith)
          go (b ∷ s) h1 k e = chain-push (length image) b s later (room_said room) (head_said h) k e

      behind-is : h.behind.now ≡ between image (at + parts.n) end
      behind-is = let w = parts.within in parts.is-behind ∙ between-rest image at end parts.n (omega (arith, long))

      below-is : h.below.now ≡ between image (at + parts.k) (at + parts.n)
      below-is = let w = parts.within in let i = parts.inside in parts.is-below ∙ between-part image at end parts.k parts.n i (omega (arith, long))

      ends-at : end - length h.behind.now ≡ at + parts.n
      ends-at =
          let w = parts.within in let a = inside.0 in
          omega (arith, ap length behind-is, between-long image (at + parts.n) end within, long)

      begins-at : end - length h.behind.now - length h.below.now ≡ at + parts.k
      begins-at =
          let w = parts.within in let i = parts.inside in let a = inside.0 in
          omega (arith, ends-at, ap length below-is, between-long image (at + parts.k) (at + parts.n) (omega (arith, long, within)))

      abbrev mark : ℕ
      mark = end - length h.behind.now

      abbrev next : ℕ
      next = mark - length h.below.now

      push : suc d < length ends → Goes image total (set ends (suc d) mark) (suc (suc d)) next h.room
      unfolding stretches Inside
      push room-there =
          let i = parts.inside in let w = parts.within in let a = inside.0 in let f = g.few in let x = parts.fewer in
          let here : get_or (set ends (suc d) mark) (suc d) 0 ≡ mark = get_or-set_same ends (suc d) mark 0 room-there in
          record {
            same =
                ap (λ (ss : List (List ℕ)). chain_left (length image) ss (room_said h.room))
                (rw here (λ j. below-part j ∷ behind-part j))
                ∙ pushed;
            inside = rw here ((omega (arith, begins-at, ends-at), inside_same ends (suc d) mark (length image) (suc d) mark (omega arith) ((omega (arith, ends-at, long), inside.1))));
            few = omega arith;
            size = length-set ends (suc d) mark ∙ g.size;
          }
        where
          below-part : between image next mark ≡ h.below.now
          below-part = (λ j. between image (begins-at j) (ends-at j)) ∙ sym below-is

          behind-part : stretches image (set ends (suc d) mark) (suc d) mark ≡ h.behind.now ∷ later
          behind-part =
              stretches_same ends (suc d) mark image (suc d) mark (omega arith)
              ∙ stretch-first image ends d mark
              ∙ (λ j. (ap (λ (x : ℕ). between image x end) ends-at ∙ sym behind-is) j ∷ later)

-- ---- the same in the code's terms

module _ (image : List ℕ) (total : Out Room) (ends : List ℕ) (deep at : ℕ) (room : Left) (g : Goes image total ends deep at room) (some-open : 0 < deep) where
  one-more : deep ≡ suc (deep - 1)
  one-more = omega arith

  goes : Goes image total ends (suc (deep - 1)) at room
  goes = subst (λ (n : ℕ). Goes image total ends n at room) one-more g

  pub scan-pop : at ≡ get_or ends (deep - 1) 0 → Goes image total ends (deep - 1) at room
  scan-pop e = pop image total ends (deep - 1) at room goes e

  pub scan-inside : (at ≤ get_or ends (deep - 1) 0) × (get_or ends (deep - 1) 0 ≤ length image)
  scan-inside = ((inside image total ends (deep - 1) at room goes).0, within image total ends (deep - 1) at room goes)

  module _ (differ : at ≡ get_or ends (deep - 1) 0 → ⊥) where
    pub scan-lost : (r : Refusal) → record_at (between image at (get_or ends (deep - 1) 0)) (room_said room) ≡ refused r → total ≡ refused r
    scan-lost r e = lost image total ends (deep - 1) at room goes differ r e

    module _ (h : Parted) (e : record_at (between image at (get_or ends (deep - 1) 0)) (room_said room) ≡ done (head_said h)) where
      pub scan-few : (deep < 1024) × (length h.behind.now ≤ get_or ends (deep - 1) 0) × (length h.below.now ≤ get_or ends (deep - 1) 0 - length h.behind.now)
      scan-few =
          let p = parts image total ends (deep - 1) at room goes differ h e in
          let f = g.few in let x = p.fewer in
          let b = begins-at image total ends (deep - 1) at room goes differ h e in
          let n = ends-at image total ends (deep - 1) at room goes differ h e in
          let l = p.long in let i = p.inside in
          (omega arith, omega arith, omega arith)

      pub scan-push : Goes image total (set ends deep (get_or ends (deep - 1) 0 - length h.behind.now)) (deep + 1) (get_or ends (deep - 1) 0 - length h.behind.now - length h.below.now) h.room
      scan-push = subst (λ (n : ℕ). Goes image total (set ends n (get_or ends (deep - 1) 0 - length h.behind.now)) (deep + 1) (get_or ends (deep - 1) 0 - length h.behind.now - length h.below.now) h.room) (sym one-more)
          (subst (λ (n : ℕ). Goes image total (set ends (suc (deep - 1)) (get_or ends (deep - 1) 0 - length h.behind.now)) n (get_or ends (deep - 1) 0 - length h.behind.now - length h.below.now) h.room) two-more
          (push image total ends (deep - 1) at room goes differ h e (let f = scan-few.0 in let z = g.size in omega arith)))
        where
          two-more : suc (suc (deep - 1)) ≡ deep + 1
          two-more = omega arith

      pub scan-on : at + 17 ≤ get_or ends (deep - 1) 0 - length h.behind.now - length h.below.now
      scan-on =
          let p = parts image total ends (deep - 1) at room goes differ h e in
          let b = begins-at image total ends (deep - 1) at room goes differ h e in
          let l = p.long in omega arith

pub ruleset scanning = (scan-start, scan-done, scan-pop, scan-inside, scan-lost, scan-few, scan-push, scan-on)
