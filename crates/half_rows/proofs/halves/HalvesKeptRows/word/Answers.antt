use Rattle.std.proofs.Common.{arith}
use Rattle.half_rows.proofs.HalfLaws.{place}
use Rattle.half_rows.proofs.halves.HalvesKeptRows.word.Goals as goal

pub overflow_mul-at : goal.overflow_mul-at
overflow_mul-at c = let p = place _ _ _ c.requires.there c.requires.word in grind arith

pub overflow_add-at : goal.overflow_add-at
overflow_add-at c = let p = place _ _ _ c.requires.there c.requires.word in grind arith

pub offset_bounds-halves-at : goal.offset_bounds-halves-at
offset_bounds-halves-at c = let p = place _ _ _ c.requires.there c.requires.word in grind arith

pub bounds-halves-at : goal.bounds-halves-at
bounds-halves-at c = let p = place _ _ _ c.requires.there c.requires.word in omega arith

pub offset_bounds-halves-at-then-k-eq-NUMBER : goal.offset_bounds-halves-at-then-k-eq-NUMBER
offset_bounds-halves-at-then-k-eq-NUMBER c = let p = place _ _ _ c.requires.there c.requires.word in grind arith

pub bounds-halves-at-then-k-eq-NUMBER : goal.bounds-halves-at-then-k-eq-NUMBER
bounds-halves-at-then-k-eq-NUMBER c = let p = place _ _ _ c.requires.there c.requires.word in omega arith

pub overflow_add-at-then-k-eq-NUMBER : goal.overflow_add-at-then-k-eq-NUMBER
overflow_add-at-then-k-eq-NUMBER c = let p = place _ _ _ c.requires.there c.requires.word in grind arith

pub offset_bounds-halves-at-then-k-eq-NUMBER-2 : goal.offset_bounds-halves-at-then-k-eq-NUMBER-2
offset_bounds-halves-at-then-k-eq-NUMBER-2 c = let p = place _ _ _ c.requires.there c.requires.word in grind arith

pub bounds-halves-at-then-k-eq-NUMBER-2 : goal.bounds-halves-at-then-k-eq-NUMBER-2
bounds-halves-at-then-k-eq-NUMBER-2 c = let p = place _ _ _ c.requires.there c.requires.word in omega arith

pub overflow_add-at-2 : goal.overflow_add-at-2
overflow_add-at-2 c = let p = place _ _ _ c.requires.there c.requires.word in grind arith

pub offset_bounds-halves-at-2 : goal.offset_bounds-halves-at-2
offset_bounds-halves-at-2 c = let p = place _ _ _ c.requires.there c.requires.word in grind arith

pub bounds-halves-at-2 : goal.bounds-halves-at-2
bounds-halves-at-2 c = let p = place _ _ _ c.requires.there c.requires.word in omega arith
