-- In a loop over nodes the laws take what the iterator gave, which the check does not hand them.
use native.Mathlib.Omega.{arith}
use Rattle.display_length.proofs.LatinLaws.{quoted_first}
use Rattle.row_table.proofs.NodeLaws.{levels_left, level-some, level-below}
use Rattle.display_length.proofs.latin.+quoted_latin.Goals as goal

pub returns-then-not-row_latin : goal.returns-then-not-row_latin
returns-then-not-row_latin t c = grind (arith, quoted_first _ _ _ c.in-Some.ensures.steps)

pub loop-node-preserved : goal.loop-node-preserved
loop-node-preserved t c =
    record {
      flat = omega (arith, levels_left _ _ _ c.in-Some.ensures.steps);
      so = grind (arith, quoted_first _ _ _ c.in-Some.ensures.steps);
    }

pub overflow_sub-level : goal.overflow_sub-level
overflow_sub-level t c = search (level-some)

pub quoted_latin-requires : goal.quoted_latin-requires
quoted_latin-requires t c = (let s = level-some _ _ _ c.next.ensures.steps _ c.in-Some.is _ c.loop-node.invariant.flat in omega arith, search (level-below))
