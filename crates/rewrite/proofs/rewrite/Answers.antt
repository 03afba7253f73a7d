use Rattle.rewrite.proofs.Rewrites.{not-read-answer, not-read-bytes, not-read-again, words_read, rows_lent_fit, rows_taken, tree-sound, rewrites-answer, rewrites-bytes, rewrites-again}
use Rattle.rewrite.proofs.rewrite.Goals as goal

pub returns-in-Err-clause-answer : goal.returns-in-Err-clause-answer
returns-in-Err-clause-answer c = let e = c.parse_data_type.ensures in not-read-answer _ _ _ _ e.answer e.contents _ c.in-Err.is _ _ _

pub returns-in-Err-clause-bytes : goal.returns-in-Err-clause-bytes
returns-in-Err-clause-bytes c = let e = c.parse_data_type.ensures in not-read-bytes _ _ _ _ e.answer e.contents _ c.in-Err.is _ _ _

pub returns-in-Err-clause-again : goal.returns-in-Err-clause-again
returns-in-Err-clause-again c = let e = c.parse_data_type.ensures in not-read-again _ _ _ _ e.answer e.contents _ c.in-Err.is _ _ _

pub overflow_mul-tree : goal.overflow_mul-tree
overflow_mul-tree c = let e = c.parse_data_type.ensures in words_read _ _ _ _ e.answer e.contents _ c.in-Ok.is

pub slice_bounds-tree-end-2 : goal.slice_bounds-tree-end-2
slice_bounds-tree-end-2 c = let e = c.parse_data_type.ensures in rows_lent_fit _ _ _ _ e.answer e.contents _ c.in-Ok.is c.parse_data_type.auto.rows

pub slice_bounds-tree-end-3 : goal.slice_bounds-tree-end-3
slice_bounds-tree-end-3 c = let e = c.parse_data_type.ensures in rows_taken _ _ _ _ e.answer e.contents _ c.in-Ok.is c.parse_data_type.auto.rows

pub invariant_of-print_again : goal.invariant_of-print_again
invariant_of-print_again c = let e = c.parse_data_type.ensures in record { sound = tree-sound _ _ _ _ e.answer e.contents _ c.in-Ok.is }

pub returns-clause-answer : goal.returns-clause-answer
returns-clause-answer c = let e = c.parse_data_type.ensures in rewrites-answer _ _ _ _ e.answer e.contents _ c.in-Ok.is _ _ _ _ c.print_again.ensures.answer

pub returns-clause-bytes : goal.returns-clause-bytes
returns-clause-bytes c = let e = c.parse_data_type.ensures in rewrites-bytes _ _ _ _ e.answer e.contents _ c.in-Ok.is _ _ _ _ c.print_again.ensures.bytes

pub returns-clause-again : goal.returns-clause-again
returns-clause-again c = let e = c.parse_data_type.ensures in rewrites-again _ _ _ _ e.answer e.contents _ c.in-Ok.is _ _ _ _ c.print_again.ensures.contents
