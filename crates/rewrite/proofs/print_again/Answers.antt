use Rattle.rewrite.proofs.Rewrites.{bytes_fit, bytes_counted, words_counted, rows_fit, rows_counted, not-printed-answer, not-printed-bytes, not-read-back-answer, not-read-back-bytes}
use Rattle.rewrite.proofs.print_again.Goals as goal

pub slice_bounds-again-end : goal.slice_bounds-again-end
slice_bounds-again-end c = let e = c.print_and_read_sound_tree.ensures in bytes_fit _ _ _ _ _ _ _ _ _ e.answer e.bytes e.contents _ c.in-Ok.is

pub slice_bounds-again-end-in-Ok : goal.slice_bounds-again-end-in-Ok
slice_bounds-again-end-in-Ok c = let e = c.print_and_read_sound_tree.ensures in bytes_counted _ _ _ _ _ _ _ _ _ e.answer e.bytes e.contents _ c.in-Ok.is

pub overflow_mul-again : goal.overflow_mul-again
overflow_mul-again c = let e = c.print_and_read_sound_tree.ensures in words_counted _ _ _ _ _ _ _ _ _ e.answer e.bytes e.contents _ c.in-Ok.is

pub slice_bounds-again-end-in-Ok-2 : goal.slice_bounds-again-end-in-Ok-2
slice_bounds-again-end-in-Ok-2 c = let e = c.print_and_read_sound_tree.ensures in rows_fit _ _ _ _ _ _ _ _ _ e.answer e.bytes e.contents _ c.in-Ok.is c.print_and_read_sound_tree.auto.back

pub slice_bounds-again-end-in-Ok-3 : goal.slice_bounds-again-end-in-Ok-3
slice_bounds-again-end-in-Ok-3 c = let e = c.print_and_read_sound_tree.ensures in rows_counted _ _ _ _ _ _ _ _ _ e.answer e.bytes e.contents _ c.in-Ok.is c.print_and_read_sound_tree.auto.back

pub returns-in-Err-NotPrinted-clause-answer : goal.returns-in-Err-NotPrinted-clause-answer
returns-in-Err-NotPrinted-clause-answer c = let e = c.print_and_read_sound_tree.ensures in not-printed-answer _ _ _ _ _ _ _ _ _ e.answer e.bytes e.contents _ c.in-Err-NotPrinted.is _ c.in-Err-NotPrinted.field-0-is

pub returns-in-Err-NotPrinted-clause-bytes : goal.returns-in-Err-NotPrinted-clause-bytes
returns-in-Err-NotPrinted-clause-bytes c = let e = c.print_and_read_sound_tree.ensures in not-printed-bytes _ _ _ _ _ _ _ _ _ e.answer e.bytes e.contents _ c.in-Err-NotPrinted.is _ c.in-Err-NotPrinted.field-0-is

pub returns-in-Err-NotRead-clause-answer : goal.returns-in-Err-NotRead-clause-answer
returns-in-Err-NotRead-clause-answer c = let e = c.print_and_read_sound_tree.ensures in not-read-back-answer _ _ _ _ _ _ _ _ _ e.answer e.bytes e.contents _ c.in-Err-NotRead.is _ c.in-Err-NotRead.field-0-is

pub returns-in-Err-NotRead-clause-bytes : goal.returns-in-Err-NotRead-clause-bytes
returns-in-Err-NotRead-clause-bytes c = let e = c.print_and_read_sound_tree.ensures in not-read-back-bytes _ _ _ _ _ _ _ _ _ e.answer e.bytes e.contents _ c.in-Err-NotRead.is _ c.in-Err-NotRead.field-0-is _ c.clear.ensures
