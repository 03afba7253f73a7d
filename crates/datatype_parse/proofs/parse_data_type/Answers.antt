-- The rows between the two calls are fixed by what the first ensures alone; seven forms of a law were not found.
use Rattle.std.proofs.Common.{rules}
use Rattle.datatype_parse.proofs.Whole.{read_rows}
use Rattle.datatype_parse.proofs.parse_data_type.Goals as goal

pub returns-then-text_over-clause-contents : goal.returns-then-text_over-clause-contents
returns-then-text_over-clause-contents c = read_rows _ _ _ c.in_ok-read.ensures.answer _ _ c.in_ok-read.ensures.contents c.set_first_parents.ensures (search rules)
