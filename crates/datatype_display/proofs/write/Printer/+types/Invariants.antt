use Rattle.std.proofs.Common.{◌+◌, ◌*◌}
use lib.Dec.{eqb}
use Rattle.datatype.specs.Kind.{struct, union}
use Rattle.display_length.specs.Display.{union_text}
use Rattle.datatype_display.specs.Internal.Steps.{shape_in}
use Rattle.datatype_display.proofs.Texts.{struct_rest, Fields}
use Rattle.datatype_display.proofs.write.Printer.+types.Given as goal

-- The level falls from a type to those below it; at one level a type with types below it calls fields, they a nullable
-- type, and that a type.
abbrev pub decreases-put_dictionary : goal.decreases-put_dictionary
decreases-put_dictionary l = 6 * l.level + 5

abbrev pub decreases-put_field : goal.decreases-put_field
decreases-put_field l = 6 * l.level + 2

abbrev pub decreases-put_fixed_size_list : goal.decreases-put_fixed_size_list
decreases-put_fixed_size_list l = 6 * l.level + 5

abbrev pub decreases-put_list : goal.decreases-put_list
decreases-put_list l = 6 * l.level + 5

abbrev pub decreases-put_list_field : goal.decreases-put_list_field
decreases-put_list_field l = 6 * l.level + 3

abbrev pub decreases-put_map : goal.decreases-put_map
decreases-put_map l = 6 * l.level + 5

abbrev pub decreases-put_nested : goal.decreases-put_nested
decreases-put_nested l = 6 * l.level

abbrev pub decreases-put_nullable : goal.decreases-put_nullable
decreases-put_nullable l = 6 * l.level + 2

abbrev pub decreases-put_run_end_encoded : goal.decreases-put_run_end_encoded
decreases-put_run_end_encoded l = 6 * l.level + 5

abbrev pub decreases-put_struct : goal.decreases-put_struct
decreases-put_struct l = 6 * l.level + 5

abbrev pub decreases-put_type : goal.decreases-put_type
decreases-put_type l = 6 * l.level + 1

abbrev pub decreases-put_union : goal.decreases-put_union
decreases-put_union l = 6 * l.level + 5

abbrev pub decreases-put_union_field : goal.decreases-put_union_field
decreases-put_union_field l = 6 * l.level + 4

abbrev pub invariant-put_struct-loop-node : goal.invariant-put_struct-loop-node
invariant-put_struct-loop-node l = Fields l.printed l.level l.fn.self (shape_in struct l.printed) (struct_rest (eqb l.node-iterator.start (l.printed.at + 1))) l.node-iterator l.self

abbrev pub invariant-put_union-loop-node : goal.invariant-put_union-loop-node
invariant-put_union-loop-node l = Fields l.printed l.level l.fn.self (shape_in union l.printed) union_text l.node-iterator l.self
