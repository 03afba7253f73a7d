use Prim.Native.Nat.{◌+◌, ◌-◌, ◌*◌}
use Rattle.parser.proofs.Types.{StructLoop, UnionLoop}
use Rattle.parser.specs.Parse.{type_at}
use Rattle.parser.specs.Internal.Steps.{rows_left}
use Rattle.parser.proofs.Parser.+types.Given as goal

-- the level falls with each type; within one, a reader calls only those of a lower number
abbrev pub decreases-parse_dictionary : goal.decreases-parse_dictionary
decreases-parse_dictionary l = 4 * l.level + 1

abbrev pub decreases-parse_field : goal.decreases-parse_field
decreases-parse_field l = 4 * l.level + 1

abbrev pub decreases-parse_fixed_size_list : goal.decreases-parse_fixed_size_list
decreases-parse_fixed_size_list l = 4 * l.level + 2

abbrev pub decreases-parse_list : goal.decreases-parse_list
decreases-parse_list l = 4 * l.level + 2

abbrev pub decreases-parse_list_field : goal.decreases-parse_list_field
decreases-parse_list_field l = 4 * l.level + 1

abbrev pub decreases-parse_map : goal.decreases-parse_map
decreases-parse_map l = 4 * l.level + 2

abbrev pub decreases-parse_next_type : goal.decreases-parse_next_type
decreases-parse_next_type l = 4 * l.level

abbrev pub decreases-parse_run_end_encoded : goal.decreases-parse_run_end_encoded
decreases-parse_run_end_encoded l = 4 * l.level + 3

abbrev pub decreases-parse_struct : goal.decreases-parse_struct
decreases-parse_struct l = 4 * l.level + 2

abbrev pub decreases-parse_union : goal.decreases-parse_union
decreases-parse_union l = 4 * l.level + 3

abbrev pub decreases-parse_union_field : goal.decreases-parse_union_field
decreases-parse_union_field l = 4 * l.level + 2

abbrev pub decreases-ree_fields : goal.decreases-ree_fields
decreases-ree_fields l = 4 * l.level + 2

abbrev pub decreases-ree_types : goal.decreases-ree_types
decreases-ree_types l = 4 * l.level + 1

abbrev pub invariant-parse_struct-loop-end : goal.invariant-parse_struct-loop-end
invariant-parse_struct-loop-end l = StructLoop l.self.text.now (type_at l.self.text.now l.level) l.kind l.at l.initial.below l.below l.next l.used

abbrev pub decreases-parse_struct-loop-end : goal.decreases-parse_struct-loop-end
decreases-parse_struct-loop-end l = rows_left l.initial.below - l.used

abbrev pub invariant-parse_union-loop-end : goal.invariant-parse_union-loop-end
invariant-parse_union-loop-end l = UnionLoop l.self.text.now (type_at l.self.text.now l.level) l.kind l.head.number l.at l.initial.below l.below l.next l.used

abbrev pub decreases-parse_union-loop-end : goal.decreases-parse_union-loop-end
decreases-parse_union-loop-end l = rows_left l.initial.below - l.used
