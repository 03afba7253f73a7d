-- The last arm of the match knows a sum of three branches, and the bodies of the loops more than a search enters.
use native.Mathlib.Omega.{arith}
use mathlib.Core.Path.{refl, ◌∙◌}
use Rattle.std.proofs.lemmas.Bool.Decides.{nat_tests}
use Rattle.datatype.proofs.KindShapes.{shape_by}
use Rattle.parser.proofs.Types.{type-leaf, struct-2, struct-3, union-at-3, union-at-4, union-at-5, union-at-6}
use Rattle.parser.proofs.Readers.{meets-lost, meets-refused}
use Rattle.parser.proofs.Matched.{got_next, got_look, lost_look, got-tree, lost-tree, lost-fields}
use Rattle.parser.proofs.FieldLaws.{run-ends-long, run-ends-short}
use Rattle.parser.proofs.Parents.{list-2, fixed-list-3, fixed-list-6, dictionary-2, dictionary-4, map-2, run-end-2}
use borrow.Author.Rules.{rules}
use Rattle.parser.proofs.Parser.+types.Goals as goal

pub parse_next_type-returns-in_default-kind : goal.parse_next_type-returns-in_default-kind
parse_next_type-returns-in_default-kind t c =
    type-leaf _ _ _ c.if-level-eq0.false _ _ _ c.in-Some.ensures.cases _ c.in_ok-word.ensures (shape_by _ ∙ grind (arith, nat_tests)) _ _ c.put_row.ensures

pub parse_struct-returns-in-Some : goal.parse_struct-returns-in-Some
parse_struct-returns-in-Some t c = struct-3 _ _ _ _ _ _ _ _ c.loop-end.invariant _ c.in-Some.ensures _ _ _ (omega arith) c.put_row.ensures

pub parse_union-returns-then-not-try_new : goal.parse_union-returns-then-not-try_new
parse_union-returns-then-not-try_new t c = meets-refused _ _ _ _ (union-at-5 _ _ _ _ _ _ _ _ _ c.loop-end.invariant _ c.in-Some.ensures _ c.try_new.ensures (search rules) _ c.mark_before.ensures)

pub parse_union-returns-in-Some : goal.parse_union-returns-in-Some
parse_union-returns-in-Some t c = union-at-6 _ _ _ _ _ _ _ _ _ c.loop-end.invariant _ c.in-Some.ensures _ c.try_new.ensures (search rules) _ _ _ (omega arith) c.put_row.ensures

pub parse_union-returns-in_err-comma : goal.parse_union-returns-in_err-comma
parse_union-returns-in_err-comma t c = meets-lost _ _ _ _ _ c.from_residual-in_err-comma.ensures.1 (union-at-3 _ _ _ _ _ _ _ _ _ c.loop-end.invariant c.in_default.ensures _ c.in_err-comma.ensures)

pub parse_union-returns-in_err-field : goal.parse_union-returns-in_err-field
parse_union-returns-in_err-field t c = meets-lost _ _ _ _ _ c.from_residual-in_err-field.ensures.1 (union-at-4 _ _ _ _ _ _ _ _ _ c.loop-end.invariant c.in_default.ensures _ c.in_ok-comma.ensures _ (lost-tree _ _ _ _ c.in_err-field.ensures))

-- where a type below is refused, the search does not compare the refusals
pub parse_list-returns-in_err-field : goal.parse_list-returns-in_err-field
parse_list-returns-in_err-field t c = let p = got_next _ _ c.in_ok-open.ensures in meets-lost _ _ _ _ _ c.from_residual-in_err-field.ensures.1 (list-2 _ _ _ _ _ p.0 _ p.1 _ (lost-tree _ _ _ _ c.in_err-field.ensures))

pub parse_map-returns-in_err-entries : goal.parse_map-returns-in_err-entries
parse_map-returns-in_err-entries t c = let p = got_next _ _ c.in_ok-open.ensures in meets-lost _ _ _ _ _ c.from_residual-in_err-entries.ensures.1 (map-2 _ _ _ _ _ p.0 _ p.1 _ (lost-tree _ _ _ _ c.in_err-entries.ensures))

pub parse_dictionary-returns-in_err-key : goal.parse_dictionary-returns-in_err-key
parse_dictionary-returns-in_err-key t c = let p = got_next _ _ c.in_ok-open.ensures in meets-lost _ _ _ _ _ c.from_residual-in_err-key.ensures.1 (dictionary-2 _ _ _ _ _ p.0 _ p.1 _ (lost-tree _ _ _ _ c.in_err-key.ensures))

pub parse_dictionary-returns-in_err-value : goal.parse_dictionary-returns-in_err-value
parse_dictionary-returns-in_err-value t c =
    let p = got_next _ _ c.in_ok-open.ensures in
    let q = got_next _ _ c.in_ok-comma.ensures in
    meets-lost _ _ _ _ _ c.from_residual-in_err-value.ensures.1
    (dictionary-4 _ _ _ _ _ p.0 _ p.1 _ _ _ _ (got-tree _ _ _ _ c.in_ok-key.ensures) q.0 _ q.1 refl _ (lost-tree _ _ _ _ c.in_err-value.ensures))

pub parse_fixed_size_list-returns-in_err-field : goal.parse_fixed_size_list-returns-in_err-field
parse_fixed_size_list-returns-in_err-field t c =
    let p = got_next _ _ c.in_ok-open.ensures in
    let x = got_look _ _ c.in-Some.ensures in
    meets-lost _ _ _ _ _ c.from_residual-in_err-field.ensures.1 (fixed-list-3 _ _ _ _ _ p.0 _ p.1 _ c.in_ok-length.ensures x.0 _ x.1 _ (lost-tree _ _ _ _ c.in_err-field.ensures))

pub parse_fixed_size_list-returns-in_err-item : goal.parse_fixed_size_list-returns-in_err-item
parse_fixed_size_list-returns-in_err-item t c =
    let p = got_next _ _ c.in_ok-open.ensures in
    let x = lost_look _ c.in_default.ensures in
    let q = got_next _ _ c.in_ok-comma.ensures in
    meets-lost _ _ _ _ _ c.from_residual-in_err-item.ensures.1 (fixed-list-6 _ _ _ _ _ p.0 _ p.1 _ c.in_ok-length.ensures x.0 x.1 q.0 _ q.1 _ (lost-tree _ _ _ _ c.in_err-item.ensures))

pub parse_run_end_encoded-returns-in_err-fields : goal.parse_run_end_encoded-returns-in_err-fields
parse_run_end_encoded-returns-in_err-fields t c =
    let p = got_next _ _ c.in_ok-open.ensures in
    meets-lost _ _ _ _ _ c.from_residual-in_err-fields.ensures.1
    (run-end-2 _ _ _ _ _ p.0 _ p.1 _ (lost-fields _ _ _ _ (run-ends-long _ _ _ _ _ _ _ (search rules) c.in_err-fields.ensures)))

pub parse_run_end_encoded-returns-in_err-fields-2 : goal.parse_run_end_encoded-returns-in_err-fields-2
parse_run_end_encoded-returns-in_err-fields-2 t c =
    let p = got_next _ _ c.in_ok-open.ensures in
    meets-lost _ _ _ _ _ c.from_residual-in_err-fields-2.ensures.1
    (run-end-2 _ _ _ _ _ p.0 _ p.1 _ (lost-fields _ _ _ _ (run-ends-short _ _ _ _ _ _ _ (search rules) c.in_err-fields-2.ensures)))

pub parse_struct-returns-in_err-field : goal.parse_struct-returns-in_err-field
parse_struct-returns-in_err-field t c =
    let x = lost_look _ c.in_default.ensures in
    meets-lost _ _ _ _ _ c.from_residual-in_err-field.ensures.1 (struct-2 _ _ _ _ _ _ _ _ c.loop-end.invariant x.0 x.1 _ (lost-tree _ _ _ _ c.in_err-field.ensures))
