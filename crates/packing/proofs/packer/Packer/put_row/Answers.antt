-- The laws take the row's label, which the goals do not show as one.
use mathlib.Core.Path.{sym, ap, ◌∙◌}
use Rattle.datatype.specs.Label.{label_said}
use Rattle.packing.specs.Packer.{with_words}
use Rattle.packing.proofs.PackerLaws.{no_room, row_room_lem, name_room, zone_room, row_put}
use Rattle.packing.proofs.packer.Packer.put_row.Goals as goal

pub returns-then-not-row_fits-clause-packed : goal.returns-then-not-row_fits-clause-packed
returns-then-not-row_fits-clause-packed c = no_room _ _ _ (sym c.row_fits.ensures ∙ c.if-not-row_fits.true)

pub packed_words-words-requires : goal.packed_words-words-requires
packed_words-words-requires c = (row_room_lem _ _ (sym c.row_fits.ensures ∙ c.if-not-row_fits.false)).short

pub put_words-requires : goal.put_words-requires
put_words-requires c = (row_room_lem _ _ (sym c.row_fits.ensures ∙ c.if-not-row_fits.false)).rows

pub put_bytes-requires : goal.put_bytes-requires
put_bytes-requires c = name_room _ (label_said c.args.label) _ (sym c.row_fits.ensures ∙ c.if-not-row_fits.false) _ (c.put_words.ensures ∙ ap (with_words _ 1) c.packed_words-words.ensures)

pub put_bytes-requires-2 : goal.put_bytes-requires-2
put_bytes-requires-2 c = zone_room _ (label_said c.args.label) _ (sym c.row_fits.ensures ∙ c.if-not-row_fits.false) _ (c.put_words.ensures ∙ ap (with_words _ 1) c.packed_words-words.ensures) _ c.put_bytes.ensures

pub returns-clause-packed : goal.returns-clause-packed
returns-clause-packed c = row_put _ (label_said c.args.label) _ (sym c.row_fits.ensures ∙ c.if-not-row_fits.false) _ (c.put_words.ensures ∙ ap (with_words _ 1) c.packed_words-words.ensures) _ c.put_bytes.ensures _ c.put_bytes-2.ensures
