-- The law takes the row's label, which the goal does not show as one.
use mathlib.Core.Path.{◌∙◌}
use Rattle.datatype.specs.Label.{label_said}
use Rattle.packing.proofs.PackerLaws.{row_room}
use Rattle.packing.proofs.packer.Packer.row_fits.Goals as goal

pub returns : goal.returns
returns c = c.fits.ensures ∙ row_room _ (label_said c.args.label) _ _ _ c.saturating_add.ensures c.saturating_add-name.ensures c.saturating_add-2.ensures
