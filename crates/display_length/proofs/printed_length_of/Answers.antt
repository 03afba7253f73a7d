-- The law of the length takes the root as it is printed, which the goal does not show.
use mathlib.Core.Path.{◌∙◌}
use Rattle.tokenizer.proofs.Basics.{is_true}
use Rattle.display_length.proofs.PrintedLaws.{printed-length}
use Rattle.display_length.proofs.TreeLaws.{tree-length}
use Rattle.display_length.proofs.printed_length_of.Goals as goal

pub returns : goal.returns
returns c =
    printed-length _ _ _ _ (is_true _ c.args.whole.now.sound) _ c.is_latin_tree.ensures c.if-not-is_latin_tree.false _ (c.type_length.ensures.value ∙ tree-length _ c.root.ensures.at _ c.root.ensures.of)
