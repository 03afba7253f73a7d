-- Found by a search for one law each, and not by the rules of the function.
use Rattle.display_length.proofs.LatinLaws.{names-no, names-rest}
use Rattle.display_length.proofs.latin.names_latin.Goals as goal

pub returns-then-not-is_latin : goal.returns-then-not-is_latin
returns-then-not-is_latin c = search (names-no)

pub loop-node-preserved : goal.loop-node-preserved
loop-node-preserved c = search (names-rest)
