use Rattle.shown_instance.proofs.Trees.{tree_told}
use Rattle.shown_instance.proofs.placement.trees_are_told.Goals as goal

pub returns : goal.returns
returns c = tree_told
