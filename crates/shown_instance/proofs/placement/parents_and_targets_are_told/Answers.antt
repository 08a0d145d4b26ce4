use Rattle.shown_instance.proofs.Placing.{parents_told, targets_told}
use Rattle.shown_instance.proofs.placement.parents_and_targets_are_told.Goals as goal

pub returns : goal.returns
returns c = record { parents = parents_told; targets = targets_told }
