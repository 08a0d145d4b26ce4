use Rattle.clf_tree.proofs.KindsHold.{kinds_hold}
use Rattle.clf_tree.proofs.bounds.kinds_hold.Goals as goal

pub returns : goal.returns
returns c = kinds_hold
