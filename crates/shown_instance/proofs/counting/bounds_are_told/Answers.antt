use Rattle.shown_instance.proofs.Bounding.{bounds_told}
use Rattle.shown_instance.proofs.counting.bounds_are_told.Goals as goal

pub returns : goal.returns
returns c = bounds_told
