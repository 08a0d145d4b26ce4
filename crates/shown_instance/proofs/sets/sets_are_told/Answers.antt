use Rattle.shown_instance.proofs.Differing.{sets_told}
use Rattle.shown_instance.proofs.sets.sets_are_told.Goals as goal

pub returns : goal.returns
returns c = sets_told
