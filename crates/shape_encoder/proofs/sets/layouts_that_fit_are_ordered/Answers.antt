use Rattle.shape_encoder.proofs.Ordering.{fitting_ordered}
use Rattle.shape_encoder.proofs.sets.layouts_that_fit_are_ordered.Goals as goal

pub returns : goal.returns
returns c = fitting_ordered
