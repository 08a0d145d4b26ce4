use Rattle.shape_encoder.proofs.Costs.{sets_few}
use Rattle.shape_encoder.proofs.sets.sets_take_few_wires.Goals as goal

pub returns : goal.returns
returns c = sets_few
