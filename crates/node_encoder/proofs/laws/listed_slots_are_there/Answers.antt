use Rattle.node_encoder.proofs.Counting.{listed_there}
use Rattle.node_encoder.proofs.laws.listed_slots_are_there.Goals as goal

pub returns : goal.returns
returns c = listed_there
