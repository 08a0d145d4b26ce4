use Rattle.node_encoder.proofs.Counting.{few_members}
use Rattle.node_encoder.proofs.laws.listed_sets_are_few.Goals as goal

pub returns : goal.returns
returns c = few_members
