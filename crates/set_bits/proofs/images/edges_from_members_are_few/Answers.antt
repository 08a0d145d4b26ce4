use Rattle.set_bits.proofs.Distinct.{leading_few}
use Rattle.set_bits.proofs.images.edges_from_members_are_few.Goals as goal

pub returns : goal.returns
returns c = leading_few
