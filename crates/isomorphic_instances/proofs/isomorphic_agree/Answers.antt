use Rattle.isomorphic_instances.proofs.Agreement.{isomorphic_agree}
use Rattle.isomorphic_instances.proofs.isomorphic_agree.Goals as goal

pub returns : goal.returns
returns c = isomorphic_agree
