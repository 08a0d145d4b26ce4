use Rattle.canonical_instances.proofs.Tested.{tested}
use Rattle.canonical_instances.proofs.canonical_is_tested.Goals as goal

pub returns : goal.returns
returns c = tested
