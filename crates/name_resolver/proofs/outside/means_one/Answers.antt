use Rattle.name_resolver.proofs.MeansOnce.{means_one}
use Rattle.name_resolver.proofs.outside.means_one.Goals as goal

pub returns : goal.returns
returns c = means_one
