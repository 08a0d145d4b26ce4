use Rattle.name_resolver.proofs.MeansThere.{means_there}
use Rattle.name_resolver.proofs.outside.means_there.Goals as goal

pub returns : goal.returns
returns c = means_there
