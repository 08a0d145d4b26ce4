use Rattle.model_resolver.proofs.LooksUp.{leaves_nothing}
use Rattle.model_resolver.proofs.law.leaves_nothing.Goals as goal

pub returns : goal.returns
returns c = leaves_nothing c.means_one.ensures c.means_there.ensures
