use Rattle.plain_models.proofs.Keeping.{known}
use Rattle.plain_models.proofs.plain_is_known.Goals as goal

pub returns : goal.returns
returns c = known
