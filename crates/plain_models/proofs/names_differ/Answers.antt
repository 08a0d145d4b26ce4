use Rattle.plain_models.proofs.Standing.{names_apart}
use Rattle.plain_models.proofs.names_differ.Goals as goal

pub returns : goal.returns
returns c = names_apart
