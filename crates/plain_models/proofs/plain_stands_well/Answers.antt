use Rattle.plain_models.proofs.Standing.{stands_well}
use Rattle.plain_models.proofs.plain_stands_well.Goals as goal

pub returns : goal.returns
returns c = stands_well
