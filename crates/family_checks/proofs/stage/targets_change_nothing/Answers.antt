use Rattle.family_checks.proofs.Unchanged.{inherits_well, is_family}
use Rattle.family_checks.proofs.stage.targets_change_nothing.Goals as goal

pub returns-clause-inherits : goal.returns-clause-inherits
returns-clause-inherits c = inherits_well

pub returns-clause-family : goal.returns-clause-family
returns-clause-family c = is_family
