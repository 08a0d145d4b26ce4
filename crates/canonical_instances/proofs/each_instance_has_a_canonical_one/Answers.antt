use Rattle.canonical_instances.proofs.Law.{canonical_one, satisfying_one, renumbered}
use Rattle.canonical_instances.proofs.Renumbered.{renumbers}
use Rattle.canonical_instances.proofs.each_instance_has_a_canonical_one.Goals as goal

pub returns-clause-trees : goal.returns-clause-trees
returns-clause-trees c = canonical_one

pub returns-clause-satisfying : goal.returns-clause-satisfying
returns-clause-satisfying c = satisfying_one

pub returns-clause-renaming : goal.returns-clause-renaming
returns-clause-renaming c = renumbers

pub returns-clause-renumbered : goal.returns-clause-renumbered
returns-clause-renumbered c = renumbered
