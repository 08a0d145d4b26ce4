use Rattle.family_checks.proofs.Known.{family_at}
use Rattle.family_checks.proofs.stage.check_families.Goals as goal

pub returns-in-None-clause-known : goal.returns-in-None-clause-known
returns-in-None-clause-known c = family_at c.args.clafers.now c.in_ok-refusal.field-0 c.in_ok-refusal.ensures c.in-None.is
