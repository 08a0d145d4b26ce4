use Rattle.std.proofs.Common.{◌≤◌, subst, sym}
use Rattle.instance_encoder.proofs.Valuing.{width_few}
use Rattle.instance_encoder.proofs.layouts.value_width.Goals as goal

pub returns-clause-few : goal.returns-clause-few
returns-clause-few c = subst (λ k. k ≤ 127) (sym c.width.ensures) (width_few _)
