use Rattle.std.proofs.Common.{◌≡◌}
use Rattle.model_weight.specs.Capped.{power}
use Rattle.model_weight.proofs.numbers.power.Given as goal

abbrev pub invariant-loop-factor : goal.invariant-loop-factor
invariant-loop-factor l = l.product ≡ power l.base l._factor
