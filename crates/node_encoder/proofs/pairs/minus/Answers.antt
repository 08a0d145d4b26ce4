use Rattle.std.proofs.Common.{◌&&◌, ◌∙◌, ap}
use Rattle.told_constraints.specs.Told.{is_listed}
use Rattle.node_encoder.proofs.pairs.minus.Goals as goal

pub returns-clause-set : goal.returns-clause-set
returns-clause-set c = c.in_ok-set.ensures.sets c.minus.new.circuit c.in_ok-both.ensures.set

pub returns-clause-listed : goal.returns-clause-listed
returns-clause-listed c = c.in_ok-set.ensures.listed

pub returns-clause-value : goal.returns-clause-value
returns-clause-value c = λ bits s. c.in_ok-set.ensures.value c.minus.new.circuit bits s ∙ ap (λ b. is_listed c.args.ground.now.layout.now c.args.ks.now s && b) (c.in_ok-both.ensures.value bits s)
