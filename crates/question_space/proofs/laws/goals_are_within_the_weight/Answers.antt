use Rattle.question_space.proofs.laws.goals_are_within_the_weight.Goals as goal
use Rattle.instance_encoder.specs.Shaping.{shape_cost}
use Rattle.set_bits.specs.Fitting.{size}
use Rattle.std.proofs.Common.{◌+◌}
use Rattle.canonical_encoder.specs.Slots.{canonical_cost}
use Rattle.question_space.proofs.Weighing.{goals_within_weight}

pub returns : goal.returns
returns c = λ model scopes layout truths goals fits empty right range light light_goals small.
    goals_within_weight scopes model truths goals (size layout + shape_cost model.clafers scopes layout + canonical_cost layout)
    (c.canonical_shapes_are_within_the_weight.ensures.weight model.clafers scopes layout fits empty right range) light light_goals small
