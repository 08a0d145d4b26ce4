use Rattle.question_space.proofs.laws.questions_are_within_the_weight.Goals as goal
use Rattle.instance_encoder.specs.Shaping.{shape_cost}
use Rattle.set_bits.specs.Fitting.{size}
use Rattle.std.proofs.Common.{◌+◌}
use Rattle.canonical_encoder.specs.Slots.{canonical_cost}
use Rattle.question_space.proofs.Weighing.{within_weight}

pub returns : goal.returns
returns c = λ model scopes layout truths fits empty right range light small.
    within_weight scopes model truths (size layout + shape_cost model.clafers scopes layout + canonical_cost layout)
    (c.canonical_shapes_are_within_the_weight.ensures.weight model.clafers scopes layout fits empty right range) light small
