use Rattle.std.proofs.Common.{arith}
use Rattle.canonical_encoder.proofs.laws.canonical_shapes_are_within_the_weight.Goals as goal

pub returns-clause-weight : goal.returns-clause-weight
returns-clause-weight c = λ clafers scopes layout fits empty right range.
    let within = c.shapes_are_within_the_weight.ensures.weight clafers scopes layout fits empty right range in
    omega (arith, within)

pub returns-clause-room : goal.returns-clause-room
returns-clause-room c = λ model scopes layout fits empty right range light.
    let within = c.shapes_are_within_the_weight.ensures.room model scopes layout fits empty right range light in
    omega (arith, within)
