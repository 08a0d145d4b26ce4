use Rattle.instance_encoder.proofs.Parts.{shape_few, model_few}
use Rattle.instance_encoder.proofs.laws.shapes_are_within_the_weight.Goals as goal

pub returns-clause-weight : goal.returns-clause-weight
returns-clause-weight c = λ clafers scopes layout fit empty right range. shape_few clafers scopes layout fit empty right range (c.sets_take_few_wires.ensures clafers layout)

pub returns-clause-room : goal.returns-clause-room
returns-clause-room c = λ model scopes layout fit empty right range few.
    model_few scopes model _ (shape_few model.clafers scopes layout fit empty right range (c.sets_take_few_wires.ensures model.clafers layout)) few
