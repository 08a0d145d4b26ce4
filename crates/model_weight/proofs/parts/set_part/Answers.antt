use Rattle.model_weight.proofs.NoRoom.{kind_bounds}
use Rattle.model_weight.proofs.parts.set_part.Goals as goal

pub returns-clause-bounds : goal.returns-clause-bounds
returns-clause-bounds c =
    kind_bounds c.args.rooms.now.clafers.now c.args.rooms.now.scopes.now c.args.kind c.nodes_in-nodes.result c.sum_between-bounds.result c.sum_between-bounds.ensures
    c.nodes_in-nodes.ensures
