use Rattle.std.proofs.Common.{◌∙◌}
use Rattle.model_weight.proofs.NoRoom.{kind_bounds}
use Rattle.model_weight.proofs.integers.sum_part.Goals as goal

pub returns-clause-bounds : goal.returns-clause-bounds
returns-clause-bounds c =
    c.number_part.ensures.bounds
    ∙ kind_bounds c.args.rooms.now.clafers.now c.args.rooms.now.scopes.now c.args.of.now.kind c.args.of.now.nodes c.sum_between-bounds.result c.sum_between-bounds.ensures
    c.requires.nodes
