use Rattle.node_encoder.proofs.Joining.{are_gathered}
use Rattle.node_encoder.proofs.gathering.gathered.Goals as goal

pub returns : goal.returns
returns c =
    are_gathered c.args.ground.now.core.now.clafers c.args.ground.now.scopes.now c.args.ground.now.layout.now c.args.step c.args.ks.now c.args.of.now c.table_of-table.result.now.items c.in_ok-edges.edges c.args.ground.now.fits c.table_of-table.ensures c.in_ok-edges.ensures
