use Rattle.node_encoder.proofs.Living.{every_set, every_listed, every_value}
use Rattle.node_encoder.proofs.leaves.every.Goals as goal

pub returns-clause-set : goal.returns-clause-set
returns-clause-set c = every_set c.args.ground.now.core.now.clafers c.args.ground.now.scopes.now c.args.ground.now.layout.now c.args.ks.now c.in_ok-set.set c.args.ground.now.fits c.requires c.in_ok-set.ensures

pub returns-clause-listed : goal.returns-clause-listed
returns-clause-listed c = every_listed c.args.ground.now.layout.now c.args.ks.now c.in_ok-set.set c.in_ok-set.ensures

pub returns-clause-value : goal.returns-clause-value
returns-clause-value c = every_value c.args.ground.now.layout.now c.args.ks.now c.in_ok-set.set c.in_ok-set.ensures
