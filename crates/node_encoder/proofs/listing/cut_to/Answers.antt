use Rattle.node_encoder.proofs.Cutting.{cut_is}
use Rattle.node_encoder.proofs.listing.cut_to.Goals as goal

pub returns : goal.returns
returns c = cut_is c.args.layout.now c.args.ks.now c.args.set.now c.in_ok-found.found c.in_ok-found.ensures
