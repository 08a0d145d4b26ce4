use Rattle.pareto_loop.proofs.Small.{dominance_falls}
use Rattle.pareto_loop.proofs.task.dominance_ends.Goals as goal

pub returns : goal.returns
returns c =
    dominance_falls c.intervals_hold.ensures c.args.read.now.model c.args.read.now.scopes
    c.model.ensures.known c.model.ensures.typed c.args.read.now.narrow
