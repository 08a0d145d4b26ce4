use Rattle.pareto_loop.proofs.Small.{reached_small}
use Rattle.pareto_loop.proofs.laws.vectors_are_small.Goals as goal

pub returns : goal.returns
returns c = λ model scopes v named typed narrow r. reached_small c.intervals_hold.ensures model scopes v named typed narrow r
