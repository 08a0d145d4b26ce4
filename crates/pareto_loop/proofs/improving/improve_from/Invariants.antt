use Rattle.std.proofs.Common.{◌≡◌}
use Rattle.pareto_loop.specs.Searching.{rest_of, IsOnTheWay}
use Rattle.pareto_loop.proofs.improving.improve_from.Given as goal

-- the best so far is beyond the points
abbrev pub invariant-loop-next : goal.invariant-loop-next
invariant-loop-next g l = record {
  same : l.space.read.now ≡ l.task.read.now;
  way : IsOnTheWay l.task.read.now l.points l.climb.best;
}

abbrev pub decreases-loop-next : goal.decreases-loop-next
decreases-loop-next g l = rest_of l.task.read.now l.climb
