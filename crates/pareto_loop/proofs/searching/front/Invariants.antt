use Rattle.std.proofs.Common.{◌≡◌, ◌-◌, ◌≤◌, length}
use Rattle.goal_vectors.specs.Points.{ArePoints}
use Rattle.pareto_loop.proofs.searching.front.Given as goal

-- the points so far are members of the front, in order
abbrev pub invariant-loop-points : goal.invariant-loop-points
invariant-loop-points g l = record {
  read : l.task.read.now ≡ l.fn.space.read.now;
  budget : l.task.budget ≡ l.budget;
  same : l.space.read.now ≡ l.task.read.now;
  points : ArePoints l.task.read.now.model l.task.read.now.scopes l.points.items;
  few : length l.points.items ≤ l.most;
}

abbrev pub decreases-loop-points : goal.decreases-loop-points
decreases-loop-points g l = l.most - length l.points.items
