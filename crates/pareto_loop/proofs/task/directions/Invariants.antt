use Rattle.std.proofs.Common.{◌≡◌, map, take}
use Rattle.pareto_loop.proofs.task.directions.Given as goal

-- the ways of the goals so far
abbrev pub invariant-loop-goal : goal.invariant-loop-goal
invariant-loop-goal l = l.least ≡ map (λ g. g.least) (take l.goal-index l.goals)
