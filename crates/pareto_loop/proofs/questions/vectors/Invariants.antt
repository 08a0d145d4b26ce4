use Rattle.std.proofs.Common.{◌≡◌, map, take}
use Rattle.goal_vectors.specs.Points.{vectors_of}
use Rattle.pareto_loop.proofs.questions.vectors.Given as goal

-- the vectors of the points so far
abbrev pub invariant-loop-point : goal.invariant-loop-point
invariant-loop-point l = map (λ f. f.values) l.found ≡ vectors_of (take l.point-index l.points)
