use Rattle.std.proofs.Common.{◌≡◌, ◌+◌, drop}
use Rattle.std.specs.List.{prefix_len}
use Rattle.clf_tree.specs.Front.{before}
use Rattle.pareto_loop.proofs.points.place_of.Given as goal

-- the points so far are before the vector
abbrev pub invariant-loop-place : goal.invariant-loop-place
invariant-loop-place l =
    l.place + prefix_len (λ p. before l.ways.least p.vector.values l.vector.values) (drop l.place l.points)
    ≡ prefix_len (λ p. before l.ways.least p.vector.values l.vector.values) l.points
