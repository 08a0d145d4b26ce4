-- The sums so far.
use Rattle.std.proofs.Common.{◌≡◌, map}
use Rattle.clf_tree.specs.Lists.{numbers_below}
use Rattle.front_report.specs.Summary.{sum_at}
use Rattle.front_report.proofs.sums.sums.Given as goal

abbrev pub invariant-loop-goal : goal.invariant-loop-goal
invariant-loop-goal l = l.values ≡ map (sum_at l.points) (numbers_below l.goal)
