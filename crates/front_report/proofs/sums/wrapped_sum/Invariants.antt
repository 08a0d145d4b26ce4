-- The sum so far and the points that are left lead to the whole.
use Rattle.std.proofs.Common.{◌≡◌, drop, map}
use Rattle.std.specs.Prelude.{◌+ℤ◌}
use Rattle.std.specs.Int.{int_wrap, w128}
use Rattle.clf_tree.specs.Meaning.{total}
use Rattle.front_report.specs.Summary.{value_at, sum_at}
use Rattle.front_report.proofs.sums.wrapped_sum.Given as goal

abbrev pub invariant-loop-point : goal.invariant-loop-point
invariant-loop-point l =
    int_wrap w128 (l.sum +ℤ total (map (value_at l.goal) (drop l.point-index l.points))) ≡ int_wrap w128 (sum_at l.points l.goal)
