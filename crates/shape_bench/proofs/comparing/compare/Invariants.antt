use Rattle.std.proofs.Common.{◌≤◌}
use Rattle.shape_bench.proofs.comparing.compare.Given as goal

abbrev pub invariant-loop-number : goal.invariant-loop-number
invariant-loop-number l = (l.right ≤ l.number) × (l.differences ≤ l.number)
