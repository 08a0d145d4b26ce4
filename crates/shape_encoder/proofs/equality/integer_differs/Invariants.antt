use Rattle.std.proofs.Common.{◌+◌}
use Rattle.shape_encoder.specs.Comparing.{IntegerDiffersSoFar, integer_pairs_cost}
use Rattle.shape_encoder.proofs.equality.integer_differs.Given as goal

abbrev pub invariant-loop-at : goal.invariant-loop-at
invariant-loop-at l = IntegerDiffersSoFar l.fn.circuit l.clafers l.layout l.later l.at (integer_pairs_cost l.layout l.later l.at + 1) l.circuit l.all
