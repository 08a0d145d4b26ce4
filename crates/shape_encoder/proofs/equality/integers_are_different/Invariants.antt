use Rattle.std.proofs.Common.{◌+◌}
use Rattle.shape_encoder.specs.Comparing.{IntegersDifferSoFar, values_cost}
use Rattle.shape_encoder.proofs.equality.integers_are_different.Given as goal

abbrev pub invariant-loop-place : goal.invariant-loop-place
invariant-loop-place l = IntegersDifferSoFar l.fn.circuit l.clafers l.layout l.place (values_cost l.clafers l.layout l.place + 1) l.circuit l.all
