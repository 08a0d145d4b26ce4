use Rattle.shape_encoder.specs.Taking.{AreRanged}
use Rattle.shape_encoder.proofs.ranges.integers.Given as goal

abbrev pub invariant-loop-at : goal.invariant-loop-at
invariant-loop-at l = AreRanged l.fn.circuit l.scopes l.layout l.at l.circuit l.ends.low l.ends.high l.all
