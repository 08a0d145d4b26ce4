use Rattle.shape_encoder.specs.Taking.{IsSome}
use Rattle.shape_encoder.proofs.ranges.are_false.Given as goal

abbrev pub invariant-loop-at : goal.invariant-loop-at
invariant-loop-at l = IsSome l.fn.circuit l.wires l.at l.circuit l.some
