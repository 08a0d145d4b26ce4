use Rattle.integer_bits.specs.Steps.{IsSumSoFar}
use Rattle.integer_bits.proofs.sums.ripple.Given as goal

abbrev pub invariant-loop-at : goal.invariant-loop-at
invariant-loop-at l = IsSumSoFar l.fn.circuit l.a l.b l.fn.first l.at l.circuit l.sum l.carry
