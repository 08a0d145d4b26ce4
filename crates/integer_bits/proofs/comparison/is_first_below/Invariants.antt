use Rattle.integer_bits.specs.Steps.{IsTestSoFar, is_below}
use Rattle.integer_bits.proofs.comparison.is_first_below.Given as goal

abbrev pub invariant-loop-at : goal.invariant-loop-at
invariant-loop-at l = IsTestSoFar is_below l.fn.circuit l.a l.b l.at l.circuit l.told
