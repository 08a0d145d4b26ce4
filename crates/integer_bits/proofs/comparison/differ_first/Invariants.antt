use Rattle.integer_bits.specs.Steps.{IsTestSoFar, differs}
use Rattle.integer_bits.proofs.comparison.differ_first.Given as goal

abbrev pub invariant-loop-at : goal.invariant-loop-at
invariant-loop-at l = IsTestSoFar differs l.fn.circuit l.a l.b l.at l.circuit l.told
