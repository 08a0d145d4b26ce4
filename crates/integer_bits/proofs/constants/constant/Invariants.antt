use Rattle.integer_bits.specs.Steps.{IsSpelledSoFar}
use Rattle.integer_bits.proofs.constants.constant.Given as goal

abbrev pub invariant-loop-at : goal.invariant-loop-at
invariant-loop-at l = IsSpelledSoFar l.circuit l.value l.at l.wires l.rest
