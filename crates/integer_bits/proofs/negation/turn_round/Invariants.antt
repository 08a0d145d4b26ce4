use Rattle.integer_bits.specs.Steps.{IsNegativeSoFar}
use Rattle.integer_bits.proofs.negation.turn_round.Given as goal

abbrev pub invariant-loop-at : goal.invariant-loop-at
invariant-loop-at l = IsNegativeSoFar l.fn.circuit l.a l.at l.circuit l.negative l.seen
