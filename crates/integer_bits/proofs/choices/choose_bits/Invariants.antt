use Rattle.integer_bits.specs.Steps.{IsChosenSoFar}
use Rattle.integer_bits.proofs.choices.choose_bits.Given as goal

abbrev pub invariant-loop-at : goal.invariant-loop-at
invariant-loop-at l = IsChosenSoFar l.fn.circuit l.pick l.a l.b l.at l.circuit l.chosen
