use Rattle.question_space.proofs.rules.conjunction.Given as goal
use Rattle.question_space.specs.Wiring.{IsConjunctionSoFar}

abbrev pub invariant-loop-other : goal.invariant-loop-other
invariant-loop-other l = IsConjunctionSoFar l.fn.circuit l.fn.first l.others l.other-index l.circuit l.all
