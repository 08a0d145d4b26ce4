use Rattle.question_space.proofs.comparing.compared.Given as goal
use Rattle.question_space.specs.Comparisons.{IsCompared}

abbrev pub invariant-loop-at : goal.invariant-loop-at
invariant-loop-at l = IsCompared l.fn.worse l.fn.circuit l.goals l.numbers l.vector l.at l.circuit l.told
