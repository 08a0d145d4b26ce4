use Rattle.quantifier_encoder.specs.Passing.{IsToldSoFar, some_passes}
use Rattle.quantifier_encoder.proofs.quantifiers.one_passes.Given as goal

abbrev pub invariant-loop-at : goal.invariant-loop-at
invariant-loop-at l = IsToldSoFar some_passes 2 l.fn.circuit l.tuples l.tests l.at l.circuit l.some
