use Rattle.quantifier_encoder.specs.Passing.{IsToldSoFar, all_pass}
use Rattle.quantifier_encoder.proofs.quantifiers.each_passes.Given as goal

abbrev pub invariant-loop-at : goal.invariant-loop-at
invariant-loop-at l = IsToldSoFar all_pass 3 l.fn.circuit l.tuples l.tests l.at l.circuit l.all
