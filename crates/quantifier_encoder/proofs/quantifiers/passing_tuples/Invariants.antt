use Rattle.quantifier_encoder.specs.Passing.{ArePassingSoFar}
use Rattle.quantifier_encoder.proofs.quantifiers.passing_tuples.Given as goal

abbrev pub invariant-loop-at : goal.invariant-loop-at
invariant-loop-at l = ArePassingSoFar l.fn.circuit l.tuples l.tests l.at l.circuit l.passing
