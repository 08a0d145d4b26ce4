use Rattle.quantifier_encoder.specs.Tuples.{AreExtendedSoFar}
use Rattle.quantifier_encoder.proofs.tuples.longer_by_one.Given as goal

abbrev pub invariant-loop-at : goal.invariant-loop-at
invariant-loop-at l = AreExtendedSoFar l.fn.circuit l.set l.disj l.tuples l.at l.circuit l.longer
