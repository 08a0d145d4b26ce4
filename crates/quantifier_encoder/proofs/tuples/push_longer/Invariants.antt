use Rattle.quantifier_encoder.specs.Tuples.{AreLongerSoFar}
use Rattle.quantifier_encoder.proofs.tuples.push_longer.Given as goal

abbrev pub invariant-loop-at : goal.invariant-loop-at
invariant-loop-at l = AreLongerSoFar l.fn.circuit l.set l.disj l.tuple l.fn.longer l.at l.circuit l.longer
