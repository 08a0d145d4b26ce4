use Rattle.quantifier_encoder.specs.Tuples.{AreTuplesSoFar}
use Rattle.quantifier_encoder.proofs.tuples.tuples_of.Given as goal

abbrev pub invariant-loop-round : goal.invariant-loop-round
invariant-loop-round l = AreTuplesSoFar l.fn.circuit l.set l.disj l._round l.circuit l.tuples
