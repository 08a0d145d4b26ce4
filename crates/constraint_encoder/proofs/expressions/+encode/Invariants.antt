-- The tests of the tuples so far, and the wires that they took.
use Rattle.std.proofs.Common.{◌*◌, take}
use Rattle.bool_circuit.specs.Circuit.{Extends}
use Rattle.clf_tree.specs.Core.{core}
use Rattle.clf_tree.specs.CoreWeights.{core_weight}
use Rattle.constraint_encoder.specs.Encoded.{AreTestsOf}
use Rattle.constraint_encoder.proofs.expressions.+encode.Given as goal

abbrev pub invariant-tests_at-loop-tuple : goal.invariant-tests_at-loop-tuple
invariant-tests_at-loop-tuple l = record {
  extends : Extends l.fn.circuit l.circuit (l.tuple-index * core_weight l.ground.scopes.now (core l.body));
  tests : AreTestsOf l.circuit l.ground.layout.now (core l.body) l.bound (take l.tuple-index l.tuples) l.tests;
}
