use Rattle.shape_encoder.proofs.Paired.{AreComparedSoFar}
use Rattle.shape_encoder.proofs.twins.and_no_twin.Given as goal

abbrev pub invariant-loop-at : goal.invariant-loop-at
invariant-loop-at l = AreComparedSoFar l.ties.parents.items l.ties.targets.items l.fn.circuit l.kin l.parents l.targets l.fn.all l.at l.circuit l.later.parents.items l.later.targets.items l.right
