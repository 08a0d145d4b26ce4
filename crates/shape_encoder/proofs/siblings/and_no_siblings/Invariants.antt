use Rattle.shape_encoder.specs.Comparing.{AreCountedSoFar}
use Rattle.shape_encoder.proofs.siblings.and_no_siblings.Given as goal

abbrev pub invariant-loop-place : goal.invariant-loop-place
invariant-loop-place l = AreCountedSoFar l.ties.parents.items l.ties.targets.items l.fn.circuit l.kin l.fn.all l.place l.circuit l.rows.items l.right
