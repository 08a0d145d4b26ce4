use Rattle.shape_encoder.specs.Comparing.{AreMarkedSoFar}
use Rattle.shape_encoder.proofs.siblings.mark.Given as goal

abbrev pub invariant-loop-at : goal.invariant-loop-at
invariant-loop-at l = AreMarkedSoFar l.fn.circuit l.parents l.targets l.fn.rows.items l.at l.circuit l.rows.items
