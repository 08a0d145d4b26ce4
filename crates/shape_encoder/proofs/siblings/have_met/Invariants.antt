use Rattle.shape_encoder.specs.Comparing.{HaveMetSoFar}
use Rattle.shape_encoder.proofs.siblings.have_met.Given as goal

abbrev pub invariant-loop-at : goal.invariant-loop-at
invariant-loop-at l = HaveMetSoFar l.fn.circuit l.rows.items l.parents l.targets l.at l.circuit l.some
