use Rattle.shape_encoder.specs.Comparing.{AreAloneSoFar, twins_cost}
use Rattle.shape_encoder.proofs.twins.and_no_twins.Given as goal

abbrev pub invariant-loop-place : goal.invariant-loop-place
invariant-loop-place l = AreAloneSoFar l.ties.parents.items l.ties.targets.items l.fn.circuit l.kin l.fn.all l.place (twins_cost l.ties.parents.items l.ties.targets.items l.kin l.place) l.circuit l.right
