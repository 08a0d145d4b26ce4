use Rattle.shape_encoder.specs.Placing.{LandSoFar}
use Rattle.shape_encoder.proofs.placement.lead_to_live.Given as goal

abbrev pub invariant-loop-at : goal.invariant-loop-at
invariant-loop-at l = LandSoFar l.fn.circuit l.live l.edges l.at l.circuit l.all
