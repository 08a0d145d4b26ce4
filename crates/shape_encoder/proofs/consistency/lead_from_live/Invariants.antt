use Rattle.shape_encoder.specs.Taking.{IsLedSoFar}
use Rattle.shape_encoder.proofs.consistency.lead_from_live.Given as goal

abbrev pub invariant-loop-slot : goal.invariant-loop-slot
invariant-loop-slot l = IsLedSoFar l.fn.circuit l.taken.items l.live l.slot l.circuit l.all
