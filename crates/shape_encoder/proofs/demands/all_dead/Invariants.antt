use Rattle.shape_encoder.specs.Demanding.{IsMetSoFar}
use Rattle.shape_encoder.proofs.demands.all_dead.Given as goal

abbrev pub invariant-loop-slot : goal.invariant-loop-slot
invariant-loop-slot l = IsMetSoFar l.fn.circuit l.layout l.demands l.slot l.circuit l.all
