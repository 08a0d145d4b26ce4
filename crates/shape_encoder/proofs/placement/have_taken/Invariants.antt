use Rattle.shape_encoder.specs.Placing.{asks, HaveOneSoFar}
use Rattle.shape_encoder.proofs.placement.have_taken.Given as goal

abbrev pub invariant-loop-slot : goal.invariant-loop-slot
invariant-loop-slot l = HaveOneSoFar l.fn.circuit (asks l.tie l.clafers) l.layout l.taken.items l.slot l.circuit l.all
