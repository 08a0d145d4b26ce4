use Rattle.shape_encoder.specs.Demanding.{AllDemandedSoFar}
use Rattle.shape_encoder.proofs.bounds.demand_all.Given as goal

abbrev pub invariant-loop-clafer : goal.invariant-loop-clafer
invariant-loop-clafer l = AllDemandedSoFar l.fn.circuit l.clafers l.layout l.fn.demands l.clafer l.circuit l.demands
