use Rattle.shape_encoder.specs.Counting.{is_marked}
use Rattle.shape_encoder.specs.Demanding.{EachDemandedSoFar}
use Rattle.shape_encoder.proofs.limits.demand_each.Given as goal

abbrev pub invariant-loop-slot : goal.invariant-loop-slot
invariant-loop-slot l = EachDemandedSoFar l.fn.circuit l.layout l.fn.demands (is_marked l.limit.owners.items) (is_marked l.limit.counted.items) l.limit.interval l.slot l.circuit l.demands
