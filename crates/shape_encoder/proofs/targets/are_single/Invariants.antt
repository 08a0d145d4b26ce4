use Rattle.std.proofs.Common.{◌+◌}
use Rattle.shape_encoder.specs.Comparing.{AreSingleSoFar, singles_cost}
use Rattle.shape_encoder.proofs.targets.are_single.Given as goal

abbrev pub invariant-loop-clafer : goal.invariant-loop-clafer
invariant-loop-clafer l = AreSingleSoFar l.fn.circuit l.clafers l.layout l.clafer (singles_cost l.clafers l.layout l.clafer + 1) l.circuit l.all
