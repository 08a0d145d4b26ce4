use Rattle.std.proofs.Common.{◌+◌}
use Rattle.shape_encoder.specs.Comparing.{KinDifferSoFar, kins_cost}
use Rattle.shape_encoder.proofs.nested.kin_differ.Given as goal

abbrev pub invariant-loop-clafer : goal.invariant-loop-clafer
invariant-loop-clafer l = KinDifferSoFar l.fn.circuit l.clafers l.layout l.clafer (kins_cost l.clafers l.layout l.clafer + 1) l.circuit l.all
