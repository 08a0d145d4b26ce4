use Rattle.shape_encoder.specs.Comparing.{IsJoinedSoFar}
use Rattle.shape_encoder.proofs.joining.join.Given as goal

abbrev pub invariant-loop-at : goal.invariant-loop-at
invariant-loop-at l = IsJoinedSoFar l.fn.circuit l.table.items l.edges l.at l.circuit l.some
