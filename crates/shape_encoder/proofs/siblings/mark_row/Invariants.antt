use Rattle.shape_encoder.specs.Comparing.{IsMarkedSoFar}
use Rattle.shape_encoder.proofs.siblings.mark_row.Given as goal

abbrev pub invariant-loop-at : goal.invariant-loop-at
invariant-loop-at l = IsMarkedSoFar l.fn.circuit l.here l.targets l.fn.row.items l.at l.circuit l.row.items
