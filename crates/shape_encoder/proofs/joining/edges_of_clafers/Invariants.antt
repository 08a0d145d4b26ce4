use Rattle.std.proofs.Common.{take}
use Rattle.shape_encoder.specs.Comparing.{HoldsBy, clafer_from}
use Rattle.shape_encoder.proofs.joining.edges_of_clafers.Given as goal

abbrev pub invariant-loop-at : goal.invariant-loop-at
invariant-loop-at l = HoldsBy (clafer_from l.layout) (take l.at l.layout.targets) l.count l.table.items
