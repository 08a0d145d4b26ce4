use Rattle.std.proofs.Common.{take}
use Rattle.shape_encoder.specs.Comparing.{HoldsEdges}
use Rattle.shape_encoder.proofs.joining.edges_of_slots.Given as goal

abbrev pub invariant-loop-at : goal.invariant-loop-at
invariant-loop-at l = HoldsEdges (take l.at l.edges) l.count l.table.items
