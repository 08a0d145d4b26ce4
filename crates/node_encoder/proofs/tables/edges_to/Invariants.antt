use Rattle.std.proofs.Common.{map, take}
use Rattle.told_constraints.specs.Told.{turned}
use Rattle.node_encoder.specs.Tables.{AreBySlot}
use Rattle.node_encoder.proofs.tables.edges_to.Given as goal

abbrev pub invariant-loop-at : goal.invariant-loop-at
invariant-loop-at l = AreBySlot (map turned (take l.at l.edges)) l.table.items
