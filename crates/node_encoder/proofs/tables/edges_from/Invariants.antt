use Rattle.std.proofs.Common.{take}
use Rattle.node_encoder.specs.Tables.{AreBySlot}
use Rattle.node_encoder.proofs.tables.edges_from.Given as goal

abbrev pub invariant-loop-at : goal.invariant-loop-at
invariant-loop-at l = AreBySlot (take l.at l.edges) l.table.items
