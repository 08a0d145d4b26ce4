use Rattle.node_encoder.proofs.Filling.{AreBelowByClafer}
use Rattle.node_encoder.proofs.tables.slots_of_clafers.Given as goal

abbrev pub invariant-loop-at : goal.invariant-loop-at
invariant-loop-at l = AreBelowByClafer l.layout.slots l.at l.table.items
