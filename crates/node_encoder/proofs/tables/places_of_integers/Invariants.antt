use Rattle.node_encoder.proofs.Filling.{ArePlaces}
use Rattle.node_encoder.proofs.tables.places_of_integers.Given as goal

abbrev pub invariant-loop-at : goal.invariant-loop-at
invariant-loop-at l = ArePlaces l.layout.values l.at l.table.items
