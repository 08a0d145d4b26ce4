use Rattle.shape_encoder.specs.Taking.{AreTaken}
use Rattle.shape_encoder.proofs.taking.take_edges.Given as goal

abbrev pub invariant-loop-at : goal.invariant-loop-at
invariant-loop-at l = AreTaken l.fn.circuit l.edges l.at l.circuit l.wires.items l.single
