use Rattle.shape_encoder.specs.Comparing.{IsMadeSoFar}
use Rattle.shape_encoder.proofs.joining.ends_of.Given as goal

abbrev pub invariant-loop-at : goal.invariant-loop-at
invariant-loop-at l = IsMadeSoFar l.fn.circuit l.edges l.at l.circuit l.wires.items
