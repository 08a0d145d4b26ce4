use Rattle.question_space.proofs.vectors.blocks.Given as goal
use Rattle.question_space.specs.Comparisons.{AreBlocks}

abbrev pub invariant-loop-vector : goal.invariant-loop-vector
invariant-loop-vector l = AreBlocks l.fn.circuit l.goals l.numbers l.found l.vector-index l.circuit l.wires
