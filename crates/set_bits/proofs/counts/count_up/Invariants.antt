use Rattle.set_bits.specs.Counts.{IsCountedSoFar}
use Rattle.set_bits.proofs.counts.count_up.Given as goal

abbrev pub invariant-loop-at : goal.invariant-loop-at
invariant-loop-at l = IsCountedSoFar l.fn.circuit l.wires l.n l.on l.at l.circuit l.marks
