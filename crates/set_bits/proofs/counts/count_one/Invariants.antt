use Rattle.set_bits.specs.Counts.{IsMarkedSoFar}
use Rattle.set_bits.proofs.counts.count_one.Given as goal

abbrev pub invariant-loop-at : goal.invariant-loop-at
invariant-loop-at l = IsMarkedSoFar l.fn.circuit l.marks l.fn.first l.wire l.at l.circuit l.next l.below
