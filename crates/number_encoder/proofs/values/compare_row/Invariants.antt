use Rattle.std.proofs.Common.{length, max}
use Rattle.number_encoder.specs.Values.{widest}
use Rattle.number_encoder.specs.Comparing.{IsRowSoFar}
use Rattle.number_encoder.proofs.values.compare_row.Given as goal

abbrev pub invariant-loop-at : goal.invariant-loop-at
invariant-loop-at l = IsRowSoFar l.fn.circuit l.part l.others l.seen (max (length l.part.bits) (widest l.others)) l.at l.circuit l.found l.next
