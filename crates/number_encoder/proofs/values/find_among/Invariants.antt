use Rattle.std.proofs.Common.{length, max}
use Rattle.number_encoder.specs.Values.{widest}
use Rattle.number_encoder.specs.Comparing.{IsFoundSoFar}
use Rattle.number_encoder.proofs.values.find_among.Given as goal

abbrev pub invariant-loop-at : goal.invariant-loop-at
invariant-loop-at l = IsFoundSoFar l.fn.circuit l.part l.others (max (length l.part.bits) (widest l.others)) l.at l.circuit l.found
