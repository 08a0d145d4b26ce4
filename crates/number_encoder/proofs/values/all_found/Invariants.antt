use Rattle.std.proofs.Common.{max}
use Rattle.number_encoder.specs.Values.{widest}
use Rattle.number_encoder.specs.Comparing.{AreFoundSoFar}
use Rattle.number_encoder.proofs.values.all_found.Given as goal

abbrev pub invariant-loop-at : goal.invariant-loop-at
invariant-loop-at l = AreFoundSoFar l.fn.circuit l.parts l.others (max (widest l.parts) (widest l.others)) l.at l.circuit l.all
