use Rattle.std.proofs.Common.{max}
use Rattle.number_encoder.specs.Values.{widest}
use Rattle.number_encoder.specs.Comparing.{AreRowsSoFar}
use Rattle.number_encoder.proofs.values.compare_rows.Given as goal

abbrev pub invariant-loop-at : goal.invariant-loop-at
invariant-loop-at l = AreRowsSoFar l.fn.circuit l.parts l.others (max (widest l.parts) (widest l.others)) l.at l.circuit l.all l.seen
