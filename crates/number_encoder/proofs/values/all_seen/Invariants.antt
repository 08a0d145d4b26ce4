use Rattle.number_encoder.specs.Comparing.{IsSeenSoFar}
use Rattle.number_encoder.proofs.values.all_seen.Given as goal

abbrev pub invariant-loop-at : goal.invariant-loop-at
invariant-loop-at l = IsSeenSoFar l.fn.circuit l.parts l.seen l.fn.first l.at l.circuit l.all
