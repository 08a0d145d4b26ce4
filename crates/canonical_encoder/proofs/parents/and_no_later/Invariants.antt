use Rattle.canonical_encoder.specs.Comparing.{IsComparedSoFar}
use Rattle.canonical_encoder.proofs.parents.and_no_later.Given as goal

abbrev pub invariant-loop-at : goal.invariant-loop-at
invariant-loop-at l = IsComparedSoFar l.fn.circuit l.earlier l.later l.fn.all l.at l.circuit l.compared
