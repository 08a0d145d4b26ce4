use Rattle.canonical_encoder.specs.Comparing.{IsWalked}
use Rattle.canonical_encoder.proofs.slots.canonical.Given as goal

abbrev pub invariant-loop-slot : goal.invariant-loop-slot
invariant-loop-slot l = IsWalked l.fn.circuit l.ground.core.now.clafers l.ground.layout.now l.fn.structure l.slot l.circuit l.all
