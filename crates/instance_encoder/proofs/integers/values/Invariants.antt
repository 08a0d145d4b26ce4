use Rattle.std.proofs.Common.{length}
use Rattle.instance_encoder.specs.Wiring.{IsValuedSoFar}
use Rattle.instance_encoder.proofs.integers.values.Given as goal

abbrev pub invariant-loop-slot : goal.invariant-loop-slot
invariant-loop-slot l = IsValuedSoFar l.clafers l.slots (length l.fn.circuit) l.bits l.slot l.circuit l.values
