use Rattle.std.proofs.Common.{length, ◌+◌}
use Rattle.set_bits.specs.Merging.{IsChosen}
use Rattle.set_bits.proofs.sets.choose_slots.Given as goal

abbrev pub invariant-loop-slot : goal.invariant-loop-slot
invariant-loop-slot l = IsChosen l.pick l.fn.circuit l.a l.b l.circuit l.set l.rest_a l.rest_b

abbrev pub decreases-loop-slot : goal.decreases-loop-slot
decreases-loop-slot l = length l.rest_a + length l.rest_b
