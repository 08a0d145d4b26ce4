use Rattle.shape_encoder.specs.Counting.{is_marked, AreCountedLive}
use Rattle.shape_encoder.proofs.limits.live_wires.Given as goal

abbrev pub invariant-loop-slot : goal.invariant-loop-slot
invariant-loop-slot l = AreCountedLive l.layout (is_marked l.marks.items) l.slot l.wires
