use Rattle.set_bits.specs.Reaching.{IsCollected}
use Rattle.set_bits.proofs.images.collect.Given as goal

abbrev pub invariant-loop-slot : goal.invariant-loop-slot
invariant-loop-slot l = IsCollected l.table.items l.slot l.set
