use Rattle.set_bits.specs.Reaching.{IsTabled}
use Rattle.set_bits.proofs.images.table_of.Given as goal

abbrev pub invariant-loop-at : goal.invariant-loop-at
invariant-loop-at l = IsTabled l.set l.at l.table.items
