use Rattle.std.proofs.Common.{length}
use Rattle.integer_bits.proofs.totals.+sum_of_some.Given as goal

abbrev pub decreases-sum_of_some : goal.decreases-sum_of_some
decreases-sum_of_some l = length l.parts.now
