use Rattle.std.proofs.Common.{length}
use Rattle.integer_bits.proofs.products.+times.Given as goal

abbrev pub decreases-times : goal.decreases-times
decreases-times l = length l.by.now
