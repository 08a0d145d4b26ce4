use Rattle.std.proofs.Common.{◌-◌}
use Rattle.cdcl_search.proofs.order.Order.sink.Given as goal

abbrev pub decreases-loop-at : goal.decreases-loop-at
decreases-loop-at l = 4294967296 - l.at
