use Rattle.std.proofs.Common.{◌≡◌, length}
use Rattle.cdcl_search.proofs.lists.Lists.new.Given as goal

abbrev pub invariant-loop-at : goal.invariant-loop-at
invariant-loop-at l = length l.rows.items ≡ l.at
