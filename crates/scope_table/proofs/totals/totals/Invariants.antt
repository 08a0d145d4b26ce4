use Rattle.std.proofs.Common.{◌≡◌, length, get_or}
use Rattle.scope_table.specs.Steps.{AreBelow}
use Rattle.scope_table.proofs.totals.totals.Given as goal

abbrev pub invariant-loop-clafer : goal.invariant-loop-clafer
invariant-loop-clafer l = record {
  long : length l.totals.items ≡ length l.clafers;
  below : AreBelow l.clafers (λ c. get_or l.of c 0) l.clafer l.totals.items;
}
