use Rattle.std.proofs.Common.{◌≡◌, length}
use Rattle.cdcl_search.specs.Watchings.{IsCovered}
use Rattle.cdcl_search.proofs.opening.watched.Given as goal

abbrev pub invariant-loop-at : goal.invariant-loop-at
invariant-loop-at l = record {
  covered : IsCovered l.given l.watches l.at;
  done : l.watches.done ≡ 0;
  lists : length l.watches.lists ≡ l.n;
}
