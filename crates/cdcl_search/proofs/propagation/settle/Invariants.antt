use Rattle.std.proofs.Common.{◌≡◌, ◌≤◌, length}
use Rattle.cdcl_search.specs.Trails.{zeros}
use Rattle.cdcl_search.specs.States.{IsState}
use Rattle.cdcl_search.specs.Watchings.{IsWatching, AreSettled}
use Rattle.cdcl_search.proofs.propagation.settle.Given as goal

abbrev pub invariant-loop-at : goal.invariant-loop-at
invariant-loop-at l = record {
  state : IsState l.arena l.trail;
  watching : IsWatching l.arena l.trail l.watches;
  settled : AreSettled l.arena l.trail l.watches l.at;
  levels : l.trail.limits ≡ l.fn.trail.limits;
  size : length l.trail.literals.items ≡ length l.fn.trail.literals.items;
  further : zeros l.trail.values.items ≤ zeros l.fn.trail.values.items;
}
