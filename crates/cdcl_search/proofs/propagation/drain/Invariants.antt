use Rattle.std.proofs.Common.{◌≡◌, ◌-◌, ◌≤◌, length}
use Rattle.cdcl_search.specs.Trails.{zeros}
use Rattle.cdcl_search.specs.States.{IsState}
use Rattle.cdcl_search.specs.Watchings.{IsWatching, AreSettled}
use Rattle.cdcl_search.proofs.propagation.drain.Given as goal

abbrev pub invariant-loop-watches : goal.invariant-loop-watches
invariant-loop-watches l = record {
  state : IsState l.arena l.trail;
  watching : IsWatching l.arena l.trail l.watches;
  settled : AreSettled l.arena l.trail l.watches (length l.watches.short.items);
  levels : l.trail.limits ≡ l.fn.trail.limits;
  size : length l.trail.literals.items ≡ length l.fn.trail.literals.items;
  further : zeros l.trail.values.items ≤ zeros l.fn.trail.values.items;
}

abbrev pub decreases-loop-watches : goal.decreases-loop-watches
decreases-loop-watches l = length l.trail.literals.items - l.watches.done
