use Rattle.std.proofs.Common.{◌≡◌, ◌-◌, ◌≤◌, length, get_or, []}
use Rattle.cdcl_search.specs.Trails.{zeros}
use Rattle.cdcl_search.specs.States.{IsState}
use Rattle.cdcl_search.specs.Watchings.{IsVisiting, KeepsTrue}
use Rattle.cdcl_search.proofs.propagation.visit_all.Given as goal

abbrev pub invariant-loop-index : goal.invariant-loop-index
invariant-loop-index l = record {
  state : IsState l.arena l.trail;
  visiting : IsVisiting l.arena l.trail l.watches l.literal l.index;
  within : l.index ≤ length (get_or l.watches.lists l.literal []);
  levels : l.trail.limits ≡ l.fn.trail.limits;
  size : length l.trail.literals.items ≡ length l.fn.trail.literals.items;
  further : zeros l.trail.values.items ≤ zeros l.fn.trail.values.items;
  done : l.watches.done ≡ l.fn.watches.done;
  short : l.watches.short ≡ l.fn.watches.short;
  keeps : KeepsTrue l.fn.trail l.trail;
}

abbrev pub decreases-loop-index : goal.decreases-loop-index
decreases-loop-index l = length (get_or l.watches.lists l.literal []) - l.index
