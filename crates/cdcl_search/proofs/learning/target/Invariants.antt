use Rattle.std.proofs.Common.{◌≤◌, ◌<◌, length, get_or}
use Rattle.cdcl_search.proofs.learning.target.Given as goal

abbrev pub invariant-loop-level : goal.invariant-loop-level
invariant-loop-level l = record {
  within : l.level < length l.trail.limits.items;
  far : l.reach ≤ get_or l.trail.limits.items l.level 0;
}

abbrev pub decreases-loop-level : goal.decreases-loop-level
decreases-loop-level l = l.level
