use Rattle.std.proofs.Common.{◌≡◌, ◌+◌, ◌*◌, ◌<◌, length, take}
use Rattle.cdcl_search.specs.Trails.{zeros}
use Rattle.cdcl_search.specs.Runs.{IsWhole, AreFresh, IsLonger}
use Rattle.cdcl_search.proofs.engine.Engine.run.Given as goal

abbrev pub invariant-loop-at : goal.invariant-loop-at
invariant-loop-at g l = record {
  whole : IsWhole l.self;
  some : 0 < l.left;
  count : length l.self.arena + l.left ≡ length l.fn.self.arena + l.budget;
  new : AreFresh (length l.fn.self.arena) l.self.arena;
  longer : IsLonger l.fn.self.arena l.fn.self.chains.items l.self.arena l.self.chains.items;
  given : take l.self.given l.self.arena ≡ take l.fn.self.given l.fn.self.arena;
  size : length l.self.trail.literals.items ≡ length l.fn.self.trail.literals.items;
}

abbrev pub decreases-loop-at : goal.decreases-loop-at
decreases-loop-at g l = l.left * (2 * length l.self.trail.literals.items + 2) + zeros l.self.trail.values.items
