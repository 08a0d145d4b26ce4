use Rattle.std.proofs.Common.{◌≡◌, ◌≤◌, length}
use Rattle.cdcl_search.specs.Marks.{IsMarked, GrownTo}
use Rattle.cdcl_search.proofs.analysis.Analysis.mark_clause.Given as goal

abbrev pub invariant-loop-literal : goal.invariant-loop-literal
invariant-loop-literal l = record {
  marked : IsMarked l.trail.values.items l.trail.places.items l.base (length l.trail.literals.items) l.self.marks.items l.self.lower.items l.self.counter;
  grown : GrownTo l.trail.places.items l.fn.self.marks.items l.self.marks.items l.clause l.skip l.literal-index;
  start : l.self.start ≡ l.fn.self.start;
  steps : l.self.steps ≡ l.fn.self.steps;
  counter : l.fn.self.counter ≤ l.self.counter;
  size : length l.self.marks.items ≡ length l.fn.self.marks.items;
}
