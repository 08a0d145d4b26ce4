use Rattle.std.proofs.Common.{◌≡◌, ◌≤◌, length}
use Rattle.cdcl_search.specs.Explanations.{IsExplained, AreMarksBelow}
use Rattle.cdcl_search.proofs.analysis.Analysis.explain.Given as goal

abbrev pub invariant-loop-self : goal.invariant-loop-self
invariant-loop-self l = record {
  explained : IsExplained l.arena l.trail l.base l.self;
  top : AreMarksBelow l.self.marks.items l.top;
  within : l.top ≤ l.trail.count;
  enough : l.floor ≤ l.self.counter;
  start : l.self.start ≡ l.conflict;
  size : length l.self.marks.items ≡ length l.fn.self.marks.items;
}

abbrev pub decreases-loop-self : goal.decreases-loop-self
decreases-loop-self l = l.top
