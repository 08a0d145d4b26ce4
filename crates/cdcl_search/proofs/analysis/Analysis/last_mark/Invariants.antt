use Rattle.std.proofs.Common.{◌+◌, ◌<◌}
use Rattle.cdcl_search.specs.Explanations.{AreMarksBelow}
use Rattle.cdcl_search.proofs.analysis.Analysis.last_mark.Given as goal

abbrev pub invariant-loop-at : goal.invariant-loop-at
invariant-loop-at l = record {
  top : AreMarksBelow l.self.marks.items (l.at + 1);
  below : l.at < l.top;
}

abbrev pub decreases-loop-at : goal.decreases-loop-at
decreases-loop-at l = l.at
