use Rattle.cdcl_search.specs.Marks.{AreKeptTo}
use Rattle.cdcl_search.proofs.analysis.Analysis.kept.Given as goal

abbrev pub invariant-loop-literal : goal.invariant-loop-literal
invariant-loop-literal l = AreKeptTo l.trail.places.items l.self.marks.items l.self.lower.items l.kept.items l.literal-index
