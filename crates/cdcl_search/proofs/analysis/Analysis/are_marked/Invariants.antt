use Rattle.std.proofs.Common.{ℕ, ◌≢◌, ◌/◌, ◌<◌, get_or}
use Rattle.cdcl_search.proofs.analysis.Analysis.are_marked.Given as goal

abbrev pub invariant-loop-literal : goal.invariant-loop-literal
invariant-loop-literal l = (j : ℕ) → j < l.literal-index → get_or l.clause j 0 ≢ l.forced → get_or l.self.marks.items (get_or l.trail.places.items (get_or l.clause j 0 / 2) 0) 0 ≢ 0
