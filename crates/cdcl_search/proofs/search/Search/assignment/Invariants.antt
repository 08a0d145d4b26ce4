use Rattle.cdcl_search.proofs.Progress_steps.{AreValues}
use Rattle.cdcl_search.proofs.search.Search.assignment.Given as goal

abbrev pub invariant-loop-variable : goal.invariant-loop-variable
invariant-loop-variable l = AreValues l.self-inside.engine.trail.values.items l.variable l.values.items
